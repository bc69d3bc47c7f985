-- the jobs of timers that went out of a CPU's base: what is told and written of them, item by item
use Rattle.std.proofs.Common.{◌≡◌, ◌⊎◌, ℕ, List, [], ◌∷◌, ◌++◌, refl, sym, ap, ◌∙◌}
use Rattle.std.proofs.Common.{suc, ◌+◌, ◌≤◌, ◌<◌, arith, length}
use Rattle.std.proofs.Common.{subst, inl, inr, append-nil, append_assoc}
use Rattle.tm_base.specs.declared.names.Class.{Class}
use Rattle.wheel_core.specs.declared.item.Item.{Item}
use Rattle.cpu_bases.specs.declared.entry.Act.{Act}
use Rattle.cpu_bases.specs.declared.entry.Act.TheVariants.{Armed}
use Rattle.core_world.specs.World.{World}
use Rattle.walk_inactive.specs.core_state.Shown.{as_cpu}
use Rattle.job_table.specs.declared.jobs.JobCall.{JobCall}
use Rattle.job_table.specs.declared.jobs.JobReply.{JobReply}
use Rattle.job_table.specs.declared.jobs.JobReply.TheVariants as replies
use Rattle.walk_inactive.specs.shared_rule.declared.parts.Did.{Did}
use Rattle.walk_inactive.specs.shared_rule.declared.parts.Receipt.{Receipt}
use Rattle.shared_acts.specs.declared.runs.Ran.{Ran}
use Rattle.shared_acts.specs.declared.runs.RanReply.{RanReply}
use Rattle.shared_acts.specs.declared.runs.RanReply.TheVariants as ran
use Rattle.shared_acts.specs.Following.{Follows, FollowsBy, IsOwed, IsRunOfReceipt, IsHandOutTold, Owed}
use Rattle.shared_acts.specs.Following.{call_of, owed_by}
use Rattle.shared_acts.specs.Pieces.{HandsOutItems, IsHandOut}
use Rattle.shared_acts.proofs.Follow.{Wider, told_wider}
use Rattle.remote_expiry.specs.Order.{AreArmings}
use Rattle.remote_expiry.specs.Running.{ArmsAgain, IsRunFromBase, IsRan, call_to}
use Rattle.remote_expiry.specs.Stopping.{AsksAgain, FollowsInPart}

-- ALL of these timers are told, in their order, after hand-outs whose receipts are of the first so
-- many, and written is what their jobs asked for
unfoldable pub AllOf : World → (ℕ → JobCall → JobReply) → (home runner count : ℕ) → List Did
    → List Item → List Ran → List Receipt → Type 0
AllOf o jobs home runner count seen [] told rs = (told ≡ []) × (rs ≡ [])
AllOf o jobs home runner count seen (i ∷ is) [] rs = ⊥
AllOf o jobs home runner count seen (i ∷ is) (x ∷ xs) rs =
    (mine : List Receipt) × (later : List Receipt) × (rs ≡ mine ++ later)
    × IsRan o jobs home runner count seen i x
    × ArmsAgain o.clock runner i (jobs i.job (call_to o.clock runner i)) x.reply mine
    × AllOf o jobs home runner count seen is xs later

-- SOME of these timers are told, in their order, and the others were to be armed again; written is
-- what the jobs of those that are told asked for
unfoldable pub PartOf : World → (ℕ → JobCall → JobReply) → (home runner count : ℕ) → List Did
    → List Item → List Ran → List Receipt → Type 0
PartOf o jobs home runner count seen [] told rs = (told ≡ []) × (rs ≡ [])
PartOf o jobs home runner count seen (i ∷ is) told rs =
    ((x : Ran) × (xs : List Ran) × (mine : List Receipt) × (later : List Receipt)
    × (told ≡ x ∷ xs) × (rs ≡ mine ++ later) × IsRan o jobs home runner count seen i x
    × ArmsAgain o.clock runner i (jobs i.job (call_to o.clock runner i)) x.reply mine
    × PartOf o jobs home runner count seen is xs later)
    ⊎ (AsksAgain (jobs i.job (call_to o.clock runner i))
    × PartOf o jobs home runner count seen is told rs)

-- what is written as a timer is armed again is an arming
pub arming_alone : (now runner : ℕ) (i : Item) (job : JobReply) (reply : RanReply)
    (mine : List Receipt) → ArmsAgain now runner i job reply mine → AreArmings mine
arming_alone now runner i replies.Done reply mine arms = subst AreArmings (sym arms) tt
arming_alone now runner i (replies.Mark m) reply mine arms = subst AreArmings (sym arms) tt
arming_alone now runner i (replies.Again c delay) ran.Done mine arms =
    subst AreArmings (sym arms) tt
arming_alone now runner i (replies.Again c delay) (ran.Mark m) mine arms =
    subst AreArmings (sym arms) tt
arming_alone now runner i (replies.Again c delay) (ran.Again d wheel) mine arms =
    subst AreArmings (sym arms.1) (arms.2.act, tt)
arming_alone now runner i (replies.Again c delay) (ran.Skip cpu) mine arms =
    subst AreArmings (sym arms) tt

pub armings_behind : (rs more : List Receipt) → AreArmings rs → AreArmings more
    → AreArmings (rs ++ more)
armings_behind [] more h k = k
armings_behind (r ∷ rs) more h k = (h.0, armings_behind rs more h.1 k)

module _ (o : World) (jobs : ℕ → JobCall → JobReply) (home runner : ℕ) where
  -- what a job replied
  abbrev said : Item → JobReply
  said i = jobs i.job (call_to o.clock runner i)

  -- one more
  pub all_more : (count : ℕ) (seen : List Did) (is : List Item) (i : Item) (told : List Ran)
      (x : Ran) (rs mine : List Receipt) → AllOf o jobs home runner count seen is told rs
      → IsRan o jobs home runner count seen i x → ArmsAgain o.clock runner i (said i) x.reply mine
      → AllOf o jobs home runner count seen (is ++ i ∷ []) (told ++ x ∷ []) (rs ++ mine)
  unfolding AllOf
  all_more count seen [] i told x rs mine h new arms =
      subst (λ xs. AllOf o jobs home runner count seen (i ∷ []) (xs ++ x ∷ []) (rs ++ mine))
      (sym h.0)
      (subst (λ ys. AllOf o jobs home runner count seen (i ∷ []) (x ∷ []) (ys ++ mine)) (sym h.1)
      (mine, [], sym (append-nil mine), new, arms, (refl, refl)))
  all_more count seen (j ∷ is) i [] x rs mine h new arms = absurd h
  all_more count seen (j ∷ is) i (y ∷ ys) x rs mine h new arms = (
    h.0,
    h.1 ++ mine,
    ap (λ (zs : List Receipt). zs ++ mine) h.2 ∙ append_assoc h.0 h.1 mine,
    h.3,
    h.4,
    all_more count seen is i ys x h.1 mine h.5 new arms,
  )

  -- where more was seen
  pub all_wider : (count : ℕ) (seen wider : List Did) (is : List Item) (told : List Ran)
      (rs : List Receipt) → Wider seen wider → AllOf o jobs home runner count seen is told rs
      → AllOf o jobs home runner count wider is told rs
  unfolding AllOf
  all_wider count seen wider [] told rs w h = h
  all_wider count seen wider (j ∷ is) [] rs w h = absurd h
  all_wider count seen wider (j ∷ is) (y ∷ ys) rs w h = (
    h.0,
    h.1,
    h.2,
    record {
      is = h.3.is;
      told = λ place low.
          told_wider o j.id place seen wider (said j) y.reply w (h.3.told place low);
    },
    h.4,
    all_wider count seen wider is ys h.1 w h.5,
  )

  -- one more, which is told
  pub part_more : (count : ℕ) (seen : List Did) (is : List Item) (i : Item) (told : List Ran)
      (x : Ran) (rs mine : List Receipt) → PartOf o jobs home runner count seen is told rs
      → IsRan o jobs home runner count seen i x → ArmsAgain o.clock runner i (said i) x.reply mine
      → PartOf o jobs home runner count seen (is ++ i ∷ []) (told ++ x ∷ []) (rs ++ mine)
  unfolding PartOf
  part_more count seen [] i told x rs mine h new arms = inl (
    x,
    [],
    mine,
    [],
    ap (λ (l : List Ran). l ++ x ∷ []) h.0,
    ap (λ (l : List Receipt). l ++ mine) h.1 ∙ sym (append-nil mine),
    new,
    arms,
    (refl, refl),
  )
  part_more count seen (j ∷ is) i told x rs mine (inl h) new arms = inl (
    h.0,
    h.1 ++ x ∷ [],
    h.2,
    h.3 ++ mine,
    ap (λ (l : List Ran). l ++ x ∷ []) h.4,
    ap (λ (l : List Receipt). l ++ mine) h.5 ∙ append_assoc h.2 h.3 mine,
    h.6,
    h.7,
    part_more count seen is i h.1 x h.3 mine h.8 new arms,
  )
  part_more count seen (j ∷ is) i told x rs mine (inr h) new arms =
      inr (h.0, part_more count seen is i told x rs mine h.1 new arms)

  -- and one that isn't
  pub part_skip : (count : ℕ) (seen : List Did) (is : List Item) (i : Item) (told : List Ran)
      (rs : List Receipt) → PartOf o jobs home runner count seen is told rs → AsksAgain (said i)
      → PartOf o jobs home runner count seen (is ++ i ∷ []) told rs
  unfolding PartOf
  part_skip count seen [] i told rs h asked = inr (asked, h)
  part_skip count seen (j ∷ is) i told rs (inl h) asked = inl (
    h.0,
    h.1,
    h.2,
    h.3,
    h.4,
    h.5,
    h.6,
    h.7,
    part_skip count seen is i h.1 h.3 h.8 asked,
  )
  part_skip count seen (j ∷ is) i told rs (inr h) asked =
      inr (h.0, part_skip count seen is i told rs h.1 asked)

  -- a run of which more was seen
  ran_wider : (count : ℕ) (seen wider : List Did) (i : Item) (x : Ran) → Wider seen wider
      → IsRan o jobs home runner count seen i x → IsRan o jobs home runner count wider i x
  ran_wider count seen wider i x w is = record {
    is = is.is;
    told = λ place low.
        told_wider o i.id place seen wider (said i) x.reply w (is.told place low);
  }

  pub part_wider : (count : ℕ) (seen wider : List Did) (is : List Item) (told : List Ran)
      (rs : List Receipt) → Wider seen wider → PartOf o jobs home runner count seen is told rs
      → PartOf o jobs home runner count wider is told rs
  unfolding PartOf
  part_wider count seen wider [] told rs w h = h
  part_wider count seen wider (j ∷ is) told rs w (inl h) = inl (
    h.0,
    h.1,
    h.2,
    h.3,
    h.4,
    h.5,
    ran_wider count seen wider j h.0 w h.6,
    h.7,
    part_wider count seen wider is h.1 h.3 w h.8,
  )
  part_wider count seen wider (j ∷ is) told rs w (inr h) =
      inr (h.0, part_wider count seen wider is told rs w h.1)

  -- the receipt of a hand-out, and the item
  run_of : (class : Class) (i : Item) (r : Receipt) (x : Ran)
      → IsHandOut home runner class i r → IsRunFromBase home i x → IsRunOfReceipt r x
  run_of class i r x out is = record {
    timer = ap (λ n. record { 0 = n }) (is.timer ∙ sym out.timer);
    home = ap (λ n. record { 0 = n }) (is.at ∙ sym out.cpu);
    wheel = is.wheel ∙ sym out.wheel;
  }

  same_call : (class : Class) (i : Item) (r : Receipt) → IsHandOut home runner class i r
      → jobs r.entry.job (call_of o.clock runner r.entry) ≡ said i
  same_call class i r out = λ k. jobs (out.job k) (record {
    timer = record { 0 = out.timer k };
    arg = out.arg k;
    now = o.clock;
    runner = as_cpu runner;
  })

  -- WHAT IS OWED, and the receipts that meet it
  abbrev pub ArePaid : List Owed → List Receipt → Type 0
  ArePaid [] rs = rs ≡ []
  ArePaid (x ∷ owed) [] = ⊥
  ArePaid (x ∷ owed) (r ∷ rs) =
      ((r.entry.act ≡ Armed) × IsOwed o.clock runner x r) × ArePaid owed rs

  paid_more : (owed more : List Owed) (rs ss : List Receipt) → ArePaid owed rs
      → ArePaid more ss → ArePaid (owed ++ more) (rs ++ ss)
  paid_more [] more rs ss h k = subst (λ x. ArePaid more (x ++ ss)) (sym h) k
  paid_more (x ∷ owed) more [] ss h k = absurd h
  paid_more (x ∷ owed) more (r ∷ rs) ss h k = (h.0, paid_more owed more rs ss h.1 k)

  -- what a hand-out leaves to be armed is what its item does
  paid_by : (class : Class) (i : Item) (r : Receipt) (reply : JobReply) (told : RanReply)
      (mine : List Receipt) → IsHandOut home runner class i r
      → ArmsAgain o.clock runner i reply told mine → ArePaid (owed_by reply told r.entry) mine
  paid_by class i r replies.Done told mine out arms = arms
  paid_by class i r (replies.Mark m) told mine out arms = arms
  paid_by class i r (replies.Again c delay) ran.Done mine out arms = arms
  paid_by class i r (replies.Again c delay) (ran.Mark m) mine out arms = arms
  paid_by class i r (replies.Again c delay) (ran.Again d wheel) mine out arms =
      subst (ArePaid (owed_by (replies.Again c delay) (ran.Again d wheel) r.entry)) (sym arms.1) (
        (
          arms.2.act,
          record {
            cpu = arms.2.cpu;
            line = arms.2.line;
            timer = ap (λ n. record { 0 = n }) (arms.2.timer ∙ sym out.timer);
            expires = arms.2.expires;
            class = arms.2.of_class;
            wheel = arms.2.told;
            job = arms.2.job ∙ sym out.job;
            arg = arms.2.arg ∙ sym out.arg;
          },
        ),
        refl,
      )
  paid_by class i r (replies.Again c delay) (ran.Skip cpu) mine out arms = arms

  -- the armings come in the order in which they are owed
  paid_up : (seen : List Did) (place : ℕ) (owed : List Owed) (rs : List Receipt)
      → ArePaid owed rs → Follows o jobs runner seen place rs owed []
  unfolding Follows
  paid_up seen place [] rs h =
      subst (λ x. Follows o jobs runner seen place x [] []) (sym h) (refl, refl)
  paid_up seen place (x ∷ owed) [] h = absurd h
  paid_up seen place (x ∷ owed) (r ∷ rs) h =
      subst (λ (act : Act). FollowsBy o jobs runner seen place act r
      (Follows o jobs runner seen (suc place) rs) (x ∷ owed) []) (sym h.0.0)
      (h.0.1, paid_up seen (suc place) owed rs h.1)

  -- ALL RUN: behind the hand-outs, from this place on, and the tick come the armings
  pub all_run : (class : Class) (count : ℕ) (seen : List Did) (place : ℕ) (is : List Item)
      (outs pre rs : List Receipt) (told : List Ran) (owed : List Owed)
      → place + length outs ≤ count → HandsOutItems home runner class is outs
      → AllOf o jobs home runner count seen is told rs → ArePaid owed pre
      → Follows o jobs runner seen place (outs ++ (pre ++ rs)) owed told
  unfolding HandsOutItems AllOf Follows
  all_run class count seen place [] outs pre rs told owed low hands h paid =
      let tick = hands.0 in
      let armings : Follows o jobs runner seen (suc place) (pre ++ rs) owed told =
      subst (λ x. Follows o jobs runner seen (suc place) (pre ++ x) owed told) (sym h.1)
      (subst (λ x. Follows o jobs runner seen (suc place) x owed told) (sym (append-nil pre))
      (subst (Follows o jobs runner seen (suc place) pre owed) (sym h.0)
      (paid_up seen (suc place) owed pre paid))) in
      subst (λ x. Follows o jobs runner seen place (x ++ (pre ++ rs)) owed told) (sym hands.1)
      (subst (λ (act : Act). FollowsBy o jobs runner seen place act tick
      (Follows o jobs runner seen (suc place) (pre ++ rs)) owed told) (sym hands.2.act) armings)
  all_run class count seen place (i ∷ is) [] pre rs told owed low hands h paid = absurd hands
  all_run class count seen place (i ∷ is) (r ∷ outs) pre rs [] owed low hands h paid = absurd h
  all_run class count seen place (i ∷ is) (r ∷ outs) pre rs (x ∷ xs) owed low hands h paid =
      let reply = jobs r.entry.job (call_of o.clock runner r.entry) in
      let same : reply ≡ said i = same_call class i r hands.0 in
      let more = owed_by reply x.reply r.entry in
      let has : place < count = omega (arith, low) in
      let next : suc place + length outs ≤ count = omega (arith, low) in
      let told : IsHandOutTold o r.entry.timer.0 place seen reply x.reply =
      subst (λ n. IsHandOutTold o n place seen reply x.reply) (sym hands.0.timer)
      (subst (λ (y : JobReply). IsHandOutTold o i.id place seen y x.reply) (sym same)
      (h.3.told place has)) in
      let arms : ArePaid more h.0 =
      paid_by class i r reply x.reply h.0 hands.0
      (subst (λ (y : JobReply). ArmsAgain o.clock runner i y x.reply h.0) (sym same) h.4) in
      let rest : Follows o jobs runner seen (suc place) (outs ++ (pre ++ rs)) (owed ++ more) xs =
      subst (λ (y : List Receipt). Follows o jobs runner seen (suc place) (outs ++ y)
      (owed ++ more) xs)
      (append_assoc pre h.0 h.1 ∙ ap (λ (y : List Receipt). pre ++ y) (sym h.2))
      (all_run class count seen (suc place) is outs (pre ++ h.0) h.1 xs (owed ++ more) next
      hands.1 h.5 (paid_more owed more pre h.0 paid arms)) in
      subst (λ (act : Act). FollowsBy o jobs runner seen place act r
      (Follows o jobs runner seen (suc place) (outs ++ (pre ++ rs))) owed (x ∷ xs))
      (sym hands.0.act) (run_of class i r x hands.0 h.3.is, told, rest)

  -- the same where only a part is told
  part_paid : (seen : List Did) (place : ℕ) (owed : List Owed) (rs : List Receipt)
      → ArePaid owed rs → FollowsInPart o jobs runner seen place rs owed []
  unfolding FollowsInPart
  part_paid seen place [] rs h =
      subst (λ x. FollowsInPart o jobs runner seen place x [] []) (sym h) (refl, refl)
  part_paid seen place (x ∷ owed) [] h = absurd h
  part_paid seen place (x ∷ owed) (r ∷ rs) h =
      inl (subst (λ (act : Act). FollowsBy o jobs runner seen place act r
      (FollowsInPart o jobs runner seen (suc place) rs) (x ∷ owed) []) (sym h.0.0)
      (h.0.1, part_paid seen (suc place) owed rs h.1))

  -- SOME RUN: behind the hand-outs, from this place on, and the tick come the armings
  pub part_run : (class : Class) (count : ℕ) (seen : List Did) (place : ℕ) (is : List Item)
      (outs pre rs : List Receipt) (told : List Ran) (owed : List Owed)
      → place + length outs ≤ count → HandsOutItems home runner class is outs
      → PartOf o jobs home runner count seen is told rs → ArePaid owed pre
      → FollowsInPart o jobs runner seen place (outs ++ (pre ++ rs)) owed told
  unfolding HandsOutItems PartOf FollowsInPart
  part_run class count seen place [] outs pre rs told owed low hands h paid =
      let tick = hands.0 in
      let armings : FollowsInPart o jobs runner seen (suc place) (pre ++ rs) owed told =
      subst (λ x. FollowsInPart o jobs runner seen (suc place) (pre ++ x) owed told) (sym h.1)
      (subst (λ x. FollowsInPart o jobs runner seen (suc place) x owed told)
      (sym (append-nil pre))
      (subst (FollowsInPart o jobs runner seen (suc place) pre owed) (sym h.0)
      (part_paid seen (suc place) owed pre paid))) in
      subst (λ x. FollowsInPart o jobs runner seen place (x ++ (pre ++ rs)) owed told)
      (sym hands.1)
      (inl (subst (λ (act : Act). FollowsBy o jobs runner seen place act tick
      (FollowsInPart o jobs runner seen (suc place) (pre ++ rs)) owed told) (sym hands.2.act)
      armings))
  part_run class count seen place (i ∷ is) [] pre rs told owed low hands h paid = absurd hands
  part_run class count seen place (i ∷ is) (r ∷ outs) pre rs told owed low hands (inl h) paid =
      let reply = jobs r.entry.job (call_of o.clock runner r.entry) in
      let same : reply ≡ said i = same_call class i r hands.0 in
      let x : Ran = h.0 in
      let more = owed_by reply x.reply r.entry in
      let has : place < count = omega (arith, low) in
      let next : suc place + length outs ≤ count = omega (arith, low) in
      let said_so : IsHandOutTold o r.entry.timer.0 place seen reply x.reply =
      subst (λ n. IsHandOutTold o n place seen reply x.reply) (sym hands.0.timer)
      (subst (λ (y : JobReply). IsHandOutTold o i.id place seen y x.reply) (sym same)
      (h.6.told place has)) in
      let arms : ArePaid more h.2 =
      paid_by class i r reply x.reply h.2 hands.0
      (subst (λ (y : JobReply). ArmsAgain o.clock runner i y x.reply h.2) (sym same) h.7) in
      let rest : FollowsInPart o jobs runner seen (suc place) (outs ++ (pre ++ rs)) (owed ++ more)
      h.1 =
      subst (λ (y : List Receipt). FollowsInPart o jobs runner seen (suc place) (outs ++ y)
      (owed ++ more) h.1)
      (append_assoc pre h.2 h.3 ∙ ap (λ (y : List Receipt). pre ++ y) (sym h.5))
      (part_run class count seen (suc place) is outs (pre ++ h.2) h.3 h.1 (owed ++ more) next
      hands.1 h.8 (paid_more owed more pre h.2 paid arms)) in
      subst (FollowsInPart o jobs runner seen place (r ∷ (outs ++ (pre ++ rs))) owed) (sym h.4)
      (inl (subst (λ (act : Act). FollowsBy o jobs runner seen place act r
      (FollowsInPart o jobs runner seen (suc place) (outs ++ (pre ++ rs))) owed (x ∷ h.1))
      (sym hands.0.act) (run_of class i r x hands.0 h.6.is, said_so, rest)))
  part_run class count seen place (i ∷ is) (r ∷ outs) pre rs told owed low hands (inr h) paid =
      inr (
        hands.0.act,
        subst AsksAgain (sym (same_call class i r hands.0)) h.0,
        part_run class count seen (suc place) is outs pre rs told owed (omega (arith, low)) hands.1
            h.1 paid,
      )

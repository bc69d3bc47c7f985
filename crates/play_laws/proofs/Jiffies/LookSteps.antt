-- a CPU that a look takes, and the end of an interrupt
use Rattle.std.proofs.Common.{◌≡◌, ℕ, suc, ◌+◌, ◌<◌, ◌≤◌, List, Bool, true, false, Option, Some}
use Rattle.std.proofs.Common.{None, refl, sym, ap, ◌∙◌, subst, arith, inl, inr, length}
use Rattle.std.specs.Prelude.{◌⊎◌, All, filter, nat_le, nat_lt, if◌then◌else◌, unwrap_or}
use Rattle.std.specs.List.{range_with_len}
use Rattle.std.specs.Ordering.{nat_cmp}
use Rattle.std.specs.FinSet as set
use Rattle.std.proofs.lemmas.Bool.{and_parts, cases_eq, false_from_ne_true, leb-true}
use Rattle.std.proofs.lemmas.List.{length-set}
use Rattle.std.proofs.lemmas.Option.{same_Some}
use Rattle.tm_base.specs.declared.names.TheConstants.{NEVER}
use Rattle.tm_base.specs.declared.names.Class.TheVariants.{Pinned, Global}
use Rattle.wheel_core.specs.declared.item.Item.{Item}
use Rattle.wheel_core.specs.PlainBase.{least}
use Rattle.cpu_bases.specs.CpuBases.{CpuBases, base_of, drained, events_of, first_expiry}
use Rattle.play_rules.specs.declared.asks.Arming.{Arming}
use Rattle.play_rules.specs.State.{Cpu, State, cpu_at, cpu_count, has_group, with_cpu}
use Rattle.play_rules.specs.Hierarchy.{due_sleepers, inactive_child, is_due_sleeper, named, next_of}
use Rattle.play_rules.specs.Hierarchy.{told_again, towards}
use Rattle.play_rules.specs.Timers.{armed_bases, armed_on, bases_at, drained_on, where_queued}
use Rattle.play_laws.proofs.Answered.States.{here_is, written, written_alike}
use Rattle.play_laws.proofs.Answered.Invariant.{put_other}
use Rattle.play_laws.proofs.Jiffies.Course.{IsArmingIn, IsItemIn}
use Rattle.play_laws.proofs.Jiffies.Inside.{Awaits, Frame, InTurn, Inside, arm_inside, drain_inside}
use Rattle.play_laws.proofs.Jiffies.Inside.{frame_itself, frame_with, written_inside}
use Rattle.play_laws.proofs.Jiffies.InterruptSteps.{Few, HadOwn, Looking, Running, SeenBelow, Taking}
use Rattle.play_laws.proofs.Jiffies.InterruptSteps.{free_in, out_known}
use Rattle.play_laws.proofs.Jiffies.Machines.{kept_bases}
use Rattle.play_laws.proofs.Jiffies.Sleepers.{IsNamed, named_is, one_fewer, sleeper_same}
use Rattle.play_laws.proofs.Jiffies.Waking.{From, first_later}

-- a first event that isn't before a time
first_from : (time : ℕ) (items : List Item) (o : Option ℕ) → time ≤ NEVER → least items ≡ o
    → All (From time) items
    → time ≤ unwrap_or o NEVER
first_from time items None early is all = early
first_from time items (Some wheel) early is all = first_later time items all wheel is

-- what a CPU tells where nothing global of it comes before a time isn't before it
told_from : (time : ℕ) (b : CpuBases) (grouped : Bool) → time ≤ NEVER
    → All (From time) (base_of Global b).items
    → time ≤ (if grouped then (events_of b).next else NEVER)
told_from time b false early all = early
told_from time b true early all =
    let first =
    first_from time (base_of Global b).items (least (base_of Global b).items) early refl all in
    elim (nat_lt (first_expiry Global b) (first_expiry Pinned b)) as
    (λ before. time ≤ (if before then first_expiry Global b else NEVER)) [
      | true ↦ first
      | false ↦ early
    ]

-- the test for sleepers of two states that told the same
few_same : (s t : State) (g : ℕ) → cpu_count t ≡ cpu_count s
    → ((d : ℕ) → is_due_sleeper t g d ≡ is_due_sleeper s g d)
    → due_sleepers t g ≡ due_sleepers s g
few_same s t g count same = λ i. filter (λ d. same d i) (range_with_len 0 (count i))

module _ (cpus levels now : ℕ) (due : set.FinSet nat_cmp) where
  -- what a CPU written with the same times told leaves of a look
  module _ (s : State) (c : ℕ) (x : Cpu) (low : c < cpu_count s)
      (online : x.online ≡ (cpu_at s c).online)
      (idle : x.idle ≡ (cpu_at s c).idle) where
    framed : Frame s (with_cpu s c x)
    framed = frame_with s s c x (frame_itself s) low online idle

    sleeper_still : x.told ≡ (cpu_at s c).told → (g d : ℕ)
        → is_due_sleeper (with_cpu s c x) g d ≡ is_due_sleeper s g d
    sleeper_still told g d =
        sleeper_same s (with_cpu s c x) framed refl g d
        (written_alike s c x low (λ (y : Cpu). y.told) told d)

    few_still : x.told ≡ (cpu_at s c).told → (k level n : ℕ) → Few cpus levels now due k level n s
        → Few cpus levels now due k level n (with_cpu s c x)
    few_still told k level n few g at =
        subst (λ xs. length xs ≤ n)
        (sym (few_same s (with_cpu s c x) g (length-set s.cpus c x) (λ d. sleeper_still told g d)))
        (few g at)

    name_still : x.told ≡ (cpu_at s c).told → (k level d : ℕ) → IsNamed s k level d
        → IsNamed (with_cpu s c x) k level d
    name_still told k level d name = record {
      group = name.group;
      at = name.at;
      low = (let many = length-set s.cpus c x in let was = name.low in omega (arith, many, was));
      sleeper = sleeper_still told name.group d ∙ name.sleeper;
    }

  pub takes : (c level n d : ℕ) (s : State) → named s c level ≡ Some d
      → Looking cpus levels now due c level (suc n) s
      → Taking cpus levels now due c level n d s
  takes c level n d s is looking = record { looking = looking; name = named_is s c level d is }

  low_named : (HadP HadG : ℕ → Type 0) (Seen : (c level : ℕ) → Type 0) (c level d : ℕ) (s : State)
      → Inside cpus levels now due HadP HadG Seen s → IsNamed s c level d → d < cpus
  low_named HadP HadG Seen c level d s inside name =
      let count = inside.holds.count in let low = name.low in omega (arith, count, low)

  pub drains_taken : (c level n d : ℕ) (s : State) → Taking cpus levels now due c level n d s
      → Running cpus levels now due c level n d (drained_on s d Global c).state
  drains_taken c level n d s taking =
      let climbed = taking.looking.climbed in
      let inside = climbed.inside in
      let low =
      low_named (HadOwn due c 3 1) (HadOwn due c 3 2)
      (SeenBelow c level) c level d s inside taking.name in
      let b =
      drained (length (base_of Global (bases_at s d)).items) s.clock Global (record { 0 = c })
      (bases_at s d) in
      let x : Cpu = record (cpu_at s d) { bases = b } in
      record {
        is_due = climbed.is_due;
        inside =
            drain_inside cpus levels now due (HadOwn due c 3 1) (HadOwn due c 3 2)
            (SeenBelow c level) s inside d low Global c
            (HadOwn due c 3 1) (λ e. HadOwn due c 3 2 e ⊎ (e ≡ d)) tt (λ e had. inl had)
            (λ e had. (elim had [ inl was ↦ inl was | inr this ↦ inr (this, refl) ]));
        few = few_still s d x taking.name.low refl refl refl c level (suc n) taking.looking.few;
        name = name_still s d x taking.name.low refl refl refl c level d taking.name;
      }

  pub out_taken : (c level n d : ℕ) (s : State) → Taking cpus levels now due c level n d s
      → All IsItemIn (drained_on s d Global c).items
  out_taken c level n d s taking =
      let inside = taking.looking.climbed.inside in
      out_known cpus levels now due (HadOwn due c 3 1) (HadOwn due c 3 2)
      (SeenBelow c level) d c Global s
      (low_named (HadOwn due c 3 1) (HadOwn due c 3 2)
      (SeenBelow c level) c level d s inside taking.name) inside

  pub ran_taken : (c level n d : ℕ) (s : State) (a : Arming) → c < cpus → IsArmingIn a
      → where_queued s a.timer.0 ≡ None
      → Running cpus levels now due c level n d s
      → Running cpus levels now due c level n d (armed_on s c a).state
  ran_taken c level n d s a low known none running =
      let HadG = λ (e : ℕ). HadOwn due c 3 2 e ⊎ (e ≡ d) in
      let inside = running.inside in
      let count = inside.holds.count in
      let here : c < cpu_count s = omega (arith, low, count) in
      let x : Cpu = record (cpu_at s c) { bases = armed_bases s c a } in
      record {
        is_due = running.is_due;
        inside =
            arm_inside cpus levels now due (HadOwn due c 3 1) HadG
            (SeenBelow c level) s inside c low a known
            (inside.due_online c running.is_due)
            (free_in cpus levels now due (HadOwn due c 3 1) HadG
            (SeenBelow c level) s a.timer.0 inside none);
        few = few_still s c x here refl refl refl c level (suc n) running.few;
        name = name_still s c x here refl refl refl c level d running.name;
      }

  -- LET GO: it tells again, and is no sleeper any more
  module _ (HadP HadG AsG : ℕ → Type 0) (Seen : (c level : ℕ) → Type 0) (d : ℕ) (s : State)
      (inside : Inside cpus levels now due HadP HadG Seen s) (low : d < cpus)
      (fewer : (e : ℕ) → AsG e → HadG e) (had : HadG d) where
    pub told_later : s.clock + 1 ≤ (if has_group s d then next_of s d else NEVER)
    told_later =
        let early = inside.holds.early in
        told_from (s.clock + 1) (bases_at s d) (has_group s d) (omega (arith, early))
        ((inside.holds.each d low).is.had_global had)

    pub told_inside : Inside cpus levels now due HadP AsG Seen (told_again s d)
    told_inside =
        let is = (inside.holds.each d low).is in
        let Before = InTurn s.clock due HadP HadG (Awaits cpus levels inside.from due Seen) in
        let After = InTurn s.clock due HadP AsG (Awaits cpus levels inside.from due Seen) in
        let x : Cpu = record (cpu_at s d) { told = if has_group s d then next_of s d else NEVER } in
        written_inside cpus levels now due HadP HadG Seen s inside d low HadP AsG x refl refl
        (kept_bases cpus Before After s inside.holds d low x refl
        (record {
          late = is.late;
          away = is.away;
          had_pinned = is.had_pinned;
          had_global = λ was. is.had_global (fewer d was);
          pinned = is.pinned;
          global = λ out on told. is.had_global had;
          watched = λ out on. inl told_later;
        })
        (λ e below other was. record {
          late = was.late;
          away = was.away;
          had_pinned = was.had_pinned;
          had_global = λ is_had. was.had_global (fewer e is_had);
          pinned = was.pinned;
          global = was.global;
          watched = was.watched;
        }))

  -- the test for sleepers once a CPU told a later time
  fewer_sleepers : (s : State) (c level n d told : ℕ) → Few cpus levels now due c level (suc n) s
      → IsNamed s c level d
      → s.clock + 1 ≤ told
      → Few cpus levels now due c level n (with_cpu s d (record (cpu_at s d) { told = told }))
  fewer_sleepers s c level n d told few name later g at =
      let x : Cpu = record (cpu_at s d) { told = told } in
      let t = with_cpu s d x in
      let same_g : name.group ≡ g = same_Some name.group g (sym name.at ∙ at) in
      let frame = frame_with s s d x (frame_itself s) name.low refl refl in
      let count : cpu_count t ≡ cpu_count s = length-set s.cpus d x in
      let here : (cpu_at t d).told ≡ told = written_here s d x name.low in
      let fewer = one_fewer (is_due_sleeper s g) (is_due_sleeper t g) (cpu_count s) d
      (λ e is.
      elim (cases_eq e d) [
        | inl same ↦
            subst (λ k. is_due_sleeper s g k ≡ true) (sym same)
            (subst (λ h. is_due_sleeper s h d ≡ true) same_g name.sleeper)
        | inr other ↦
            sym (sleeper_same s t frame refl g e (written_else s d x e name.low other)) ∙ is
      ]) name.low (subst (λ h. is_due_sleeper s h d ≡ true) same_g name.sleeper)
      (false_from_ne_true (is_due_sleeper t g d) (λ is.
      let due_told =
      leb-true (cpu_at t d).told t.clock
      (and_parts (nat_le (cpu_at t d).told t.clock)
      (inactive_child t (towards t.tree d g)) is).0 in
      omega (arith, due_told, here, later))) in
      let was = few g at in
      let many : length (due_sleepers t g) ≡ length
      (filter (is_due_sleeper t g) (range_with_len 0 (cpu_count s))) =
      ap (λ k. length (filter (is_due_sleeper t g) (range_with_len 0 k))) count in
      omega (arith, fewer, was, many)
    where
      written_here : (s : State) (d : ℕ) (x : Cpu) → d < cpu_count s
          → (cpu_at (with_cpu s d x) d).told ≡ x.told
      written_here s d x below = ap (λ (y : Cpu). y.told) (here_is s d x below)

      written_else : (s : State) (d : ℕ) (x : Cpu) (e : ℕ) → d < cpu_count s → (e ≡ d → ⊥)
          → (cpu_at (with_cpu s d x) e).told ≡ (cpu_at s e).told
      written_else s d x e below other =
          ap (λ f. (f e).told) (written s d x below)
          ∙ ap (λ (y : Cpu). y.told) (put_other (cpu_at s) d x e other)

  pub lets_go : (c level n d : ℕ) (s : State) → Running cpus levels now due c level n d s
      → Looking cpus levels now due c level n (told_again s d)
  lets_go c level n d s running =
      let HadG = λ (e : ℕ). HadOwn due c 3 2 e ⊎ (e ≡ d) in
      let inside = running.inside in
      let low =
      low_named (HadOwn due c 3 1) HadG (SeenBelow c level) c level d s inside running.name in
      let later =
      told_later (HadOwn due c 3 1) HadG (HadOwn due c 3 2) (SeenBelow c level) d s inside low
      (λ e had. inl had) (inr refl) in
      record {
        climbed = record {
          is_due = running.is_due;
          inside =
              told_inside (HadOwn due c 3 1) HadG (HadOwn due c 3 2)
              (SeenBelow c level) d s inside low (λ e had. inl had) (inr refl);
        };
        few =
            fewer_sleepers s c level n d (if has_group s d then next_of s d else NEVER) running.few
            running.name later;
      }

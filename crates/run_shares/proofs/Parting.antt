-- for crates above: each operation goes to its CPU, and each CPU may do what it is to do
use Rattle.std.proofs.Common.{arith, ◌≡◌, ◌≢◌, ℕ, zero, suc, ◌+◌, ◌<◌, ◌≤◌, Bool, true, false, cond}
use Rattle.std.proofs.Common.{List, [], ◌∷◌, ◌++◌, Some, length, map, set, sym, ap, ◌∙◌, subst}
use Rattle.std.proofs.Common.{get_or, refl, take}
use Rattle.std.specs.Prelude.{◌==◌, All, slice_get, slice_index_or}
use Rattle.std.specs.List.{AllByRecursion, range_with_len}
use Rattle.std.proofs.lemmas.Bool.{eq-eqb, eqb-true, ne_eqb}
use Rattle.std.proofs.lemmas.List.{append-nil, take_more}
use Rattle.std.proofs.lemmas.List.Elements.{All-from_recursion, filter-append, recursion_from_All}
use Rattle.std.proofs.lemmas.Option.{same_Some, slice_get_read}
use Rattle.atomic_table.specs.Seated.{TableId}
use Rattle.tm_base.specs.CpuSet.{Cpus}
use Rattle.tm_script.specs.declared.syntax.Op.{Op}
use Rattle.core_world.specs.World.{World, cpu_of}
use Rattle.play_rules.specs.Interrupts.{Replies}
use Rattle.idle_wakeup.specs.shared_rule.Passes.{HeldPass}
use Rattle.idle_wakeup.specs.shared_rule.Rule.{Each}
use Rattle.idle_wakeup.specs.shared_rule.Starts.{first_pass_of}
use Rattle.idle_wakeup.specs.shared_table.Begun.{begun_pass, begun_passes}
use Rattle.run_story.specs.Rounds.{standing_at}
use Rattle.run_story.specs.Shares.{TellsOps, own_ops}
use Rattle.run_story.specs.Asked.{IsRoundOp}
use Rattle.run_shares.specs.Doing.{HasDone, IsShareOp}
use Rattle.run_shares.specs.Progress.{GivenSoFar, IsFirstPass, IsGiven, MayRound, MayShare}
use Rattle.run_shares.specs.Tasks.{AreTasks, EachFrom, IsTaskOf, RoundPlan}
use Rattle.run_shares.specs.declared.tasks.Task.{Task}
use Rattle.run_shares.proofs.Rows.{each_alone, each_follows}

-- FIRST PASSES: all passes of a run that begins
pub first_passes : (table : TableId) (o : World) (k n : ℕ)
    → EachFrom (IsFirstPass table o) k (map (begun_pass table o 0) (range_with_len k n))
first_passes table o k zero = tt
first_passes table o k (suc n) =
    let same : k + 1 ≡ suc k = omega arith in (
      refl,
      subst (λ j. EachFrom (IsFirstPass table o) j (map (begun_pass table o 0)
          (range_with_len (k + 1) n))) same (first_passes table o (k + 1) n),
    )

-- they are as many as there are CPUs
pub count_passes : (table : TableId) (o : World) (k n : ℕ)
    → length (map (begun_pass table o 0) (range_with_len k n)) ≡ n
count_passes table o k zero = refl
count_passes table o k (suc n) = ap suc (count_passes table o (k + 1) n)

-- OWN OPERATIONS: one more that is the CPU's, or isn't
own_one : (c : ℕ) (op : Op) → op.cpu.0 ≡ c → own_ops c (op ∷ []) ≡ op ∷ []
own_one c op is = ap (λ b. cond b (op ∷ []) []) (eq-eqb op.cpu.0 c is)

own_none : (c : ℕ) (op : Op) → op.cpu.0 ≢ c → own_ops c (op ∷ []) ≡ []
own_none c op not_own = ap (λ b. cond b (op ∷ []) []) (ne_eqb op.cpu.0 c not_own)

own_more : (c : ℕ) (ops : List Op) (op : Op)
    → own_ops c (ops ++ op ∷ []) ≡ own_ops c ops ++ own_ops c (op ∷ [])
own_more c ops op = filter-append (λ (x : Op). x.cpu.0 == c) ops (op ∷ [])

-- what is so of all operations is so of a CPU's own ones
own_by : (P Q : Op → Type 0) (c : ℕ) (ops : List Op)
    → ((op : Op) → op.cpu.0 ≡ c → P op → Q op) → AllByRecursion P ops
    → AllByRecursion Q (own_ops c ops)
own_by P Q c [] each h = tt
own_by P Q c (op ∷ ops) each h = by (op.cpu.0 == c) refl (own_by P Q c ops each h.1)
  where
    by : (b : Bool) → (op.cpu.0 == c) ≡ b → AllByRecursion Q (own_ops c ops)
        → AllByRecursion Q (cond b (op ∷ own_ops c ops) (own_ops c ops))
    by true is rest = (each op (eqb-true op.cpu.0 c is) h.0, rest)
    by false is rest = rest

-- a CPU has no more than there are
own_few : (c : ℕ) (ops : List Op) → length (own_ops c ops) ≤ length ops
own_few c [] = omega arith
own_few c (op ∷ ops) = by (op.cpu.0 == c) (own_few c ops)
  where
    by : (b : Bool) → length (own_ops c ops) ≤ length ops
        → length (cond b (op ∷ own_ops c ops) (own_ops c ops)) ≤ suc (length ops)
    by true few = omega (arith, few)
    by false few = omega (arith, few)

module _ (table : TableId) (o : World) (due : Cpus) (ops : List Op) (op : Op) where
  -- a CPU that it isn't for
  stays : (c : ℕ) (x : Task) → op.cpu.0 ≢ c
      → IsTaskOf table o (record { due = due; ops = ops }) c x
      → IsTaskOf table o (record { due = due; ops = ops ++ op ∷ [] }) c x
  stays c x not_own h = record {
    pass = h.pass;
    due = h.due;
    ops = h.ops
        ∙ sym (own_more c ops op ∙ (ap (λ l. own_ops c ops ++ l) (own_none c op not_own)
        ∙ append-nil (own_ops c ops)));
  }

  -- the CPU that it is for
  gets : (c : ℕ) (x y : Task) → op.cpu.0 ≡ c → y.pass ≡ x.pass → y.due ≡ x.due
      → y.ops.items ≡ x.ops.items ++ op ∷ []
      → IsTaskOf table o (record { due = due; ops = ops }) c x
      → IsTaskOf table o (record { due = due; ops = ops ++ op ∷ [] }) c y
  gets c x y own pass is_due more h = record {
    pass = pass ∙ h.pass;
    due = is_due ∙ h.due;
    ops = more
        ∙ (ap (λ l. l ++ op ∷ []) h.ops
        ∙ sym (own_more c ops op ∙ ap (λ l. own_ops c ops ++ l) (own_one c op own)));
  }

  all_stay : (k : ℕ) (xs : List Task) → op.cpu.0 < k
      → EachFrom (IsTaskOf table o (record { due = due; ops = ops })) k xs
      → EachFrom (IsTaskOf table o (record { due = due; ops = ops ++ op ∷ [] })) k xs
  all_stay k [] low each = tt
  all_stay k (x ∷ xs) low each = (
    stays k x (λ same. absurd (omega (arith, low, same))) each.0,
    all_stay (suc k) xs (omega (arith, low)) each.1,
  )

  one_gets : (k i : ℕ) (xs : List Task) (x y : Task) → op.cpu.0 ≡ k + i
      → slice_get xs i ≡ Some x → y.pass ≡ x.pass → y.due ≡ x.due
      → y.ops.items ≡ x.ops.items ++ op ∷ []
      → EachFrom (IsTaskOf table o (record { due = due; ops = ops })) k xs
      → EachFrom (IsTaskOf table o (record { due = due; ops = ops ++ op ∷ [] })) k (set xs i y)
  one_gets k i [] x y own at pass is_due more each = tt
  one_gets k zero (z ∷ xs) x y own at pass is_due more each = (
    gets k z y (omega (arith, own)) (pass ∙ ap (λ (t : Task). t.pass) (sym (same_Some _ _ at)))
        (is_due ∙ ap (λ (t : Task). t.due) (sym (same_Some _ _ at)))
        (more ∙ ap (λ (t : Task). t.ops.items ++ op ∷ []) (sym (same_Some _ _ at))) each.0,
    all_stay (suc k) xs (omega (arith, own)) each.1,
  )
  one_gets k (suc i) (z ∷ xs) x y own at pass is_due more each = (
    stays k z (λ same. absurd (omega (arith, own, same))) each.0,
    one_gets (suc k) i xs x y (omega (arith, own)) at pass is_due more each.1,
  )

length_set : {X : Type 0} (xs : List X) (i : ℕ) (y : X) → length (set xs i y) ≡ length xs
length_set [] i y = refl
length_set (x ∷ xs) zero y = refl
length_set (x ∷ xs) (suc i) y = ap suc (length_set xs i y)

-- GIVEN: the task of the operation's CPU has one more
pub is_given : (op : Op) (old : List Task) (i : ℕ) (x y : Task) → i ≡ op.cpu.0
    → op.cpu.0 < length old → x ≡ get_or old i x → y.pass ≡ x.pass → y.due ≡ x.due
    → y.ops.items ≡ x.ops.items ++ op ∷ [] → IsGiven op old (set old i y)
is_given op old i x y is low at pass is_due more table o due ops n tasks =
    let number : op.cpu.0 ≡ 0 + i = omega (arith, is) in
    let within : i < length old = omega (arith, is, low) in
    record {
      count = length_set old i y ∙ tasks.count;
      each = one_gets table o due ops op 0 i old x y number
          (slice_get_read old (length old) i x refl within at) pass is_due more tasks.each;
    }

-- one more of a list of operations is given
pub given_one : (ops : List Op) (i : ℕ) (op : Op) (first now new : List Task)
    → GivenSoFar (take i ops) first now → i < length ops → op ≡ get_or ops i op
    → IsGiven op now new → length new ≡ length now → GivenSoFar (take (i + 1) ops) first new
given_one ops i op first now new so_far low at given same = record {
  count = same ∙ so_far.count;
  given = λ table o due n tasks.
      let more : take i ops ++ op ∷ [] ≡ take (i + 1) ops
      = ap (λ z. take i ops ++ z ∷ []) at ∙ sym (take_more ops i op low) in
      subst (λ l. AreTasks table o (record { due = due; ops = l }) n new) more
      (given table o due (take i ops) n (so_far.given table o due n tasks));
}

-- THE TASKS of a run that begins
pub run_tasks : (table : TableId) (o : World) (due : Cpus) (passes : List HeldPass)
    (tasks : List Task) → passes ≡ begun_passes table o 0
    → ((t : TableId) (w : World) → EachFrom (IsFirstPass t w) 0 passes
    → AreTasks t w (record { due = due; ops = [] }) (length passes) tasks)
    → AreTasks table o (record { due = due; ops = [] }) (length o.cpus) tasks
run_tasks table o due passes tasks is made =
    let n = length o.cpus in
    subst (λ k. AreTasks table o (record { due = due; ops = [] }) k tasks)
    (ap length is ∙ count_passes table o 0 n)
    (made table o (subst (EachFrom (IsFirstPass table o) 0) (sym is) (first_passes table o 0 n)))

-- the CPU of each operation has a task
pub each_has_task : (o : World) (ops : List Op) (tasks : List Task) → length tasks ≡ length o.cpus
    → All (IsRoundOp (length o.cpus) o.timers) ops
    → All (λ (op : Op). op.cpu.0 < length tasks) ops
each_has_task o ops tasks count each k d low =
    subst (λ n. (slice_index_or ops k d).cpu.0 < n) (sym count) (each k d low).cpu

module _ (table : TableId) (o : World) (now : ℕ) (plan : RoundPlan) (may : MayRound o now plan) where
  share_op : (c : ℕ) (op : Op) → op.cpu.0 ≡ c → IsRoundOp (length o.cpus) o.timers op
      → IsShareOp c o.timers op
  share_op c op own h = record { own = own; timer = h.timer; stays = h.stays }

  own_share : (c : ℕ) → All (IsShareOp c o.timers) (own_ops c plan.ops)
  own_share c = All-from_recursion (IsShareOp c o.timers) (own_ops c plan.ops)
      (own_by (IsRoundOp (length o.cpus) o.timers) (IsShareOp c o.timers) c plan.ops (share_op c)
      (recursion_from_All (IsRoundOp (length o.cpus) o.timers) plan.ops may.ops))

  -- a task of the plan may be done
  may_share : (c : ℕ) (x : Task) → c < length o.cpus → IsTaskOf table o plan c x
      → MayShare table o x
  may_share c x low h =
      let cpu : x.pass.cpu ≡ c = ap (λ (p : HeldPass). p.cpu) h.pass in
      let few = own_few c plan.ops in
      let all_few = may.few in
      let own = ap length h.ops in
      record {
        first = h.pass ∙ ap (begun_pass table o 0) (sym cpu);
        cpu = subst (λ d. d < length o.cpus) (sym cpu) low;
        outside = subst (λ d. (cpu_of o d).inside ≡ false) (sym cpu) (may.settled.outside c);
        online = λ is. subst (λ d. (cpu_of o d).online ≡ true) (sym cpu)
            (may.online c (sym h.due ∙ is));
        ops = subst (λ d. All (IsShareOp d o.timers) x.ops.items) (sym cpu)
            (subst (All (IsShareOp c o.timers)) (sym h.ops) (own_share c));
        few = omega (arith, few, all_few, own);
      }

  pub all_may : (xs : List Task) → AreTasks table o plan (length o.cpus) xs
      → Each (MayShare table o) xs
  all_may xs tasks = each_alone (MayShare table o) 0 xs
      (each_follows (IsTaskOf table o plan) (λ c. MayShare table o) 0 xs (λ i x low h.
      let count = tasks.count in
      may_share (0 + i) x (omega (arith, low, count)) h) tasks.each)

-- NOTHING TO DO: a CPU with nothing to do has done it
idle_done : (table : TableId) (o : World) (jobs : Replies) (c : ℕ)
    → (cpu_of o c).inside ≡ false
    → HasDone table o jobs false [] c (begun_pass table o 0 c) []
unfolding TellsOps
idle_done table o jobs c outside = record {
  pass = first_pass_of o 0 c;
  seated = refl;
  cpu_is = refl;
  opening = refl;
  outside = outside;
  last = standing_at o c;
  tells = record {
    mid = standing_at o c;
    runs = [];
    answers = [];
    first = (refl, refl);
    answered = (refl, refl);
    told_are = refl;
  };
  wrote = refl;
  idle = refl;
  wakeup = refl;
}

pub none_done : (table : TableId) (o : World) (jobs : Replies) (x : Task) → MayShare table o x
    → x.due ≡ false → x.ops.items ≡ []
    → HasDone table o jobs x.due x.ops.items x.pass.cpu x.pass []
none_done table o jobs x may due ops =
    subst (λ d. HasDone table o jobs d x.ops.items x.pass.cpu x.pass []) (sym due)
    (subst (λ l. HasDone table o jobs false l x.pass.cpu x.pass []) (sym ops)
    (subst (λ p. HasDone table o jobs false [] x.pass.cpu p []) (sym may.first)
    (idle_done table o jobs x.pass.cpu may.outside)))

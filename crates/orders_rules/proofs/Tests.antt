-- that steps are enabled where they stand under a rule, by tests that compute
use Rattle.std.proofs.Common.{◌≡◌, ℕ, ◌+◌, ◌<◌, Bool, true, false, true≢false, List, [], ◌∷◌, length, Option, Some, None, refl, sym, arith}
use Rattle.std.specs.Prelude.{◌&&◌, not, nat_lt, is_none}
use Rattle.std.proofs.lemmas.Bool.Decides.{nat_tests}
use Rattle.walk_rules.specs.declared.walk.Walk.{Walk}
use Rattle.walk_rules.specs.declared.walk.Stage.{Stage}
use Rattle.walk_rules.specs.declared.walk.Stage.TheVariants as stages
use Rattle.core_world.specs.declared.step.Step.{Step}
use Rattle.core_world.specs.declared.step.Step.TheVariants as steps
use Rattle.core_world.specs.Enabled.{Enabled, IsFree, MayGoOn, MayWalk, MayIdle, MayWake, first_event}
use Rattle.core_world.specs.Steps.{here, child_here}
use Rattle.core_world.specs.World.{World, cpu_of, group_of, is_active}
use Rattle.orders_rules.specs.declared.rule.Rule.{Rule}
use Rattle.orders_rules.specs.Stepping.{EachEnabledBy, stepped_by}

both : (a b : Bool) → (a && b) ≡ true → (a ≡ true) × (b ≡ true)
both true b e = (refl, e)
both false b e = absurd (true≢false (sym e))

none_of : {X : Type 0} (m : Option X) → is_none m ≡ true → m ≡ None
none_of None e = refl
none_of (Some x) e = absurd (true≢false (sym e))

less_of : (a b : ℕ) → nat_lt a b ≡ true → a < b
less_of a b e = grind (arith, nat_tests)

abbrev may_go_on : World → ℕ → Walk → Stage → Bool
may_go_on w c k stages.LockChild = is_none (group_of w (child_here w c k)).lock
may_go_on w c k stages.LockGroup = is_none (group_of w (here w c k)).lock
may_go_on w c k stages.Handing = false
may_go_on w c k s = true

goes_on : (w : World) (c : ℕ) (k : Walk) (s : Stage) → may_go_on w c k s ≡ true → MayGoOn w c k s
goes_on w c k stages.LockChild e = none_of _ e
goes_on w c k stages.LockGroup e = none_of _ e
goes_on w c k stages.Handing e = true≢false (sym e)
goes_on w c k stages.Own e = tt
goes_on w c k stages.Up e = tt
goes_on w c k (stages.Mark more) e = tt
goes_on w c k stages.Read e = tt
goes_on w c k stages.Child e = tt
goes_on w c k stages.Swap e = tt
goes_on w c k stages.SeeChild e = tt
goes_on w c k stages.SeeGroup e = tt
goes_on w c k (stages.Scan j) e = tt
goes_on w c k stages.Store e = tt
goes_on w c k (stages.First j) e = tt
goes_on w c k stages.FreeGroup e = tt
goes_on w c k stages.FreeChild e = tt
goes_on w c k stages.Finish e = tt

abbrev walk_goes : World → ℕ → Option Walk → Bool
walk_goes w c None = false
walk_goes w c (Some k) = may_go_on w c k k.stage

made_of : (w : World) (c : ℕ) (m : Option Walk) → c < length w.cpus → (cpu_of w c).walk ≡ m → walk_goes w c m ≡ true → MayWalk w c
made_of w c None h is e = absurd (true≢false (sym e))
made_of w c (Some k) h is e = record { in_range = h; made = k; walk = is; may_go_on = goes_on w c k k.stage e }

abbrev free_test : World → ℕ → Bool
free_test w c = nat_lt c (length w.cpus) && is_none (cpu_of w c).walk

free_of : (w : World) (c : ℕ) → free_test w c ≡ true → IsFree w c
free_of w c e = let p = both _ _ e in record { in_range = less_of _ _ p.0; free = none_of _ p.1 }

-- the steps of rows; any other counts as not enabled
abbrev test : World → Step → Bool
test w (steps.Walk cpu) = nat_lt cpu.0 (length w.cpus) && walk_goes w cpu.0 (cpu_of w cpu.0).walk
test w (steps.Idle cpu) = free_test w cpu.0 && (is_active (cpu_of w cpu.0) && (not (cpu_of w cpu.0).inside && nat_lt (w.clock + 1) (first_event (cpu_of w cpu.0).bases)))
test w (steps.Wake cpu) = free_test w cpu.0 && ((cpu_of w cpu.0).online && (cpu_of w cpu.0).idle)
test w step = false

not_of : (b : Bool) → not b ≡ true → b ≡ false
not_of true e = absurd (true≢false (sym e))
not_of false e = refl

walk_of_test : (w : World) (c : ℕ) → (nat_lt c (length w.cpus) && walk_goes w c (cpu_of w c).walk) ≡ true → MayWalk w c
walk_of_test w c e = let p = both _ _ e in made_of w c _ (less_of _ _ p.0) refl p.1

idle_of_test : (w : World) (c : ℕ) → (free_test w c && (is_active (cpu_of w c) && (not (cpu_of w c).inside && nat_lt (w.clock + 1) (first_event (cpu_of w c).bases)))) ≡ true → MayIdle w c
idle_of_test w c e =
    let p = both _ _ e in
    let q = both _ _ p.1 in
    let r = both _ _ q.1 in
    record { is_free = free_of w c p.0; active = q.0; outside = not_of _ r.0; rests = less_of _ _ r.1 }

wake_of_test : (w : World) (c : ℕ) → (free_test w c && ((cpu_of w c).online && (cpu_of w c).idle)) ≡ true → MayWake w c
wake_of_test w c e =
    let p = both _ _ e in
    let q = both _ _ p.1 in
    record { is_free = free_of w c p.0; online = q.0; idle = q.1 }

enabled_of : (w : World) (s : Step) → test w s ≡ true → Enabled w s
enabled_of w (steps.Walk cpu) e = walk_of_test w cpu.0 e
enabled_of w (steps.Idle cpu) e = idle_of_test w cpu.0 e
enabled_of w (steps.Wake cpu) e = wake_of_test w cpu.0 e
enabled_of w (steps.Clock now) e = absurd (true≢false (sym e))
enabled_of w (steps.Enter cpu) e = absurd (true≢false (sym e))
enabled_of w (steps.Leave cpu) e = absurd (true≢false (sym e))
enabled_of w (steps.Arm cpu timer class expires job arg line) e = absurd (true≢false (sym e))
enabled_of w (steps.Cancel cpu timer by line) e = absurd (true≢false (sym e))
enabled_of w (steps.Hand cpu timer runner) e = absurd (true≢false (sym e))
enabled_of w (steps.Ticked cpu class runner) e = absurd (true≢false (sym e))
enabled_of w (steps.Move from to timer) e = absurd (true≢false (sym e))
enabled_of w (steps.Offline cpu) e = absurd (true≢false (sym e))
enabled_of w (steps.Online cpu) e = absurd (true≢false (sym e))
enabled_of w (steps.Reeval cpu) e = absurd (true≢false (sym e))
enabled_of w (steps.Take cpu by) e = absurd (true≢false (sym e))
enabled_of w (steps.Carry cpu) e = absurd (true≢false (sym e))
enabled_of w (steps.Release cpu) e = absurd (true≢false (sym e))
enabled_of w (steps.HandOn cpu to) e = absurd (true≢false (sym e))

abbrev pub tests : Rule → World → List Step → Bool
tests rule w [] = true
tests rule w (s ∷ rest) = test w s && tests rule (stepped_by rule w s) rest

pub each_enabled : (rule : Rule) (w : World) (ss : List Step) → tests rule w ss ≡ true → EachEnabledBy rule w ss
each_enabled rule w [] e = tt
each_enabled rule w (s ∷ rest) e = let p = both _ _ e in (enabled_of w s p.0, each_enabled rule (stepped_by rule w s) rest p.1)

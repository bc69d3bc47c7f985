-- for crates above: the work of a play is bounded
use Rattle.std.proofs.Common.{◌≡◌, ℕ, zero, suc, ◌+◌, ◌*◌, ◌<◌, ◌≤◌, List, [], ◌∷◌, Bool, true}
use Rattle.std.proofs.Common.{false, Some, None, refl, ◌∙◌, arith, length}
use Rattle.std.specs.Prelude.{All, ◌≢◌, ◌==◌, filter, nat_le, if◌then◌else◌}
use Rattle.std.specs.List.{range_with_len}
use Rattle.std.proofs.Math.Nat.{le-mul_of_pos_right, suc-mul}
use Rattle.std.proofs.lemmas.Bool.{cond-false, eqb-false, lt-leb}
use Rattle.std.proofs.lemmas.List.FromFn.{length-range_with_len}
use Rattle.tm_base.specs.declared.limits.TheConstants.{SCRIPT_TIME_LIMIT}
use Rattle.tm_script.specs.declared.syntax.Moment.{Moment}
use Rattle.tree_plan.specs.Paths.{cpu_count_of, level_count_of}
use Rattle.wheel_core.specs.WheelExpiry.{greatest_timeout}
use Rattle.play_rules.specs.Interrupts.{Replies, having_interrupt, interrupts}
use Rattle.play_rules.specs.Moments.{Turn, moment_at, moments_after, next_moment}
use Rattle.play_rules.specs.Moments.{spent_at, turn, turn_then, turns}
use Rattle.play_rules.specs.State.{State, cpu_count, start}
use Rattle.play_rules.specs.Play.{at_clock, plain_rules}
use Rattle.play_laws.proofs.Answered.Scripts.{moments_in, moments_rise, tree_for}
use Rattle.play_laws.proofs.Shape.Shape.{KeptByRules}
use Rattle.play_laws.proofs.Shape.ShapeTurns.{IsMomentIn, Next as NextTurn, Rise, after_in, after_rise}
use Rattle.play_laws.proofs.Shape.ShapeTurns.{moment_kept, next_is}
use Rattle.play_laws.specs.Work.Work.{WorkIsBounded}
use Rattle.play_laws.proofs.Work.Homes.{count_of}
use Rattle.play_laws.proofs.Work.Interrupts.{interrupts_pay}
use Rattle.play_laws.proofs.Work.Silent.{scripted_none}
use Rattle.play_laws.proofs.Work.Whole.{AtTime, Fits, Stands, all, rules_keep, start_homes}

-- a count that stays below the limit in a turn isn't spent there
spent_later : {S : Type 0} (limit work : ℕ) (t : Turn S) (ts : List (Turn S))
    → work + t.played.work < limit → spent_at limit (work + t.played.work) ts ≡ None
    → spent_at limit work (t ∷ ts) ≡ None
spent_later limit work t [] low rest = refl
spent_later limit work t (u ∷ ts) low rest =
    cond-false (nat_le limit (work + t.played.work)) (Some (work + t.played.work))
    (spent_at limit (work + t.played.work) (u ∷ ts))
    (lt-leb limit (work + t.played.work) low)
    ∙ rest

-- and nor is it after the last turn
spent_then : {S : Type 0} (limit work : ℕ) (is_last : Bool) (rest : S → List (Turn S)) (t : Turn S)
    → (is_last ≡ false → (work + t.played.work < limit)
    × (spent_at limit (work + t.played.work) (rest t.played.state) ≡ None))
    → spent_at limit work (turn_then is_last rest t) ≡ None
spent_then limit work true rest t more = refl
spent_then limit work false rest t more =
    spent_later limit work t (rest t.played.state) (more refl).0 (more refl).1

filter_least : (p : ℕ → Bool) (xs : List ℕ) → length (filter p xs) ≤ length xs
filter_least p [] = omega arith
filter_least p (x ∷ xs) =
    let rest = filter_least p xs in
    elim (p x) as (λ b. length (if b then x ∷ filter p xs else filter p xs) ≤ suc (length xs))
    [ true ↦ omega (arith, rest) | false ↦ omega (arith, rest) ]

-- at most all of the timers go out
count_low : (timers : ℕ) (may : ℕ → Bool) → count_of timers may ≤ timers
count_low timers may =
    let low = filter_least may (range_with_len 0 timers) in
    let all_of = length-range_with_len 0 timers in omega (arith, low, all_of)

module _ (jobs : Replies) (timers cpus levels end : ℕ) (in_time : end < SCRIPT_TIME_LIMIT)
    (soon : end ≤ greatest_timeout) where
  abbrev most : ℕ
  most = 1 + cpus + timers

  abbrev At : (now : ℕ) → State → Type 0
  At now s = AtTime timers cpus levels end in_time now s

  -- THE WORK OF A MOMENT
  turn_low : (now : ℕ) (ms : List Moment) (s : State) → now ≤ end → At now (at_clock now s)
      → (turn jobs plain_rules ms now s).played.work ≤ most
  turn_low now ms s by at =
      let t = at_clock now s in
      let due = having_interrupt plain_rules t in
      let count = at.homes.count in
      let pays =
      interrupts_pay timers cpus levels now (omega (arith, by, soon)) jobs (cpu_count t) 0 due all t
      (omega (arith, count)) (record { at = at.at; homes = at.homes }) in
      let paid = pays.paid in
      let low = count_low timers all in
      let none = scripted_none plain_rules (moment_at now ms)
      (interrupts jobs plain_rules (cpu_count t) 0 due t).state in
      omega (arith, paid, low, none, count)

  keeps : KeptByRules plain_rules cpus timers levels end (Fits timers)
      (Stands timers cpus levels end in_time)
  keeps = rules_keep timers cpus levels end in_time

  -- what a turn leaves, and the next one
  left_at : (now : ℕ) (ms : List Moment) (s : State) → All (IsMomentIn cpus timers) ms
      → At now (at_clock now s) → At now (turn jobs plain_rules ms now s).played.state
  left_at now ms s known at =
      moment_kept jobs plain_rules cpus timers levels end (Stands timers cpus levels end in_time)
      (Fits timers) keeps now ms (at_clock now s) known at

  abbrev Next : (ms : List Moment) (now : ℕ) → State → Type 0
  Next ms now s = NextTurn jobs plain_rules cpus timers levels end
      (Stands timers cpus levels end in_time) (Fits timers) keeps ms now s

  next_at : (now : ℕ) (ms : List Moment) (s : State) → Rise now end ms → now < end → At now s
      → Next (moments_after now ms) now s
  next_at now ms s up early at =
      next_is jobs plain_rules cpus timers levels end (Stands timers cpus levels end in_time)
      (Fits timers) keeps now (moments_after now ms) s (after_rise now end ms up)
      (omega (arith, early)) at.at

  -- so many moments at most come before the last one
  turns_low : (n m now work limit : ℕ) (ms : List Moment) (s : State)
      → All (IsMomentIn cpus timers) ms → Rise now end ms → now ≤ end → At now (at_clock now s)
      → end ≤ now + m → work + m * most < limit
      → spent_at limit work (turns jobs plain_rules n end now ms s) ≡ None
  unfolding turns
  turns_low zero m now work limit ms s known up low at far enough = refl
  turns_low (suc n) zero now work limit ms s known up low at far enough =
      let left = moments_after now ms in
      spent_then limit work (now == end)
      (λ t. turns jobs plain_rules n end (next_moment plain_rules end left t) left t)
      (turn jobs plain_rules ms now s)
      (λ more. absurd (eqb-false now end more (omega (arith, low, far))))
  turns_low (suc n) (suc m) now work limit ms s known up low at far enough =
      let left = moments_after now ms in
      let here = turn jobs plain_rules ms now s in
      let after = left_at now ms s known at in
      let one = turn_low now ms s low at in
      let all_more : suc m * most ≡ m * most + most = suc-mul m most in
      spent_then limit work (now == end)
      (λ t. turns jobs plain_rules n end (next_moment plain_rules end left t) left t) here
      (λ more.
      let apart : now ≢ end = eqb-false now end more in
      let next = next_at now ms here.played.state up (omega (arith, low, apart)) after in
      let later = next.later in (
        omega (arith, one, all_more, enough),
        turns_low n m (next_moment plain_rules end left here.played.state)
            (work + here.played.work) limit left here.played.state
            (after_in (IsMomentIn cpus timers) now ms known) next.rise next.by_the_end
            (keeps.comes now (next_moment plain_rules end left here.played.state)
            here.played.state after next.later next.by_the_end next.no_later)
            (omega (arith, later, far)) (omega (arith, one, all_more, enough)),
      ))

-- THE LAW
pub work_is_bounded : WorkIsBounded
work_is_bounded jobs script limit is few enough =
    let tree = tree_for script in
    let most_of = 1 + cpu_count_of tree + script.timers in
    let by : script.end ≤ script.end * most_of = le-mul_of_pos_right script.end (omega arith) in
    turns_low jobs script.timers (cpu_count_of tree) (level_count_of tree) script.end is.early_end
    (omega (arith, by, few, enough)) (script.end + 1) script.end 0 0 limit script.moments
    (start tree script.timers) (moments_in script is) (moments_rise script is) (omega arith)
    (record { at = refl; homes = start_homes tree script.timers }) (omega arith)
    (omega (arith, enough))

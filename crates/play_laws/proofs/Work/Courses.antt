-- a play's moments go from jiffy 0 to the script's end, with each of the script's among them
use Rattle.std.proofs.Common.{◌≡◌, ℕ, zero, suc, ◌+◌, ◌<◌, ◌≤◌, List, [], ◌∷◌, Bool, true, false}
use Rattle.std.proofs.Common.{refl, sym, arith, inl, inr}
use Rattle.std.specs.Prelude.{All, Contains, ◌≢◌, ◌==◌}
use Rattle.std.proofs.lemmas.Bool.{cases_eq, eq-eqb, eqb-false, eqb-true, ne_eqb}
use Rattle.std.proofs.lemmas.List.Elements.{All-cons, All-nil, All-weaker, Contains-append_right}
use Rattle.tm_base.specs.declared.limits.TheConstants.{SCRIPT_TIME_LIMIT}
use Rattle.tm_script.specs.declared.syntax.Moment.{Moment}
use Rattle.tree_plan.specs.Paths.{cpu_count_of, level_count_of}
use Rattle.play_rules.specs.Interrupts.{Replies}
use Rattle.play_rules.specs.Moments.{Turn, moments_after, next_moment, turn, turn_then, turns}
use Rattle.play_rules.specs.State.{State, start}
use Rattle.play_rules.specs.Play.{at_clock, plain_rules}
use Rattle.play_laws.proofs.Answered.Scripts.{moments_in, moments_rise, tree_for}
use Rattle.play_laws.proofs.Shape.Shape.{KeptByRules}
use Rattle.play_laws.proofs.Shape.ShapeTurns.{IsMomentIn, Rise, after_in, after_rise, moment_kept}
use Rattle.play_laws.proofs.Shape.ShapeTurns.{next_is}
use Rattle.play_laws.specs.Work.Course.{EachComesToItsEnd, GoFrom, GoOn, times_of}
use Rattle.play_laws.proofs.Work.Whole.{AtTime, Fits, Stands, rules_keep, start_homes}

-- ---- which moments of the script are among some times

abbrev Among : List ℕ → Moment → Type 0
Among times m = Contains times m.at

first_among : (now : ℕ) (times : List ℕ) (m : Moment) → m.at ≡ now → Among (now ∷ times) m
first_among now times m is = (0, omega arith, sym is)

later_among : (now : ℕ) (times : List ℕ) (m : Moment) → Among times m → Among (now ∷ times) m
later_among now times m there = Contains-append_right (now ∷ []) times m.at there

-- a time comes before: it is that of the script's next moment, or of none
all_among : (now : ℕ) (times : List ℕ) (ms : List Moment) → All (Among times) (moments_after now ms)
    → All (Among (now ∷ times)) ms
all_among now times [] all = All-nil (Among (now ∷ times))
all_among now times (m ∷ ms) all =
    elim (cases_eq m.at now) [
      | inl same ↦
          All-cons (Among (now ∷ times)) m ms (first_among now times m same)
          (All-weaker (Among times) (Among (now ∷ times)) (later_among now times) ms
          (rw (eq-eqb m.at now same) at all))
      | inr other ↦
          All-weaker (Among times) (Among (now ∷ times)) (later_among now times) (m ∷ ms)
          (rw (ne_eqb m.at now other) at all)
    ]

-- at the end no moment but that of the end is still to come
last_at : (now end from : ℕ) (ms : List Moment) → end ≤ now → now ≤ from → Rise from end ms
    → All (λ (m : Moment). m.at ≡ now) ms
last_at now end from [] by low up = All-nil (λ (m : Moment). m.at ≡ now)
last_at now end from (m ∷ ms) by low (above, (below, up)) =
    All-cons (λ (n : Moment). n.at ≡ now) m ms (omega (arith, by, low, above, below))
    (last_at now end (m.at + 1) ms by (omega (arith, low, above)) up)

goes_on : (end now next : ℕ) (times : List ℕ) → now < next → GoFrom next end times
    → GoOn end now times
goes_on end now next [] later goes = absurd goes
goes_on end now next (t ∷ ts) later (is, on) = (omega (arith, later, is), on)

-- ---- the moments from a time on

record Reaches (end now : ℕ) (ms : List Moment) (ts : List (Turn State)) : Type 0 where
  goes : GoFrom now end (times_of ts)
  has_all : All (Among (times_of ts)) ms

record Further (end now : ℕ) (ms : List Moment) (ts : List (Turn State)) : Type 0 where
  next : ℕ
  later : now < next
  reaches : Reaches end next ms ts

-- a turn, and those behind it unless it is the last
reaches_then : (is_last : Bool) (end : ℕ) (ms : List Moment) (rest : State → List (Turn State))
    (t : Turn State) →
    (is_last ≡ true → All (λ (m : Moment). m.at ≡ t.at) ms × (t.at ≡ end)) →
    (is_last ≡ false → Further end t.at (moments_after t.at ms) (rest t.played.state)) →
    Reaches end t.at ms (turn_then is_last rest t)
reaches_then true end ms rest t last more = record {
  goes = (refl, (last refl).1);
  has_all =
      All-weaker (λ (m : Moment). m.at ≡ t.at) (Among (t.at ∷ [])) (first_among t.at []) ms
      (last refl).0;
}
reaches_then false end ms rest t last more =
    let further = more refl in
    let times = times_of (rest t.played.state) in
    record {
      goes = (refl, goes_on end t.at further.next times further.later further.reaches.goes);
      has_all = all_among t.at times ms further.reaches.has_all;
    }

module _ (jobs : Replies) (timers cpus levels end : ℕ) (in_time : end < SCRIPT_TIME_LIMIT) where
  abbrev At : (now : ℕ) → State → Type 0
  At now s = AtTime timers cpus levels end in_time now s

  keeps : KeptByRules plain_rules cpus timers levels end (Fits timers)
      (Stands timers cpus levels end in_time)
  keeps = rules_keep timers cpus levels end in_time

  left_at : (now : ℕ) (ms : List Moment) (s : State) → All (IsMomentIn cpus timers) ms
      → At now (at_clock now s) → At now (turn jobs plain_rules ms now s).played.state
  left_at now ms s known at =
      moment_kept jobs plain_rules cpus timers levels end (Stands timers cpus levels end in_time)
      (Fits timers) keeps now ms (at_clock now s) known at

  -- n turns reach the end where it is less than n jiffies away
  reaches : (n now : ℕ) (ms : List Moment) (s : State) → All (IsMomentIn cpus timers) ms
      → Rise now end ms → now ≤ end → At now (at_clock now s) → end < now + n
      → Reaches end now ms (turns jobs plain_rules n end now ms s)
  unfolding turns
  reaches zero now ms s known up low at near = absurd (omega (arith, low, near))
  reaches (suc n) now ms s known up low at near =
      let left = moments_after now ms in
      let here = turn jobs plain_rules ms now s in
      let after = left_at now ms s known at in
      reaches_then (now == end) end ms
      (λ t. turns jobs plain_rules n end (next_moment plain_rules end left t) left t) here
      (λ last.
      let is = eqb-true now end last in
      (last_at now end now ms (omega (arith, is)) (omega arith) up, is))
      (λ more.
      let apart : now ≢ end = eqb-false now end more in
      let next =
      next_is jobs plain_rules cpus timers levels end (Stands timers cpus levels end in_time)
      (Fits timers) keeps now left here.played.state (after_rise now end ms up)
      (omega (arith, low, apart)) after.at in
      let later = next.later in
      record {
        next = next_moment plain_rules end left here.played.state;
        later = later;
        reaches =
            reaches n (next_moment plain_rules end left here.played.state) left here.played.state
            (after_in (IsMomentIn cpus timers) now ms known) next.rise next.by_the_end
            (keeps.comes now (next_moment plain_rules end left here.played.state)
            here.played.state after next.later next.by_the_end next.no_later)
            (omega (arith, later, near));
      })

-- THE LAW
pub each_comes : EachComesToItsEnd
each_comes jobs script is =
    let tree = tree_for script in
    let all =
    reaches jobs script.timers (cpu_count_of tree) (level_count_of tree) script.end is.early_end
    (script.end + 1) 0 script.moments (start tree script.timers) (moments_in script is)
    (moments_rise script is) (omega arith)
    (record { at = refl; homes = start_homes tree script.timers }) (omega arith) in
    record { goes = all.goes; has_all = all.has_all }

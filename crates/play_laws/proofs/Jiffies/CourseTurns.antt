-- what is kept holds after each moment of a play, beside what else is known to
use Rattle.std.proofs.Common.{◌≡◌, ℕ, zero, suc, ◌+◌, ◌^◌, ◌<◌, ◌≤◌, List, [], ◌∷◌, Bool, true}
use Rattle.std.proofs.Common.{false, Option, Some, None, refl, subst, arith, inl, inr, max}
use Rattle.std.specs.Prelude.{All, ◌≢◌, ◌==◌, if◌then◌else◌, slice_get, take}
use Rattle.std.specs.Option.{ForSome}
use Rattle.std.proofs.lemmas.Bool.{cases_eq, eq-eqb, eqb-false, ne_eqb}
use Rattle.std.proofs.lemmas.Option.{none-some, same_Some}
use Rattle.std.proofs.lemmas.List.Elements.{All-cons, All-head, All-nil, All-tail}
use Rattle.tm_script.specs.declared.syntax.Moment.{Moment}
use Rattle.tm_script.specs.Grammar.{IsMoment}
use Rattle.play_rules.specs.State.{State}
use Rattle.play_rules.specs.Interrupts.{Replies, having_interrupt}
use Rattle.play_rules.specs.Moments.{last_state}
use Rattle.play_rules.specs.Moments.{AfterEach, Turn, moment_at, moment_now, moments_after}
use Rattle.play_rules.specs.Moments.{next_moment, next_said, scripted, turn, turn_then, turns}
use Rattle.play_rules.specs.Play.{at_clock, next_interrupt, plain_rules}
use Rattle.play_laws.proofs.Shape.Shape.{Stage, begun, between}
use Rattle.play_laws.proofs.Shape.ShapeTurns.{Rise}
use Rattle.play_laws.proofs.Jiffies.Course.{KeepsCourse}
use Rattle.play_laws.proofs.Jiffies.CourseInterrupts.{interrupts_kept}
use Rattle.play_laws.proofs.Jiffies.CourseOperations.{operations_kept}

-- THE MOMENTS that are still to come
moment_in : (P : Moment → Type 0) (now : ℕ) (ms : List Moment) → All P ms
    → ForSome (moment_at now ms) P
moment_in P now [] all = λ m none. absurd (none-some m none)
moment_in P now (m ∷ ms) all =
    elim (m.at == now) as (λ b. ForSome (if b then Some m else None) P) [
      | true ↦ λ x is. subst P (same_Some m x is) (All-head P m ms all)
      | false ↦ λ x none. absurd (none-some x none)
    ]

after_in : (P : Moment → Type 0) (now : ℕ) (ms : List Moment) → All P ms
    → All P (moments_after now ms)
after_in P now [] all = all
after_in P now (m ∷ ms) all =
    elim (m.at == now) as (λ b. All P (if b then ms else m ∷ ms))
    [ true ↦ All-tail P m ms all | false ↦ all ]

after_rise : (now end : ℕ) (ms : List Moment) → Rise now end ms
    → Rise (now + 1) end (moments_after now ms)
after_rise now end [] up = up
after_rise now end (m ∷ ms) (from, (by, up)) =
    elim (cases_eq m.at now) [
      | inl same ↦ let later : m.at + 1 ≡ now + 1 = omega (arith, same) in
          rw (eq-eqb m.at now same) (subst (λ k. Rise k end ms) later up)
      | inr other ↦ rw (ne_eqb m.at now other) (omega (arith, from, other), (by, up))
    ]

rise_from : (now next end : ℕ) (ms : List Moment) → Rise now end ms → next ≤ next_said ms end
    → Rise next end ms
rise_from now next end [] up by = up
rise_from now next end (m ∷ ms) (from, rest) by = (by, rest)

said_by_end : (now end : ℕ) (ms : List Moment) → Rise now end ms → next_said ms end ≤ end
said_by_end now end [] up = omega arith
said_by_end now end (m ∷ ms) (from, (by, up)) = by

from_said : (from end : ℕ) (ms : List Moment) → Rise from end ms → from ≤ end
    → from ≤ next_said ms end
from_said from end [] up low = low
from_said from end (m ∷ ms) (above, rest) low = above

-- the next moment, and the rest of the script from there on
record Next (end : ℕ) (ms : List Moment) (now : ℕ) (s : State) : Type 0 where
  later : now < next_moment plain_rules end ms s
  by_the_end : next_moment plain_rules end ms s ≤ end
  no_later : next_moment plain_rules end ms s ≤ max (s.clock + 1) (next_interrupt s)
  rise : Rise (next_moment plain_rules end ms s) end ms

next_is : (end now : ℕ) (ms : List Moment) (s : State) → Rise (now + 1) end ms → now + 1 ≤ end
    → s.clock ≡ now
    → Next end ms now s
next_is end now ms s up low clock =
    let said = from_said (now + 1) end ms up low in
    let by_end = said_by_end (now + 1) end ms up in
    let by_said : next_moment plain_rules end ms s ≤ next_said ms end =
    omega (arith, said, clock) in
    record {
      later = omega (arith, clock);
      by_the_end = omega (arith, by_said, by_end);
      no_later = omega arith;
      rise = rise_from (now + 1) (next_moment plain_rules end ms s) end ms up by_said;
    }

module _ (jobs : Replies) (cpus levels end version timers : ℕ)
    (few : timers ≤ 2 ^ 16)
    (P : (now : ℕ) → Stage → State → Type 0) (keeps : KeepsCourse cpus levels P)
    (Known : State → Type 0)
    (comes : (now next : ℕ) (s : State) → P now between s → Known s → now < next → next ≤ end
    → next ≤ max (s.clock + 1) (next_interrupt s)
    → P next (begun (having_interrupt plain_rules (at_clock next s)) 0) (at_clock next s)) where
  abbrev pub Due : ℕ → State → Type 0
  Due now s = P now (begun (having_interrupt plain_rules s) 0) s

  scripted_kept : (now : ℕ) (o : Option Moment) (s : State)
      → ForSome o (IsMoment version cpus timers) → P now between s
      → P now between (scripted plain_rules o s).state
  scripted_kept now None s known holds = holds
  scripted_kept now (Some m) s known holds =
      let is = known m refl in
      operations_kept cpus levels P keeps now version timers few m.ops s is.ops is.hotplug_last
      holds

  moment_kept : (now : ℕ) (ms : List Moment) (s : State) → All (IsMoment version cpus timers) ms
      → Due now s
      → P now between (moment_now jobs plain_rules ms now s).state
  moment_kept now ms s known holds =
      scripted_kept now (moment_at now ms) _ (moment_in (IsMoment version cpus timers) now ms known)
      (interrupts_kept jobs cpus levels P keeps now
      (having_interrupt plain_rules s) s holds)

  abbrev pub Both : State → Type 0
  Both s = ((now : ℕ) × P now between s) × Known s

  -- a turn, and those behind it unless it is the last
  then_kept : (is_last : Bool) (rest : State → List (Turn State)) (t : Turn State)
      → AfterEach Known (turn_then is_last rest t)
      → (now : ℕ) × P now between t.played.state
      → (is_last ≡ false → Known t.played.state → AfterEach Known (rest t.played.state)
      → AfterEach Both (rest t.played.state))
      → AfterEach Both (turn_then is_last rest t)
  then_kept true rest t known here there =
      All-cons (λ u. Both u.played.state) t []
      (here, All-head (λ u. Known u.played.state) t [] known)
      (All-nil (λ u. Both u.played.state))
  then_kept false rest t known here there =
      let this =
      All-head (λ (u : Turn State). Known u.played.state) t (rest t.played.state) known in
      All-cons (λ u. Both u.played.state) t (rest t.played.state) (here, this)
      (there refl this (All-tail (λ u. Known u.played.state) t (rest t.played.state) known))

  abbrev pub Playing : (now : ℕ) → List Moment → State → Type 0
  Playing now ms s =
      All (IsMoment version cpus timers) ms × Rise now end ms × (now ≤ end)
      × Due now (at_clock now s)

  turns_from : (n now : ℕ) (ms : List Moment) (s : State) → Playing now ms s
      → AfterEach Known (turns jobs plain_rules n end now ms s)
      → AfterEach Both (turns jobs plain_rules n end now ms s)
  unfolding turns
  turns_from zero now ms s playing all = All-nil (λ (u : Turn State). Both u.played.state)
  turns_from (suc n) now ms s (known, up, low, holds) all =
      let here = turn jobs plain_rules ms now s in
      let after = moment_kept now ms (at_clock now s) known holds in
      let left = moments_after now ms in
      then_kept (now == end)
      (λ t. turns jobs plain_rules n end (next_moment plain_rules end left t) left t) here all
      (now, after)
      (λ more this rest.
      let apart : now ≢ end = eqb-false now end more in
      let next =
      next_is end now left here.played.state (after_rise now end ms up)
      (omega (arith, low, apart))
      (keeps.clock now here.played.state after) in
      turns_from n (next_moment plain_rules end left here.played.state) left here.played.state (
        after_in (IsMoment version cpus timers) now ms known,
        next.rise,
        next.by_the_end,
        comes now (next_moment plain_rules end left here.played.state) here.played.state after this
            next.later next.by_the_end next.no_later,
      ) rest)

  -- AFTER EACH MOMENT from the time now on it holds, where it does as the clock comes there
  pub course_kept : (n now : ℕ) (ms : List Moment) (s : State)
      → All (IsMoment version cpus timers) ms → Rise now end ms → now ≤ end
      → Due now (at_clock now s) → AfterEach Known (turns jobs plain_rules n end now ms s)
      → AfterEach Both (turns jobs plain_rules n end now ms s)
  course_kept n now ms s known up low holds all = turns_from n now ms s (known, up, low, holds) all

  -- AS EACH MOMENT BEGINS it holds
  abbrev pub EachBegins : State → List (Turn State) → Type 0
  EachBegins s ts = (n : ℕ) (t : Turn State) → slice_get ts n ≡ Some t
      → Due t.at (at_clock t.at (last_state s (take n ts)))

  one_begins : (s : State) (t : Turn State) (ts : List (Turn State)) → Due t.at (at_clock t.at s)
      → EachBegins t.played.state ts → EachBegins s (t ∷ ts)
  one_begins s t ts here rest zero u is =
      subst (λ (x : Turn State). Due x.at (at_clock x.at s)) (same_Some t u is) here
  one_begins s t ts here rest (suc n) u is = rest n u is

  then_begins : (is_last : Bool) (rest : State → List (Turn State)) (s : State) (t : Turn State)
      → AfterEach Known (turn_then is_last rest t) → Due t.at (at_clock t.at s)
      → (is_last ≡ false → Known t.played.state → AfterEach Known (rest t.played.state)
      → EachBegins t.played.state (rest t.played.state))
      → EachBegins s (turn_then is_last rest t)
  then_begins true rest s t known here there =
      one_begins s t [] here (λ n u is. absurd (none-some u is))
  then_begins false rest s t known here there =
      let this =
      All-head (λ (u : Turn State). Known u.played.state) t (rest t.played.state) known in
      one_begins s t (rest t.played.state) here
      (there refl this (All-tail (λ u. Known u.played.state) t (rest t.played.state) known))

  begin_from : (n now : ℕ) (ms : List Moment) (s : State) → Playing now ms s
      → AfterEach Known (turns jobs plain_rules n end now ms s)
      → EachBegins s (turns jobs plain_rules n end now ms s)
  unfolding turns
  begin_from zero now ms s playing all = λ k u is. absurd (none-some u is)
  begin_from (suc n) now ms s (known, up, low, holds) all =
      let here = turn jobs plain_rules ms now s in
      let after = moment_kept now ms (at_clock now s) known holds in
      let left = moments_after now ms in
      then_begins (now == end)
      (λ t. turns jobs plain_rules n end (next_moment plain_rules end left t) left t) s here all
      holds
      (λ more this rest.
      let apart : now ≢ end = eqb-false now end more in
      let next =
      next_is end now left here.played.state (after_rise now end ms up)
      (omega (arith, low, apart))
      (keeps.clock now here.played.state after) in
      begin_from n (next_moment plain_rules end left here.played.state) left here.played.state (
        after_in (IsMoment version cpus timers) now ms known,
        next.rise,
        next.by_the_end,
        comes now (next_moment plain_rules end left here.played.state) here.played.state after this
            next.later next.by_the_end next.no_later,
      ) rest)

  pub each_begins : (n now : ℕ) (ms : List Moment) (s : State)
      → All (IsMoment version cpus timers) ms → Rise now end ms → now ≤ end
      → Due now (at_clock now s) → AfterEach Known (turns jobs plain_rules n end now ms s)
      → EachBegins s (turns jobs plain_rules n end now ms s)
  each_begins n now ms s known up low holds all = begin_from n now ms s (known, up, low, holds) all

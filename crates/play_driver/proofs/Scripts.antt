-- for crates above: the moments of a script that are still to come
use Rattle.std.proofs.Common.{◌≡◌, ℕ, ◌+◌, ◌≤◌, List, [], ◌∷◌, true, false, Option, Some, None, subst, arith, inl, inr, ◌==◌, if◌then◌else◌}
use Rattle.std.specs.Prelude.{All}
use Rattle.std.specs.Option.{ForSome}
use Rattle.std.proofs.lemmas.Bool.{cases_eq, eq-eqb, ne_eqb}
use Rattle.std.proofs.lemmas.Option.{none-some, same_Some}
use Rattle.std.proofs.lemmas.List.Elements.{All-head, All-tail}
use Rattle.tm_script.specs.declared.syntax.Moment.{Moment}
use Rattle.play_rules.specs.Moments.{moment_at, moments_after, next_said}
use Rattle.play_driver.specs.Conditions.{Rise}
use Rattle.play_driver.specs.Outcomes.{moment_of}

-- what holds of a moment that comes, where it holds of all
at_in_range : (P : Moment → Type 0) (now : ℕ) (ms : List Moment) → All P ms → ForSome (moment_at now ms) P
at_in_range P now [] all = λ m none. absurd (none-some m none)
at_in_range P now (m ∷ ms) all =
    elim (m.at == now) as (λ b. ForSome (if b then Some m else None) P) [
      | true ↦ λ x is. subst P (same_Some m x is) (All-head P m ms all)
      | false ↦ λ x none. absurd (none-some x none)
    ]

pub due_in_range : (P : Moment → Type 0) (now : ℕ) (ms : List Moment) (o : Option Moment) → o ≡ moment_at now ms → All P ms → ForSome o P
due_in_range P now ms o is all = rw is (at_in_range P now ms all)

-- and of the moment of a time
of_in_range : (P : Moment → Type 0) (at : ℕ) (ms : List Moment) → All P ms → ForSome (moment_of at ms) P
of_in_range P at [] all = λ m none. absurd (none-some m none)
of_in_range P at (m ∷ ms) all =
    elim (m.at == at) as (λ b. ForSome (if b then Some m else moment_of at ms) P) [
      | true ↦ λ x is. subst P (same_Some m x is) (All-head P m ms all)
      | false ↦ of_in_range P at ms (All-tail P m ms all)
    ]

pub found_in_range : (P : Moment → Type 0) (at : ℕ) (ms : List Moment) (o : Option Moment) → o ≡ moment_of at ms → All P ms → ForSome o P
found_in_range P at ms o is all = rw is (of_in_range P at ms all)

-- the moments behind it
pub after_in_range : (P : Moment → Type 0) (now : ℕ) (ms : List Moment) → All P ms → All P (moments_after now ms)
after_in_range P now [] all = all
after_in_range P now (m ∷ ms) all =
    elim (m.at == now) as (λ b. All P (if b then ms else m ∷ ms)) [ true ↦ All-tail P m ms all | false ↦ all ]

-- they rise from the next jiffy on, where they rose from this one
pub after_rise : (now end : ℕ) (ms : List Moment) → Rise now end ms → Rise (now + 1) end (moments_after now ms)
after_rise now end [] up = up
after_rise now end (m ∷ ms) (from, (by, up)) =
    elim (cases_eq m.at now) [
      | inl same ↦ let later : m.at + 1 ≡ now + 1 = omega (arith, same) in
          rw (eq-eqb m.at now same) (subst (λ k. Rise k end ms) later up)
      | inr other ↦ rw (ne_eqb m.at now other) (omega (arith, from, other), (by, up))
    ]

-- and so from any time on up to the next of them
pub rise_from : (now next end : ℕ) (ms : List Moment) → Rise now end ms → next ≤ next_said ms end → Rise next end ms
rise_from now next end [] up by = up
rise_from now next end (m ∷ ms) (from, rest) by = (by, rest)

pub said_by_end : (now end : ℕ) (ms : List Moment) → Rise now end ms → next_said ms end ≤ end
said_by_end now end [] up = omega arith
said_by_end now end (m ∷ ms) (from, (by, up)) = by

pub from_said : (from end : ℕ) (ms : List Moment) → Rise from end ms → from ≤ end → from ≤ next_said ms end
from_said from end [] up low = low
from_said from end (m ∷ ms) (above, rest) low = above

-- for crates above: what the rules keep holds after each moment of a play
use Rattle.std.proofs.Common.{◌≡◌, ℕ, zero, suc, ◌+◌, ◌<◌, ◌≤◌, List, [], ◌∷◌, Bool, true, false}
use Rattle.std.proofs.Common.{Option, Some, None, refl, subst, arith, inl, inr, max}
use Rattle.std.specs.Prelude.{All, ◌≢◌, ◌==◌, if◌then◌else◌}
use Rattle.std.specs.Option.{ForSome}
use Rattle.std.proofs.lemmas.Bool.{cases_eq, eq-eqb, eqb-false, ne_eqb}
use Rattle.std.proofs.lemmas.Option.{none-some, same_Some}
use Rattle.std.proofs.lemmas.List.Elements.{All-cons, All-head, All-nil, All-tail}
use Rattle.tm_script.specs.declared.syntax.Moment.{Moment}
use Rattle.play_rules.specs.declared.asks.Arming.{Arming}
use Rattle.play_rules.specs.Rules.{Rules}
use Rattle.play_rules.specs.Interrupts.{Replies, having_interrupt}
use Rattle.play_rules.specs.Operations.{leaver}
use Rattle.play_rules.specs.Moments.{AfterEach, Turn, moment_at, moment_now, moments_after}
use Rattle.play_rules.specs.Moments.{next_moment, next_said, scripted, turn, turn_then, turns}
use Rattle.play_laws.proofs.Shape.Shape.{KeptByRules, Stage, begun, between}
use Rattle.play_laws.proofs.Shape.ShapeInterrupts.{interrupts_kept}
use Rattle.play_laws.proofs.Shape.ShapeOperations.{IsOpIn, clear_after_kept, leaver_in, operations_kept}

-- WHAT IS KNOWN of the moments that are still to come: their numbers are in range, and their times
-- rise, from a time on
abbrev pub IsMomentIn : (cpus timers : ℕ) → Moment → Type 0
IsMomentIn cpus timers m = All (IsOpIn cpus timers) m.ops

abbrev pub Rise : (from end : ℕ) → List Moment → Type 0
Rise from end [] = Unit {0}
Rise from end (m ∷ ms) = (from ≤ m.at) × ((m.at ≤ end) × Rise (m.at + 1) end ms)

pub moment_in : (P : Moment → Type 0) (now : ℕ) (ms : List Moment) → All P ms
    → ForSome (moment_at now ms) P
moment_in P now [] all = λ m none. absurd (none-some m none)
moment_in P now (m ∷ ms) all =
    elim (m.at == now) as (λ b. ForSome (if b then Some m else None) P) [
      | true ↦ λ x is. subst P (same_Some m x is) (All-head P m ms all)
      | false ↦ λ x none. absurd (none-some x none)
    ]

pub after_in : (P : Moment → Type 0) (now : ℕ) (ms : List Moment) → All P ms
    → All P (moments_after now ms)
after_in P now [] all = all
after_in P now (m ∷ ms) all =
    elim (m.at == now) as (λ b. All P (if b then ms else m ∷ ms))
    [ true ↦ All-tail P m ms all | false ↦ all ]

pub after_rise : (now end : ℕ) (ms : List Moment) → Rise now end ms
    → Rise (now + 1) end (moments_after now ms)
after_rise now end [] up = up
after_rise now end (m ∷ ms) (from, (by, up)) =
    elim (cases_eq m.at now) [
      | inl same ↦ let later : m.at + 1 ≡ now + 1 = omega (arith, same) in
          rw (eq-eqb m.at now same) (subst (λ k. Rise k end ms) later up)
      | inr other ↦ rw (ne_eqb m.at now other) (omega (arith, from, other), (by, up))
    ]

rise_from : (now next end : ℕ) (ms : List Moment) → Rise now end ms → next ≤ next_said ms end
    → Rise next end ms
rise_from now next end [] up by = up
rise_from now next end (m ∷ ms) (from, rest) by = (by, rest)

said_by_end : (now end : ℕ) (ms : List Moment) → Rise now end ms → next_said ms end ≤ end
said_by_end now end [] up = omega arith
said_by_end now end (m ∷ ms) (from, (by, up)) = by

from_said : (from end : ℕ) (ms : List Moment) → Rise from end ms → from ≤ end
    → from ≤ next_said ms end
from_said from end [] up low = low
from_said from end (m ∷ ms) (above, rest) low = above

module _ {S : Type 0} (jobs : Replies) (r : Rules S) (cpus timers levels end : ℕ)
    (P : (now : ℕ) → Stage → S → Type 0)
    (Fits : Arming → Type 0) (keeps : KeptByRules r cpus timers levels end Fits P) where
  abbrev pub Due : ℕ → S → Type 0
  Due now s = P now (begun (having_interrupt r s) 0) s

  scripted_kept : (now : ℕ) (o : Option Moment) (s : S) → ForSome o (IsMomentIn cpus timers)
      → P now between s
      → P now between (scripted r o s).state
  scripted_kept now None s known holds = holds
  scripted_kept now (Some m) s known holds =
      clear_after_kept r cpus timers levels end P Fits keeps now (leaver m.ops) _
      (λ c is. leaver_in cpus timers m.ops c (known m refl) is)
      (operations_kept r cpus timers levels end P Fits keeps now m.ops s (known m refl) holds)

  pub moment_kept : (now : ℕ) (ms : List Moment) (s : S) → All (IsMomentIn cpus timers) ms → Due now s
      → P now between (moment_now jobs r ms now s).state
  moment_kept now ms s known holds =
      scripted_kept now (moment_at now ms) _ (moment_in (IsMomentIn cpus timers) now ms known)
      (interrupts_kept jobs r cpus timers levels end P Fits keeps now (having_interrupt r s) s holds)

  -- the next moment, and the rest of the script from there on
  pub record Next (ms : List Moment) (now : ℕ) (s : S) : Type 0 where
    pub later : now < next_moment r end ms s
    pub by_the_end : next_moment r end ms s ≤ end
    pub no_later : next_moment r end ms s ≤ max (r.clock s + 1) (r.next_interrupt s)
    pub rise : Rise (next_moment r end ms s) end ms

  pub next_is : (now : ℕ) (ms : List Moment) (s : S) → Rise (now + 1) end ms → now + 1 ≤ end
      → r.clock s ≡ now
      → Next ms now s
  next_is now ms s up low clock =
      let said = from_said (now + 1) end ms up low in
      let by_end = said_by_end (now + 1) end ms up in
      let by_said : next_moment r end ms s ≤ next_said ms end = omega (arith, said, clock) in
      record {
        later = omega (arith, clock);
        by_the_end = omega (arith, by_said, by_end);
        no_later = omega arith;
        rise = rise_from (now + 1) (next_moment r end ms s) end ms up by_said;
      }

  abbrev pub Holds : S → Type 0
  Holds s = (now : ℕ) × P now between s

  -- a turn, and those behind it unless it is the last
  then_kept : (is_last : Bool) (rest : S → List (Turn S)) (t : Turn S) → Holds t.played.state
      → (is_last ≡ false → AfterEach Holds (rest t.played.state))
      → AfterEach Holds (turn_then is_last rest t)
  then_kept true rest t here there =
      All-cons (λ u. Holds u.played.state) t [] here (All-nil (λ u. Holds u.played.state))
  then_kept false rest t here there =
      All-cons (λ u. Holds u.played.state) t (rest t.played.state) here (there refl)

  abbrev pub Playing : (now : ℕ) → List Moment → S → Type 0
  Playing now ms s = All (IsMomentIn cpus timers) ms × Rise now end ms × (now ≤ end) × Due now
      (r.at_clock now s)

  turns_from : (n now : ℕ) (ms : List Moment) (s : S) → Playing now ms s
      → AfterEach Holds (turns jobs r n end now ms s)
  unfolding turns
  turns_from zero now ms s playing = All-nil (λ (u : Turn S). Holds u.played.state)
  turns_from (suc n) now ms s (known, up, low, holds) =
      let here = turn jobs r ms now s in
      let after = moment_kept now ms (r.at_clock now s) known holds in
      let left = moments_after now ms in
      then_kept (now == end) (λ t. turns jobs r n end (next_moment r end left t) left t) here
      (now, after)
      (λ more.
      let apart : now ≢ end = eqb-false now end more in
      let next = next_is now left here.played.state (after_rise now end ms up)
      (omega (arith, low, apart))
      (keeps.clock now here.played.state after) in
      turns_from n (next_moment r end left here.played.state) left here.played.state (
        after_in (IsMomentIn cpus timers) now ms known,
        next.rise,
        next.by_the_end,
        keeps.comes now (next_moment r end left here.played.state) here.played.state after
            next.later next.by_the_end next.no_later,
      ))

  -- AFTER EACH MOMENT from the time now on it holds, where it does as the clock comes there
  pub turns_kept : (n now : ℕ) (ms : List Moment) (s : S) → All (IsMomentIn cpus timers) ms
      → Rise now end ms → now ≤ end
      → P now (begun (having_interrupt r (r.at_clock now s)) 0) (r.at_clock now s)
      → AfterEach Holds (turns jobs r n end now ms s)
  turns_kept n now ms s known up low holds = turns_from n now ms s (known, up, low, holds)

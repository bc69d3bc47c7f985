-- for crates above: what the rules keep holds after each moment, at its time
use Rattle.std.proofs.Common.{◌≡◌, ℕ, zero, suc, List, [], ◌∷◌, Bool, true, false, ◌∙◌}
use Rattle.std.proofs.Common.{arith, refl}
use Rattle.std.specs.Prelude.{All, ◌≢◌, ◌==◌}
use Rattle.std.proofs.lemmas.Bool.{eqb-false}
use Rattle.std.proofs.lemmas.List.Elements.{All-cons, All-head, All-nil, All-tail}
use Rattle.tm_script.specs.declared.syntax.Moment.{Moment}
use Rattle.play_rules.specs.declared.asks.Arming.{Arming}
use Rattle.play_rules.specs.Rules.{Rules}
use Rattle.play_rules.specs.Interrupts.{Replies}
use Rattle.play_rules.specs.Moments.{Turn, last_state, moments_after, next_moment, turn, turn_then}
use Rattle.play_rules.specs.Moments.{turns}
use Rattle.play_rules.specs.State.{State}
use Rattle.play_laws.specs.Work.Course.{GoFrom, GoOn, times_of}
use Rattle.play_laws.proofs.Shape.Shape.{KeptByRules, Stage, between}
use Rattle.play_laws.proofs.Shape.ShapeTurns.{IsMomentIn, Playing, after_in, after_rise}
use Rattle.play_laws.proofs.Shape.ShapeTurns.{moment_kept, next_is}

module _ {S : Type 0} (jobs : Replies) (r : Rules S) (cpus timers levels end : ℕ)
    (P : (now : ℕ) → Stage → S → Type 0) (Fits : Arming → Type 0)
    (keeps : KeptByRules r cpus timers levels end Fits P) where
  abbrev pub HoldsAt : Turn S → Type 0
  HoldsAt t = P t.at between t.played.state

  then_hold : (is_last : Bool) (rest : S → List (Turn S)) (t : Turn S) → HoldsAt t
      → (is_last ≡ false → All HoldsAt (rest t.played.state))
      → All HoldsAt (turn_then is_last rest t)
  then_hold true rest t here there = All-cons HoldsAt t [] here (All-nil HoldsAt)
  then_hold false rest t here there = All-cons HoldsAt t (rest t.played.state) here (there refl)

  pub turns_hold : (n now : ℕ) (ms : List Moment) (s : S)
      → Playing jobs r cpus timers levels end P Fits keeps now ms s
      → All HoldsAt (turns jobs r n end now ms s)
  unfolding turns
  turns_hold zero now ms s playing = All-nil HoldsAt
  turns_hold (suc n) now ms s (known, up, low, holds) =
      let here = turn jobs r ms now s in
      let after = moment_kept jobs r cpus timers levels end P Fits keeps now ms (r.at_clock now s)
      known holds in
      let left = moments_after now ms in
      then_hold (now == end) (λ t. turns jobs r n end (next_moment r end left t) left t) here after
      (λ more.
      let apart : now ≢ end = eqb-false now end more in
      let next = next_is jobs r cpus timers levels end P Fits keeps now left here.played.state
      (after_rise now end ms up) (omega (arith, low, apart))
      (keeps.clock now here.played.state after) in
      turns_hold n (next_moment r end left here.played.state) left here.played.state (
        after_in (IsMomentIn cpus timers) now ms known,
        next.rise,
        next.by_the_end,
        keeps.comes now (next_moment r end left here.played.state) here.played.state after
            next.later next.by_the_end next.no_later,
      ))

-- the last moment is at the end
abbrev pub IsAtTime : Turn State → Type 0
IsAtTime t = t.played.state.clock ≡ t.at

ends_at : (end now : ℕ) (s : State) (ts : List (Turn State)) → GoOn end now (times_of ts)
    → s.clock ≡ now → All IsAtTime ts → (last_state s ts).clock ≡ end
ends_at end now s [] goes at all = at ∙ goes
ends_at end now s (t ∷ ts) goes at all =
    ends_at end t.at t.played.state ts goes.1 (All-head IsAtTime t ts all)
    (All-tail IsAtTime t ts all)

pub last_at : (first end : ℕ) (s : State) (ts : List (Turn State)) → GoFrom first end (times_of ts)
    → All IsAtTime ts → (last_state s ts).clock ≡ end
last_at first end s [] goes all = absurd goes
last_at first end s (t ∷ ts) goes all =
    ends_at end t.at t.played.state ts goes.1 (All-head IsAtTime t ts all)
    (All-tail IsAtTime t ts all)

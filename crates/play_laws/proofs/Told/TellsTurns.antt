-- for crates above: what the lines of each rule tell of its change, the lines of a play tell of all
-- changes: from its start to each of its moments
use Rattle.std.proofs.Common.{◌≡◌, ℕ, zero, suc, List, [], ◌∷◌, Bool, true, false}
use Rattle.std.proofs.Common.{Option, Some, None, refl, arith, take}
use Rattle.std.specs.Prelude.{All, ◌≢◌, ◌==◌}
use Rattle.std.specs.Option.{ForSome}
use Rattle.std.proofs.lemmas.Bool.{eqb-false}
use Rattle.tm_script.specs.declared.syntax.Moment.{Moment}
use Rattle.tm_report.specs.declared.lines.Line.{Line}
use Rattle.play_rules.specs.declared.asks.Arming.{Arming}
use Rattle.play_rules.specs.Parts.{and_then, counting}
use Rattle.play_rules.specs.Rules.{Rules}
use Rattle.play_rules.specs.Interrupts.{Replies, having_interrupt, interrupts}
use Rattle.play_rules.specs.Operations.{clear_after, covers, leaver, operations}
use Rattle.play_rules.specs.Moments.{Turn, last_state, moment_at, moment_now, moments_after}
use Rattle.play_rules.specs.Moments.{next_moment, scripted, turn, turn_lines, turn_then, turns}
use Rattle.play_laws.proofs.Shape.Shape.{KeptByRules, Stage, begun, between}
use Rattle.play_laws.proofs.Shape.ShapeInterrupts.{interrupts_kept}
use Rattle.play_laws.proofs.Shape.ShapeOperations.{leaver_in, operations_kept}
use Rattle.play_laws.proofs.Shape.ShapeTurns.{IsMomentIn, Playing, after_in, after_rise}
use Rattle.play_laws.proofs.Shape.ShapeTurns.{moment_in, moment_kept, next_is}
use Rattle.play_laws.proofs.Told.Tells.{Tell, Tells, interrupts_told, then_told}
use Rattle.play_laws.proofs.Told.TellsOperations.{clear_after_told, covers_told, operations_told}

module _ {S : Type 0} (jobs : Replies) (r : Rules S) (cpus timers levels end : ℕ)
    (P : (now : ℕ) → Stage → S → Type 0) (Fits : Arming → Type 0)
    (keeps : KeptByRules r cpus timers levels end Fits P) (R : S → List Line → S → Type 0)
    (tells : Tells jobs r cpus timers P R) where
  scripted_told : (now : ℕ) (o : Option Moment) (s : S) → ForSome o (IsMomentIn cpus timers)
      → P now between s → Tell R s (scripted r o s)
  scripted_told now None s known holds = tells.none s
  scripted_told now (Some m) s known holds =
      let ops = operations r m.ops s in
      let all = and_then ops (clear_after r (leaver m.ops)) in
      then_told jobs r cpus timers levels end P Fits keeps R tells s all (covers r)
      (then_told jobs r cpus timers levels end P Fits keeps R tells s ops
      (clear_after r (leaver m.ops))
      (operations_told jobs r cpus timers levels end P Fits keeps R tells now m.ops s
      (known m refl) holds)
      (clear_after_told jobs r cpus timers levels end P Fits keeps R tells now (leaver m.ops)
      ops.state (λ c is. leaver_in cpus timers m.ops c (known m refl) is)
      (operations_kept r cpus timers levels end P Fits keeps now m.ops s (known m refl) holds)))
      (covers_told jobs r cpus timers levels end P Fits keeps R tells now (r.cpus all.state) 0
      all.state)

  moment_told : (now : ℕ) (ms : List Moment) (s : S) → All (IsMomentIn cpus timers) ms
      → P now (begun (having_interrupt r s) 0) s → Tell R s (moment_now jobs r ms now s)
  moment_told now ms s known holds =
      let due = having_interrupt r s in
      let all = interrupts jobs r (r.cpus s) 0 due s in
      then_told jobs r cpus timers levels end P Fits keeps R tells s
      (and_then (counting s) (interrupts jobs r (r.cpus s) 0 due)) (scripted r (moment_at now ms))
      (interrupts_told jobs r cpus timers levels end P Fits keeps R tells now due s holds)
      (scripted_told now (moment_at now ms) all.state
      (moment_in (IsMomentIn cpus timers) now ms known)
      (interrupts_kept jobs r cpus timers levels end P Fits keeps now due s holds))

  -- the first k of these moments tell what changed up to there
  abbrev pub TellFrom : S → List (Turn S) → Type 0
  TellFrom s ts = (k : ℕ) → R s (turn_lines (take k ts)) (last_state s (take k ts))

  one_more : (s : S) (t : Turn S) (ts : List (Turn S)) → Tell R s t.played
      → TellFrom t.played.state ts → TellFrom s (t ∷ ts)
  one_more s t ts here rest zero = tells.none s
  one_more s t ts here rest (suc k) =
      tells.both s t.played.state (last_state t.played.state (take k ts)) t.played.lines
      (turn_lines (take k ts)) here (rest k)

  none_more : (s : S) → TellFrom s []
  none_more s zero = tells.none s
  none_more s (suc k) = tells.none s

  then_tell : (is_last : Bool) (rest : S → List (Turn S)) (s : S) (t : Turn S)
      → Tell R s t.played
      → (is_last ≡ false → TellFrom t.played.state (rest t.played.state))
      → TellFrom s (turn_then is_last rest t)
  then_tell true rest s t here there = one_more s t [] here (none_more t.played.state)
  then_tell false rest s t here there = one_more s t (rest t.played.state) here (there refl)

  pub turns_tell : (n now : ℕ) (ms : List Moment) (s : S)
      → Playing jobs r cpus timers levels end P Fits keeps now ms s
      → TellFrom s (turns jobs r n end now ms s)
  unfolding turns
  turns_tell zero now ms s playing = none_more s
  turns_tell (suc n) now ms s (known, up, low, holds) =
      let here = turn jobs r ms now s in
      let after = moment_kept jobs r cpus timers levels end P Fits keeps now ms (r.at_clock now s)
      known holds in
      let left = moments_after now ms in
      then_tell (now == end) (λ t. turns jobs r n end (next_moment r end left t) left t) s here
      (tells.both s (r.at_clock now s) here.played.state [] here.played.lines
      (tells.at_clock now s) (moment_told now ms (r.at_clock now s) known holds))
      (λ more.
      let apart : now ≢ end = eqb-false now end more in
      let next = next_is jobs r cpus timers levels end P Fits keeps now left here.played.state
      (after_rise now end ms up) (omega (arith, low, apart))
      (keeps.clock now here.played.state after) in
      turns_tell n (next_moment r end left here.played.state) left here.played.state (
        after_in (IsMomentIn cpus timers) now ms known,
        next.rise,
        next.by_the_end,
        keeps.comes now (next_moment r end left here.played.state) here.played.state after
            next.later next.by_the_end next.no_later,
      ))

-- which lines the moments of a play print, whatever the rules are
use Rattle.std.proofs.Common.{◌≡◌, ℕ, zero, suc, ◌+◌, List, [], Bool, true, false, Option, Some}
use Rattle.std.proofs.Common.{None}
use Rattle.std.specs.Prelude.{All, ◌==◌}
use Rattle.std.proofs.lemmas.List.Elements.{All-append, All-cons, All-nil}
use Rattle.tm_base.specs.declared.names.CpuId.{CpuId}
use Rattle.tm_base.specs.declared.names.TimerId.{TimerId}
use Rattle.tm_report.specs.declared.lines.Line.{Line}
use Rattle.tm_report.specs.declared.lines.Line.TheVariants as lines
use Rattle.tm_report.specs.declared.lines.ShownCover.{ShownCover}
use Rattle.tm_report.specs.declared.lines.ShownReply.{ShownReply}
use Rattle.tm_script.specs.declared.syntax.Moment.{Moment}
use Rattle.play_rules.specs.declared.asks.Answerer.{Answerer}
use Rattle.play_rules.specs.Parts.{and_then}
use Rattle.play_rules.specs.Rules.{Rules}
use Rattle.play_rules.specs.Interrupts.{Replies, cpu_id, having_interrupt, interrupts}
use Rattle.play_rules.specs.Operations.{clear_after, cover_lines, cover_or, leaver, operations}
use Rattle.play_rules.specs.Moments.{Turn, moment_at, moment_now, moments_after, next_moment}
use Rattle.play_rules.specs.Moments.{scripted, turn, turn_then, turns}
use Rattle.play_laws.proofs.Told.Printed.{after_prints, interrupts_print, is_of_operation}
use Rattle.play_laws.proofs.Told.Printed.{operations_print}

-- COVERS
module _ {S : Type 0} (r : Rules S) (Q : Line → Type 0)
    (told : (now : ℕ) (cpu : CpuId) (wheel : ℕ) (cover : ShownCover)
    → Q (lines.Cover now cpu wheel cover)) where
  cover_prints : (o : Option Answerer) (c : ℕ) (s : S) (others : List Line) → All Q others
      → All Q (cover_or r o c s others)
  cover_prints None c s others rest = rest
  cover_prints (Some a) c s others rest = All-cons Q _ others (told _ _ _ _) rest

  pub covers_print : (n c : ℕ) (s : S) → All Q (cover_lines r n c s)
  unfolding cover_lines
  covers_print zero c s = All-nil Q
  covers_print (suc n) c s =
      cover_prints (r.cover s c) c s (cover_lines r n (c + 1) s) (covers_print n (c + 1) s)

module _ {S : Type 0} (jobs : Replies) (r : Rules S) (Q : Line → Type 0)
    (runs : (c now : ℕ) (timer : TimerId) (home : CpuId) (wheel : ℕ) (reply : ShownReply)
    → Q (lines.Run now (cpu_id c) timer home wheel reply))
    (told : (line : Line) → is_of_operation line ≡ true → Q line)
    (covers : (now : ℕ) (cpu : CpuId) (wheel : ℕ) (cover : ShownCover)
    → Q (lines.Cover now cpu wheel cover)) where
  scripted_prints : (o : Option Moment) (s : S) → All Q (scripted r o s).lines
  scripted_prints None s = All-nil Q
  scripted_prints (Some m) s =
      let ops = operations r m.ops s in
      let all = and_then ops (clear_after r (leaver m.ops)) in
      All-append Q all.lines (cover_lines r (r.cpus all.state) 0 all.state)
      (All-append Q ops.lines (clear_after r (leaver m.ops) ops.state).lines
      (operations_print r Q told m.ops s) (after_prints r Q told (leaver m.ops) ops.state))
      (covers_print r Q covers (r.cpus all.state) 0 all.state)

  moment_prints : (ms : List Moment) (now : ℕ) (s : S)
      → All Q (moment_now jobs r ms now s).lines
  moment_prints ms now s =
      let due = having_interrupt r s in
      let all = interrupts jobs r (r.cpus s) 0 due s in
      All-append Q all.lines (scripted r (moment_at now ms) all.state).lines
      (interrupts_print jobs r Q due (λ c at timer home wheel reply is. runs c at timer home wheel
      reply) (r.cpus s) 0 s)
      (scripted_prints (moment_at now ms) all.state)

  abbrev Prints : Turn S → Type 0
  Prints t = All Q t.played.lines

  then_print : (is_last : Bool) (rest : S → List (Turn S)) (t : Turn S) → Prints t
      → ((s : S) → All Prints (rest s)) → All Prints (turn_then is_last rest t)
  then_print true rest t here there = All-cons Prints t [] here (All-nil Prints)
  then_print false rest t here there =
      All-cons Prints t (rest t.played.state) here (there t.played.state)

  pub turns_print : (n end now : ℕ) (ms : List Moment) (s : S)
      → All (λ (t : Turn S). All Q t.played.lines) (turns jobs r n end now ms s)
  unfolding turns
  turns_print zero end now ms s = All-nil Prints
  turns_print (suc n) end now ms s =
      let left = moments_after now ms in
      then_print (now == end) (λ t. turns jobs r n end (next_moment r end left t) left t)
      (turn jobs r ms now s) (moment_prints ms now (r.at_clock now s))
      (λ t. turns_print n end (next_moment r end left t) left t)

-- for crates above: who runs a timer's job was due an interrupt
use Rattle.std.proofs.Common.{◌≡◌, ℕ, zero, suc, ◌+◌, List, [], ◌∷◌, Bool, true, false, Option}
use Rattle.std.proofs.Common.{Some, None, sym, subst, take, ◌∙◌}
use Rattle.std.specs.Prelude.{◌==◌, All, filter, slice_get}
use Rattle.std.specs.List.{list_any, range_with_len}
use Rattle.std.specs.Prelude.{nat_eq}
use Rattle.std.specs.FinSet as set
use Rattle.std.specs.FinSet.{contains-from_list_nat}
use Rattle.std.proofs.lemmas.Bool.{and_parts, false≢true}
use Rattle.std.proofs.lemmas.List.Elements.{All-append, All-nil}
use Rattle.std.proofs.lemmas.Option.{none-some, same_Some}
use Rattle.tm_report.specs.declared.lines.Line.{Line}
use Rattle.tm_report.specs.declared.lines.Line.TheVariants as lines
use Rattle.tm_script.specs.declared.syntax.Moment.{Moment}
use Rattle.play_rules.specs.Parts.{and_then}
use Rattle.play_rules.specs.Interrupts.{Replies, having_interrupt, interrupts}
use Rattle.play_rules.specs.Operations.{clear_after, cover_lines, leaver, operations}
use Rattle.play_rules.specs.Moments.{Turn, last_state, moment_at, moment_now, moments_after}
use Rattle.play_rules.specs.Moments.{next_moment, scripted, turn, turn_then, turns}
use Rattle.play_rules.specs.State.{State, cpu_at, cpu_count}
use Rattle.play_rules.specs.Play.{at_clock, has_interrupt, plain_rules, play_start}
use Rattle.play_laws.specs.Told.Runners.{MayRun, RunnerMayRun, RunnersMayRun}
use Rattle.play_laws.proofs.Answered.Ranges.{member_passes, member_was, range_low}
use Rattle.play_laws.proofs.Told.Printed.{after_prints, interrupts_print, is_of_operation}
use Rattle.play_laws.proofs.Told.Printed.{operations_print}
use Rattle.play_laws.proofs.Told.PrintedTurns.{covers_print}

-- no operation runs a job
not_run : (s : State) (line : Line) → is_of_operation line ≡ true → RunnerMayRun s line
not_run s (lines.Run now runner timer home wheel reply) is = absurd (false≢true is)
not_run s (lines.Arm now cpu timer class wheel) is = tt
not_run s (lines.Cancel now cpu timer home) is = tt
not_run s (lines.NotQueued now cpu timer) is = tt
not_run s (lines.Idle now cpu until) is = tt
not_run s (lines.Stay now cpu first) is = tt
not_run s (lines.Wake now cpu) is = tt
not_run s (lines.Offline now cpu) is = tt
not_run s (lines.Handed now cpu to) is = tt
not_run s (lines.Online now cpu) is = tt
not_run s (lines.Control now cpu) is = tt
not_run s (lines.Moved now timer from to wheel) is = tt
not_run s (lines.Cover now cpu wheel cover) is = tt
not_run s (lines.Refused now cpu line number) is = tt
not_run s (lines.RefusedQueued now cpu line number holder) is = tt
not_run s (lines.Left timer cpu class wheel) is = tt
not_run s (lines.End now) is = tt
not_run s (lines.Why steps cpu timer shown) is = tt
not_run s (lines.Yes steps) is = tt
not_run s (lines.No index) is = tt
not_run s (lines.Device now until) is = tt

-- who is due an interrupt may run jobs
due_may : (s : State) (c : ℕ) → set.contains (having_interrupt plain_rules s) c ≡ true → MayRun s c
due_may s c is =
    let all = range_with_len 0 (cpu_count s) in
    let member : list_any (λ y. nat_eq y c) (filter (has_interrupt s) all) ≡ true =
    sym (contains-from_list_nat (filter (has_interrupt s) all) c) ∙ is in
    let due = member_passes (has_interrupt s) all c is in
    record {
      in_range = range_low (cpu_count s) c (member_was (has_interrupt s) all c member);
      online = (and_parts (cpu_at s c).online _ due).0;
      due = due;
    }

module _ (jobs : Replies) where
  scripted_may : (s : State) (o : Option Moment) (t : State)
      → All (RunnerMayRun s) (scripted plain_rules o t).lines
  scripted_may s None t = All-nil (RunnerMayRun s)
  scripted_may s (Some m) t =
      let Q = RunnerMayRun s in
      let ops = operations plain_rules m.ops t in
      let all = and_then ops (clear_after plain_rules (leaver m.ops)) in
      All-append Q all.lines (cover_lines plain_rules (cpu_count all.state) 0 all.state)
      (All-append Q ops.lines (clear_after plain_rules (leaver m.ops) ops.state).lines
      (operations_print plain_rules Q (not_run s) m.ops t)
      (after_prints plain_rules Q (not_run s) (leaver m.ops) ops.state))
      (covers_print plain_rules Q (λ now cpu wheel cover. tt) (cpu_count all.state) 0 all.state)

  moment_may : (ms : List Moment) (now : ℕ) (s : State)
      → All (RunnerMayRun s) (moment_now jobs plain_rules ms now s).lines
  moment_may ms now s =
      let due = having_interrupt plain_rules s in
      let all = interrupts jobs plain_rules (cpu_count s) 0 due s in
      All-append (RunnerMayRun s) all.lines
      (scripted plain_rules (moment_at now ms) all.state).lines
      (interrupts_print jobs plain_rules (RunnerMayRun s) due
      (λ c at timer home wheel reply is. due_may s c is) (cpu_count s) 0 s)
      (scripted_may s (moment_at now ms) all.state)

  -- in each of these moments, from the state before them
  abbrev MayIn : State → List (Turn State) → Type 0
  MayIn s ts = (n : ℕ) (t : Turn State) → slice_get ts n ≡ Some t
      → All (RunnerMayRun (at_clock t.at (last_state s (take n ts)))) t.played.lines

  one_may : (s : State) (here : Turn State) (ts : List (Turn State))
      → All (RunnerMayRun (at_clock here.at s)) here.played.lines
      → MayIn here.played.state ts → MayIn s (here ∷ ts)
  one_may s here ts now rest zero t is =
      subst (λ (u : Turn State). All (RunnerMayRun (at_clock u.at s)) u.played.lines)
      (same_Some here t is) now
  one_may s here ts now rest (suc n) t is = rest n t is

  none_may : (s : State) → MayIn s []
  none_may s n t is = absurd (none-some t is)

  then_may : (is_last : Bool) (rest : State → List (Turn State)) (s : State) (t : Turn State)
      → All (RunnerMayRun (at_clock t.at s)) t.played.lines
      → ((u : State) → MayIn u (rest u)) → MayIn s (turn_then is_last rest t)
  then_may true rest s t here there = one_may s t [] here (none_may t.played.state)
  then_may false rest s t here there =
      one_may s t (rest t.played.state) here (there t.played.state)

  turns_may : (n end now : ℕ) (ms : List Moment) (s : State)
      → MayIn s (turns jobs plain_rules n end now ms s)
  unfolding turns
  turns_may zero end now ms s = none_may s
  turns_may (suc n) end now ms s =
      let left = moments_after now ms in
      then_may (now == end)
      (λ t. turns jobs plain_rules n end (next_moment plain_rules end left t) left t) s
      (turn jobs plain_rules ms now s) (moment_may ms now (at_clock now s))
      (λ t. turns_may n end (next_moment plain_rules end left t) left t)

pub runners_may_run : RunnersMayRun
runners_may_run jobs script n t is =
    turns_may jobs (script.end + 1) script.end 0 script.moments (play_start script) n t is

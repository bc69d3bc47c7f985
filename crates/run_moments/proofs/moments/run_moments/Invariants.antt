use Rattle.std.proofs.Common.{◌-◌, ◌≤◌, length}
use Rattle.std.specs.Prelude.{All}
use Rattle.play_rules.specs.Parts.{Gains}
use Rattle.run_plain.specs.step_play.Rules.Seen.{InRun, resting}
use Rattle.run_plain.specs.step_play.SamePlay.{core_start}
use Rattle.play_driver.specs.Conditions.{Rise}
use Rattle.play_driver.specs.Outcomes.{work_limit}
use Rattle.run_moments.specs.Runs.{IsRunMoment}
use Rattle.run_moments.proofs.StoryTurns.{SoFar}
use Rattle.run_moments.proofs.moments.run_moments.Given as goal

abbrev pub invariant-loop-now : goal.invariant-loop-now
invariant-loop-now g l = record {
  far : SoFar (g.J.Jobs.replies l.jobs) l.script.end (work_limit l.script.version) l.script.moments (core_start l.script) l.fn.telling.text l.now l.left l.player l.telling;
  not_back : l.player.clock ≤ l.now;
  by_end : l.now ≤ l.script.end;
  rise : Rise l.now l.script.end l.left;
  in_range : All (IsRunMoment (length l.player.cpus) l.player.timers) l.left;
  fit : InRun resting l.player;
  gains : Gains l.fn.telling.text l.telling.text;
}

abbrev pub decreases-loop-now : goal.decreases-loop-now
decreases-loop-now g l = l.script.end - l.now

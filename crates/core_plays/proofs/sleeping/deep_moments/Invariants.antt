use Rattle.std.proofs.Common.{◌-◌, ◌≤◌}
use Rattle.std.specs.Prelude.{All}
use Rattle.play_rules.specs.Machines.{SameBuild}
use Rattle.play_rules.specs.Phases.{resting}
use Rattle.play_driver.specs.Conditions.{IsMomentInRange, Rise}
use Rattle.play_driver.specs.Outcomes.{script_turns}
use Rattle.core_plays.specs.Sleepers.{IsFor}
use Rattle.core_plays.proofs.DeepTold.{DeepSoFar}
use Rattle.play_rules.specs.Parts.{Gains}
use Rattle.core_plays.proofs.sleeping.deep_moments.Given as goal

abbrev pub invariant-loop-now : goal.invariant-loop-now
invariant-loop-now g l =
    let r = g.M.PlayMachine.rules in
    let jobs = g.J.Jobs.replies l.jobs in
    let start = g.M.PlayMachine.world l.fn.machine in
    let s = g.M.PlayMachine.world l.machine in
    record {
      far : DeepSoFar jobs r l.script.end l.limit (script_turns jobs r l.script start) start l.fn.device l.fn.telling.text l.now l.left s l.device l.telling;
      not_back : r.clock s ≤ l.now;
      by_end : l.now ≤ l.script.end;
      rise : Rise l.now l.script.end l.left;
      in_range : All (IsMomentInRange (r.cpus s) (r.timers s)) l.left;
      same : SameBuild r start s;
      fit : g.M.PlayMachine.Fit resting s;
      device : IsFor r s l.device;
      gains : Gains l.fn.telling.text l.telling.text;
    }

abbrev pub decreases-loop-now : goal.decreases-loop-now
decreases-loop-now g l = l.script.end - l.now

use Rattle.std.specs.Prelude.{drop}
use Rattle.play_rules.specs.Interrupts.{run_jobs}
use Rattle.play_rules.specs.Parts.{Gains}
use Rattle.play_rules.specs.Phases.{MayRunIn, StaysFit}
use Rattle.play_rules.proofs.Plays.{Continues}
use Rattle.play_driver.specs.PartLeaves.{SameInside}
use Rattle.play_driver.proofs.jobs.run_jobs.Given as goal

abbrev pub invariant-loop-item : goal.invariant-loop-item
invariant-loop-item g l =
    let r = g.M.PlayMachine.rules in
    let jobs = g.J.Jobs.replies l.jobs in
    record {
      rest : Continues (run_jobs jobs r l.home.0 l.runner.0 (drop l.item-index l.items) (g.M.PlayMachine.world l.machine)) l.telling
          (run_jobs jobs r l.home.0 l.runner.0 l.items (g.M.PlayMachine.world l.fn.machine)) l.fn.telling;
      same : SameInside r (g.M.PlayMachine.world l.fn.machine) (g.M.PlayMachine.world l.machine);
      fit : StaysFit g.M.PlayMachine.Fit (λ ph. MayRunIn ph l.runner.0) (g.M.PlayMachine.world l.fn.machine)
          (g.M.PlayMachine.world l.machine);
      gains : Gains l.fn.telling.text l.telling.text;
    }

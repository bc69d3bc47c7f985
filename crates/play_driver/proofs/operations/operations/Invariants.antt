use Rattle.std.specs.Prelude.{drop}
use Rattle.play_rules.specs.Operations.{operations}
use Rattle.play_rules.specs.Machines.{Same}
use Rattle.play_rules.specs.Parts.{Gains}
use Rattle.play_rules.specs.Phases.{resting}
use Rattle.play_rules.proofs.Plays.{Continues}
use Rattle.play_driver.proofs.operations.operations.Given as goal

abbrev pub invariant-loop-op : goal.invariant-loop-op
invariant-loop-op g l =
    let r = g.M.PlayMachine.rules in
    record {
      rest : Continues (operations r (drop l.op-index l.ops) (g.M.PlayMachine.world l.machine)) l.telling
          (operations r l.ops (g.M.PlayMachine.world l.fn.machine)) l.fn.telling;
      same : Same r (g.M.PlayMachine.world l.fn.machine) (g.M.PlayMachine.world l.machine);
      fit : g.M.PlayMachine.Fit resting (g.M.PlayMachine.world l.machine);
      gains : Gains l.fn.telling.text l.telling.text;
    }

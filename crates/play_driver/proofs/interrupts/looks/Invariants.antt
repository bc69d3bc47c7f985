use Rattle.std.proofs.Common.{◌-◌}
use Rattle.play_rules.specs.Interrupts.{looks}
use Rattle.play_rules.specs.Parts.{Gains}
use Rattle.play_rules.specs.Phases.{inside}
use Rattle.play_rules.proofs.Plays.{Continues}
use Rattle.play_driver.specs.PartLeaves.{SameInside}
use Rattle.play_driver.proofs.interrupts.looks.Given as goal

abbrev pub invariant-loop-level : goal.invariant-loop-level
invariant-loop-level g l =
    let r = g.M.PlayMachine.rules in
    let jobs = g.J.Jobs.replies l.jobs in
    let levels = r.levels (g.M.PlayMachine.world l.fn.machine) in
    record {
      rest : Continues (looks jobs r (levels - l.level) l.cpu.0 l.level (g.M.PlayMachine.world l.machine)) l.telling
          (looks jobs r levels l.cpu.0 0 (g.M.PlayMachine.world l.fn.machine)) l.fn.telling;
      same : SameInside r (g.M.PlayMachine.world l.fn.machine) (g.M.PlayMachine.world l.machine);
      fit : g.M.PlayMachine.Fit (inside l.cpu.0) (g.M.PlayMachine.world l.machine);
      gains : Gains l.fn.telling.text l.telling.text;
    }

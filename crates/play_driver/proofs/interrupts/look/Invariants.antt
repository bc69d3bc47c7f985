use Rattle.std.proofs.Common.{◌-◌}
use Rattle.std.specs.FinSet as set
use Rattle.play_rules.specs.Interrupts.{look}
use Rattle.play_rules.specs.Parts.{Gains}
use Rattle.play_rules.specs.Phases.{inside}
use Rattle.play_rules.proofs.Plays.{Continues}
use Rattle.play_driver.specs.PartLeaves.{SameInside}
use Rattle.play_driver.proofs.interrupts.look.Given as goal

abbrev pub invariant-loop-turn : goal.invariant-loop-turn
invariant-loop-turn g l =
    let r = g.M.PlayMachine.rules in
    let jobs = g.J.Jobs.replies l.jobs in
    let cpus = r.cpus (g.M.PlayMachine.world l.fn.machine) in
    record {
      rest : Continues (look jobs r (cpus - l._turn) l.cpu.0 l.level l.tried (g.M.PlayMachine.world l.machine)) l.telling
          (look jobs r cpus l.cpu.0 l.level set.empty (g.M.PlayMachine.world l.fn.machine)) l.fn.telling;
      same : SameInside r (g.M.PlayMachine.world l.fn.machine) (g.M.PlayMachine.world l.machine);
      fit : g.M.PlayMachine.Fit (inside l.cpu.0) (g.M.PlayMachine.world l.machine);
      gains : Gains l.fn.telling.text l.telling.text;
    }

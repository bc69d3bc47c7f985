use Rattle.std.proofs.Common.{◌-◌}
use Rattle.play_rules.specs.Interrupts.{interrupts}
use Rattle.play_rules.specs.Machines.{Same, SameOnline}
use Rattle.play_rules.specs.Parts.{Gains}
use Rattle.play_rules.specs.Phases.{resting}
use Rattle.play_rules.proofs.Plays.{Continues}
use Rattle.play_driver.proofs.interrupts.interrupts.Given as goal

abbrev pub invariant-loop-cpu : goal.invariant-loop-cpu
invariant-loop-cpu g l =
    let r = g.M.PlayMachine.rules in
    let jobs = g.J.Jobs.replies l.jobs in
    let cpus = r.cpus (g.M.PlayMachine.world l.fn.machine) in
    record {
      rest : Continues (interrupts jobs r (cpus - l.cpu) l.cpu l.due (g.M.PlayMachine.world l.machine)) l.telling
          (interrupts jobs r cpus 0 l.due (g.M.PlayMachine.world l.fn.machine)) l.fn.telling;
      same : Same r (g.M.PlayMachine.world l.fn.machine) (g.M.PlayMachine.world l.machine);
      online : SameOnline r (g.M.PlayMachine.world l.fn.machine) (g.M.PlayMachine.world l.machine);
      fit : g.M.PlayMachine.Fit resting (g.M.PlayMachine.world l.machine);
      gains : Gains l.fn.telling.text l.telling.text;
    }

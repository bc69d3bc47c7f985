use Rattle.std.proofs.Common.{◌≡◌, ◌-◌, length}
use Rattle.play_rules.specs.Interrupts.{interrupts}
use Rattle.play_rules.specs.Phases.{resting}
use Rattle.play_driver.specs.PartLeaves.{SameInside}
use Rattle.run_plain.specs.Apart.{GoesOnApart}
use Rattle.run_plain.proofs.moments.interrupts_apart.Given as goal

abbrev pub invariant-loop-cpu : goal.invariant-loop-cpu
invariant-loop-cpu g l =
    let r = g.M.PlayMachine.rules in
    let jobs = g.J.Jobs.replies l.jobs in
    let first = g.M.PlayMachine.world l.fn.machine in
    let now = g.M.PlayMachine.world l.machine in
    let cpus = r.cpus first in
    record {
      rest : GoesOnApart cpus (interrupts jobs r (cpus - l.cpu) l.cpu l.due now) l.own.items
          (interrupts jobs r cpus 0 l.due first) l.fn.own.items;
      count : length l.own.items ≡ length l.fn.own.items;
      same : SameInside r first now;
      fit : g.M.PlayMachine.Fit resting now;
    }

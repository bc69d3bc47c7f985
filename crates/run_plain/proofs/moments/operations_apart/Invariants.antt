use Rattle.std.proofs.Common.{◌≡◌, length}
use Rattle.std.specs.Prelude.{drop}
use Rattle.play_rules.specs.Machines.{Same}
use Rattle.play_rules.specs.Operations.{operations}
use Rattle.play_rules.specs.Phases.{resting}
use Rattle.run_plain.specs.Apart.{GoesOnApart}
use Rattle.run_plain.proofs.moments.operations_apart.Given as goal

abbrev pub invariant-loop-op : goal.invariant-loop-op
invariant-loop-op g l =
    let r = g.M.PlayMachine.rules in
    let first = g.M.PlayMachine.world l.fn.machine in
    let now = g.M.PlayMachine.world l.machine in
    record {
      rest : GoesOnApart (r.cpus first) (operations r (drop l.op-index l.ops) now) l.own.items
          (operations r l.ops first) l.fn.own.items;
      count : length l.own.items ≡ length l.fn.own.items;
      same : Same r first now;
      fit : g.M.PlayMachine.Fit resting now;
    }

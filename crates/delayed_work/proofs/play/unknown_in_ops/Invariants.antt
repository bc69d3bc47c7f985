use Rattle.std.proofs.Common.{◌≡◌}
use Rattle.std.specs.Prelude.{drop}
use Rattle.delayed_work.specs.Play.{unknown_in_work_ops}
use Rattle.delayed_work.proofs.play.unknown_in_ops.Given as goal

abbrev pub invariant-loop-op : goal.invariant-loop-op
invariant-loop-op l = unknown_in_work_ops l.table (drop l.op-index l.ops) ≡ unknown_in_work_ops l.table l.ops

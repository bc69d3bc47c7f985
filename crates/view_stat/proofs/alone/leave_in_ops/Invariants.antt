use Rattle.std.proofs.Common.{◌≡◌, drop}
use Rattle.view_stat.specs.Alone.{leave_in_ops}
use Rattle.view_stat.proofs.alone.leave_in_ops.Given as goal

abbrev pub invariant-loop-op : goal.invariant-loop-op
invariant-loop-op l = leave_in_ops (drop l.op-index l.fn.ops) ≡ leave_in_ops l.fn.ops

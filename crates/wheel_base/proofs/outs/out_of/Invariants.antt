use Rattle.std.proofs.Common.{◌≡◌, ◌<◌, ◌+◌}
use Rattle.wheel_base.specs.Files.{Entry}
use Rattle.wheel_base.specs.Marks.{Among}
use Rattle.wheel_base.proofs.outs.out_of.Given as goal

abbrev pub invariant-loop-down : goal.invariant-loop-down
invariant-loop-down l = (e : Entry) → Among e l.store.filed → e.1.wheel ≡ l.wheel → e.1.level + l.down < l.top + 1

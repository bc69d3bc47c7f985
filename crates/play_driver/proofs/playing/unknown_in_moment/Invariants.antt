use Rattle.std.proofs.Common.{◌≡◌}
use Rattle.std.specs.Prelude.{drop}
use Rattle.play_rules.specs.Jobs.{unknown_in_ops}
use Rattle.play_driver.proofs.playing.unknown_in_moment.Given as goal

abbrev pub invariant-loop-op : goal.invariant-loop-op
invariant-loop-op g l = unknown_in_ops (g.J.Jobs.count l.jobs) (drop l.op-index l.moment.ops) ≡ unknown_in_ops (g.J.Jobs.count l.jobs) l.moment.ops

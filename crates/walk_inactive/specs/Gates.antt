-- where a walk that tells passes a gate (no public clause cites these)
use Rattle.std.specs.Prelude.{ℕ, zero, suc, Option, Some, None}
use Rattle.tm_base.specs.declared.gates.Point.{Point}
use Rattle.tm_base.specs.declared.gates.Point.TheVariants as points
use Rattle.walk_rules.specs.declared.walk.Stage.{Stage}
use Rattle.walk_rules.specs.declared.walk.Stage.TheVariants as stages

-- the first lock that is taken at a level
abbrev pub lock_point : (level : ℕ) → Option Point
lock_point zero = Some points.BeforeLock
lock_point (suc l) = None

-- GATES: the place that a walk at this stage of a level comes to, if it is one
abbrev pub walk_point_at : (level : ℕ) → Stage → Option Point
walk_point_at level stages.Child = Some points.BeforeChildRead
walk_point_at level stages.Swap = Some points.BeforeSwap
walk_point_at level stages.LockChild = Some points.BeforeLock
walk_point_at level stages.LockGroup = lock_point level
walk_point_at level stages.Store = Some points.BeforeStore
walk_point_at level other = None

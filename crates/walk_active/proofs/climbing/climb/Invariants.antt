use Rattle.std.proofs.Common.{◌≡◌}
use Rattle.shared_cpus.specs.shared_rule.Whole.{no_looks}
use Rattle.walk_active.specs.Climbing.{Climbs, arrived, steps_left}
use Rattle.walk_active.proofs.climbing.climb.Given as goal

abbrev pub invariant-loop-walk : goal.invariant-loop-walk
invariant-loop-walk g l = record {
  climbs : Climbs l.part.box.own.walk;
  looked : l.part.box.looked ≡ no_looks;
  same : arrived l.part ≡ arrived l.fn.part;
}

abbrev pub decreases-loop-walk : goal.decreases-loop-walk
decreases-loop-walk g l = steps_left l.part.box.own.walk

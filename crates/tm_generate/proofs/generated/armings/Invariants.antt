use Rattle.std.proofs.Common.{◌≡◌, ◌*◌, map}
use Rattle.std.specs.List.{range_with_len}
use Rattle.tm_generate.specs.Generated.{x_after, arming}
use Rattle.tm_generate.proofs.generated.armings.Given as goal

abbrev pub invariant-loop-i : goal.invariant-loop-i
invariant-loop-i l = record { ops : l.ops ≡ map (arming l.number l.cpus) (range_with_len 0 l.i); x : l.draws.x ≡ x_after l.number (3 * l.i) }

use Rattle.std.proofs.Common.{◌≡◌, ◌+◌, ◌*◌, ◌++◌, map}
use Rattle.std.specs.List.{range_with_len}
use Rattle.tm_generate.specs.Generated.{x_after, later_moment}
use Rattle.tm_generate.proofs.generated.add_later.Given as goal

abbrev pub invariant-loop-j : goal.invariant-loop-j
invariant-loop-j l = record {
  list : l.list ≡ l.fn.list ++ map (later_moment l.number l.cpus l.timers) (range_with_len 1 l.j);
  x : l.draws.x ≡ x_after l.number (3 * l.timers + 3 * l.j);
}

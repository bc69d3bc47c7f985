use Rattle.std.proofs.Common.{◌≡◌}
use Rattle.std.specs.Prelude.{replicate}
use Rattle.core_world.specs.Start.{start_cpu}
use Rattle.plain_world.proofs.start.new_cpus.Given as goal

abbrev pub invariant-loop-cpu : goal.invariant-loop-cpu
invariant-loop-cpu l = l.cpus.items ≡ replicate l._cpu start_cpu

use Rattle.std.proofs.Common.{◌≡◌, ◌-◌, map}
use Rattle.std.specs.List.{range_with_len}
use Rattle.tm_generate.specs.Generated.{idling}
use Rattle.tm_generate.proofs.generated.idlings.Given as goal

abbrev pub invariant-loop-cpu : goal.invariant-loop-cpu
invariant-loop-cpu l = l.ops ≡ map (idling l.timers) (range_with_len 1 (l.cpu - 1))

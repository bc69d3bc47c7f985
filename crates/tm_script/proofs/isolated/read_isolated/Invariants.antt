use Rattle.std.proofs.Common.{◌≡◌}
use Rattle.std.specs.Option.{option_copied}
use Rattle.tm_script.specs.Reading.{words_behind, no_numbers, isolated_from}
use Rattle.tm_script.proofs.Steps.{bytes_left}
use Rattle.tm_script.proofs.isolated.read_isolated.Given as goal

abbrev pub invariant-loop-rest : goal.invariant-loop-rest
invariant-loop-rest l =
    isolated_from l.count l.named (words_behind (option_copied l.rest)) ≡ isolated_from l.count no_numbers (words_behind (option_copied l.fn.words))

abbrev pub decreases-loop-rest : goal.decreases-loop-rest
decreases-loop-rest l = bytes_left (option_copied l.rest)

use Rattle.std.proofs.Common.{◌+◌, arith, sym}
use Rattle.std.specs.Option.{option_copied}
use Rattle.work_script.specs.Steps.{work_words_behind}
use Rattle.work_script.proofs.NumberLaws.{one_number}
use Rattle.work_script.proofs.lines.read_count.Goals as goal

pub overflow_cast-result : goal.overflow_cast-result
overflow_cast-result c =
    let h = one_number (record { least = 1; bound = c.from.result + 1 }) (work_words_behind (option_copied c.first_word.result.1)) c.in_ok-numbers.numbers (sym c.in_ok-numbers.ensures.value) in
    omega (arith, h.2, c.get.ensures, c.from.ensures)

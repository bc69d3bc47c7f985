use Rattle.std.proofs.Common.{sym}
use Rattle.std.specs.Option.{option_copied}
use Rattle.work_script.specs.Reading.{slots_of}
use Rattle.work_script.specs.Steps.{work_words_behind}
use Rattle.work_script.proofs.NumberLaws.{numbers_found}
use Rattle.work_script.proofs.lines.read_behind.Goals as goal

pub said_by-requires : goal.said_by-requires
said_by-requires c =
    (numbers_found (slots_of c.args.known.now.count c.args.command) (work_words_behind (option_copied c.args.words)) c.in_ok-numbers.numbers
    (sym c.in_ok-numbers.ensures)).1

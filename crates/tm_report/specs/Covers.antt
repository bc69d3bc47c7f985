-- the words of what answers for an idle CPU's first global timer
use Rattle.std.specs.Prelude.{ℕ, List, ◌++◌, codes}
use Rattle.tm_report.specs.Words.{number_word, time_word, group_text}
use Rattle.tm_report.specs.declared.lines.ShownCover.{ShownCover}
use Rattle.tm_report.specs.declared.lines.ShownCover.TheVariants.{Migrator, Wake}

-- the words of a cover, each with the space before it: `migrator LEVEL:PLACE M`, or `wake X U`
abbrev pub cover_words : ShownCover → List ℕ
cover_words (Migrator level place cpu) =
    codes " migrator " ++ group_text level place ++ number_word cpu.0
cover_words (Wake cpu at) = codes " wake" ++ number_word cpu.0 ++ time_word at

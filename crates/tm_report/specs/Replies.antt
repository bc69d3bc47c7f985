-- the words of what a timer's job answered
use Rattle.std.specs.Prelude.{ℕ, List, ◌++◌, codes}
use Rattle.tm_report.specs.Words.{number_word, class_word, time_word}
use Rattle.tm_report.specs.declared.lines.ShownReply.{ShownReply}
use Rattle.tm_report.specs.declared.lines.ShownReply.TheVariants.{Done, Mark, Again, Skip}

-- the words of a job's reply, each with the space before it: `done`, `mark N`, `again CLASS W`,
-- `skip D`
abbrev pub reply_words : ShownReply → List ℕ
reply_words Done = codes " done"
reply_words (Mark number) = codes " mark" ++ number_word number
reply_words (Again class wheel) = codes " again" ++ class_word class ++ time_word wheel
reply_words (Skip cpu) = codes " skip" ++ number_word cpu.0

-- the words of who answers for a timer in the middle of a list of steps
use Rattle.std.specs.Prelude.{ℕ, List, ◌++◌, codes}
use Rattle.tm_report.specs.Words.{number_word, time_word, group_text}
use Rattle.tm_report.specs.declared.lines.ShownReason.{ShownReason}
use Rattle.tm_report.specs.declared.lines.ShownReason.TheVariants.{Held, Woken, Carried, Nothing}

-- the words by which a line shows who answers
abbrev pub reason_words : ShownReason → List ℕ
reason_words (Held level place cpu) =
    codes " held " ++ group_text level place ++ number_word cpu.0
reason_words (Woken cpu at) = codes " woken" ++ number_word cpu.0 ++ time_word at
reason_words (Carried number) = codes " carried" ++ number_word number
reason_words Nothing = codes " none"

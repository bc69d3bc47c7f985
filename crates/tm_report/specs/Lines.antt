-- the texts of lines and of reports
use Rattle.std.specs.Prelude.{ℕ, List, ◌++◌, codes}
use Rattle.std.specs.List.{flat_map}
use Rattle.tm_report.specs.Words.{number_word, class_word, time_word}
use Rattle.tm_report.specs.Replies.{reply_words}
use Rattle.tm_report.specs.Covers.{cover_words}
use Rattle.tm_report.specs.Reasons.{reason_words}
use Rattle.tm_report.specs.declared.lines.Line.{Line}
use Rattle.tm_report.specs.declared.lines.Line.TheVariants.{Arm, Run, Cancel, NotQueued}
use Rattle.tm_report.specs.declared.lines.Line.TheVariants.{Idle, Stay, Wake, Cover}
use Rattle.tm_report.specs.declared.lines.Line.TheVariants.{Offline, Handed, Online}
use Rattle.tm_report.specs.declared.lines.Line.TheVariants.{Control, Moved}
use Rattle.tm_report.specs.declared.lines.Line.TheVariants.{Refused, RefusedQueued, Left, End}
use Rattle.tm_report.specs.declared.lines.Line.TheVariants.{Why, Yes, No, Device}

-- the words of a line, parted by spaces
unfoldable pub words_text : Line → List ℕ
words_text (Arm now cpu timer class wheel) =
    codes "arm" ++ number_word now ++ number_word cpu.0 ++ number_word timer.0 ++ class_word class
    ++ time_word wheel
words_text (Run now runner timer home wheel reply) =
    codes "run" ++ number_word now ++ number_word runner.0 ++ number_word timer.0
    ++ number_word home.0 ++ time_word wheel ++ reply_words reply
words_text (Cancel now cpu timer home) =
    codes "cancel" ++ number_word now ++ number_word cpu.0 ++ number_word timer.0
    ++ number_word home.0
words_text (NotQueued now cpu timer) =
    codes "none" ++ number_word now ++ number_word cpu.0 ++ number_word timer.0
words_text (Idle now cpu until) =
    codes "idle" ++ number_word now ++ number_word cpu.0 ++ time_word until
words_text (Stay now cpu first) =
    codes "stay" ++ number_word now ++ number_word cpu.0 ++ time_word first
words_text (Wake now cpu) = codes "wake" ++ number_word now ++ number_word cpu.0
words_text (Offline now cpu) = codes "offline" ++ number_word now ++ number_word cpu.0
words_text (Handed now cpu to) =
    codes "handed" ++ number_word now ++ number_word cpu.0 ++ number_word to.0
words_text (Online now cpu) = codes "online" ++ number_word now ++ number_word cpu.0
words_text (Control now cpu) = codes "control" ++ number_word now ++ number_word cpu.0
words_text (Moved now timer from to wheel) =
    codes "moved" ++ number_word now ++ number_word timer.0 ++ number_word from.0
    ++ number_word to.0 ++ time_word wheel
words_text (Cover now cpu wheel cover) =
    codes "cover" ++ number_word now ++ number_word cpu.0 ++ time_word wheel ++ cover_words cover
words_text (Refused now cpu line number) =
    codes "refused" ++ number_word now ++ number_word cpu.0 ++ number_word line
    ++ number_word number
words_text (RefusedQueued now cpu line number holder) =
    codes "refused" ++ number_word now ++ number_word cpu.0 ++ number_word line
    ++ number_word number ++ number_word holder.0
words_text (Left timer cpu class wheel) =
    codes "left" ++ number_word timer.0 ++ number_word cpu.0 ++ class_word class ++ time_word wheel
words_text (End now) = codes "end" ++ number_word now
words_text (Why steps cpu timer shown) =
    codes "why" ++ number_word steps ++ number_word cpu.0 ++ number_word timer.0
    ++ reason_words shown
words_text (Yes steps) = codes "yes" ++ number_word steps
words_text (No index) = codes "no" ++ number_word index
words_text (Device now until) = codes "device" ++ number_word now ++ time_word until

-- each line ends with a line feed
unfoldable pub line_text : Line → List ℕ
line_text line = words_text line ++ codes "\n"

-- the texts of the lines, one after the other
abbrev pub report_text : List Line → List ℕ
report_text lines = flat_map line_text lines

-- the one line whose text some words can be, right or not: a word that is missing is empty, a
-- number that is too large is the largest; no public clause speaks of this
use Rattle.std.specs.Prelude.{ℕ, zero, suc, ◌+◌, ◌-◌, ◌*◌, ◌^◌, List, [], ◌∷◌, codes, Option, Some}
use Rattle.std.specs.Prelude.{None, if◌then◌else◌, min, Bool, true, false}
use Rattle.std.specs.Str.{bytes_eq}
use Rattle.text_words.specs.Words.{split, words_of}
use Rattle.tm_base.specs.declared.names.CpuId.{CpuId}
use Rattle.tm_base.specs.declared.names.TimerId.{TimerId}
use Rattle.tm_base.specs.declared.names.Class.{Class}
use Rattle.tm_base.specs.declared.names.Class.TheVariants.{Pinned, Global, Deferrable}
use Rattle.tm_base.specs.declared.names.TheConstants.{NEVER}
use Rattle.tm_report.specs.declared.lines.Line.{Line}
use Rattle.tm_report.specs.declared.lines.Line.TheVariants as line
use Rattle.tm_report.specs.declared.lines.ShownReply.{ShownReply}
use Rattle.tm_report.specs.declared.lines.ShownReply.TheVariants as reply
use Rattle.tm_report.specs.declared.lines.ShownCover.{ShownCover}
use Rattle.tm_report.specs.declared.lines.ShownCover.TheVariants as cover
use Rattle.tm_report.specs.declared.lines.ShownReason.{ShownReason}
use Rattle.tm_report.specs.declared.lines.ShownReason.TheVariants as reason
use Rattle.report_reader.specs.Names.{head_word}
use Rattle.report_reader.specs.declared.names.Name.{Name}
use Rattle.report_reader.specs.declared.names.Name.TheVariants.{Arm, Run, Cancel, NotQueued, Idle}
use Rattle.report_reader.specs.declared.names.Name.TheVariants.{Stay, Wake, Offline, Handed}
use Rattle.report_reader.specs.declared.names.Name.TheVariants.{Online, Control, Moved, Cover}
use Rattle.report_reader.specs.declared.names.Name.TheVariants.{Refused, Left, End, Why, Yes, No}
use Rattle.report_reader.specs.declared.names.Name.TheVariants.{Device}

-- ---- words

-- the words behind a first one, which may be none
abbrev pub words_left : Option (List ℕ) → List (List ℕ)
words_left None = []
words_left (Some bytes) = words_of bytes

-- the words behind the first
abbrev pub later_of : List (List ℕ) → List (List ℕ)
later_of [] = []
later_of (w ∷ ws) = ws

-- whether no word is left
abbrev pub is_over : List (List ℕ) → Bool
is_over [] = true
is_over (w ∷ ws) = false

-- the words from number i on
abbrev pub words_from : List (List ℕ) → ℕ → List (List ℕ)
words_from ws zero = ws
words_from ws (suc i) = words_from (later_of ws) i

-- word number i
abbrev pub word_at : List (List ℕ) → ℕ → List ℕ
word_at ws i = head_word (words_from ws i)

-- ---- what a word spells

-- a number with one more digit
abbrev pub with_read_digit : ℕ → ℕ → ℕ
with_read_digit n c = min (min (n * 10) (2 ^ 64 - 1) + (c - 48)) (2 ^ 64 - 1)

-- the number of the digits of n and further ones
abbrev pub number_from : ℕ → List ℕ → ℕ
number_from n [] = n
number_from n (c ∷ cs) = number_from (with_read_digit n c) cs

-- the number that a word spells
unfoldable pub number_read : List ℕ → ℕ
number_read word = number_from 0 word

-- a number of 32 bits
unfoldable pub count_read : List ℕ → ℕ
count_read word = min (number_read word) (2 ^ 32 - 1)

-- a number of 16 bits
unfoldable pub short_of : List ℕ → ℕ
short_of word = min (number_read word) (2 ^ 16 - 1)

-- a number of 8 bits
unfoldable pub byte_of : List ℕ → ℕ
byte_of word = min (number_read word) (2 ^ 8 - 1)

-- a CPU
abbrev pub cpu_read : List ℕ → CpuId
cpu_read word = record { 0 = short_of word }

-- a timer
abbrev pub timer_read : List ℕ → TimerId
timer_read word = record { 0 = short_of word }

-- a wakeup or an expiry
unfoldable pub jiffy_read : List ℕ → ℕ
jiffy_read word = if bytes_eq word (codes "never") then NEVER else number_read word

-- a class
unfoldable pub class_read : List ℕ → Class
class_read word =
    if bytes_eq word (codes "pinned") then Pinned
    else if bytes_eq word (codes "global") then Global
    else Deferrable

-- the level of a group
unfoldable pub level_for : List ℕ → ℕ
level_for word = byte_of (head_word (split 58 word))

-- the place of a group at its level
unfoldable pub place_for : List ℕ → ℕ
place_for word = short_of (head_word (later_of (split 58 word)))

-- ---- what several words spell

-- what a job answered
unfoldable pub reply_of : List (List ℕ) → ShownReply
reply_of ws =
    if bytes_eq (word_at ws 0) (codes "done") then reply.Done
    else if bytes_eq (word_at ws 0) (codes "mark") then reply.Mark (count_read (word_at ws 1))
    else if bytes_eq (word_at ws 0) (codes "again")
    then reply.Again (class_read (word_at ws 1)) (jiffy_read (word_at ws 2))
    else reply.Skip (cpu_read (word_at ws 1))

-- what answers for an idle CPU
unfoldable pub cover_read : List (List ℕ) → ShownCover
cover_read ws =
    if bytes_eq (word_at ws 0) (codes "migrator")
    then cover.Migrator (level_for (word_at ws 1)) (place_for (word_at ws 1))
    (cpu_read (word_at ws 2))
    else cover.Wake (cpu_read (word_at ws 1)) (jiffy_read (word_at ws 2))

-- who answers in the middle of a list of steps
unfoldable pub reason_of : List (List ℕ) → ShownReason
reason_of ws =
    if bytes_eq (word_at ws 0) (codes "held")
    then reason.Held (level_for (word_at ws 1)) (place_for (word_at ws 1)) (cpu_read (word_at ws 2))
    else if bytes_eq (word_at ws 0) (codes "woken")
    then reason.Woken (cpu_read (word_at ws 1)) (jiffy_read (word_at ws 2))
    else if bytes_eq (word_at ws 0) (codes "carried")
    then reason.Carried (byte_of (word_at ws 1))
    else reason.Nothing

-- a refusal, with the CPU that holds the timer where a word more stands there
unfoldable pub refusal_of : List (List ℕ) → Line
refusal_of ws =
    if is_over (words_from ws 4)
    then line.Refused (number_read (word_at ws 0)) (cpu_read (word_at ws 1))
    (count_read (word_at ws 2))
    (byte_of (word_at ws 3))
    else line.RefusedQueued (number_read (word_at ws 0)) (cpu_read (word_at ws 1))
    (count_read (word_at ws 2)) (byte_of (word_at ws 3)) (cpu_read (word_at ws 4))

-- the line of this name, by the words behind it
unfoldable pub line_for : Name → List (List ℕ) → Line
line_for Arm ws =
    line.Arm (number_read (word_at ws 0)) (cpu_read (word_at ws 1)) (timer_read (word_at ws 2))
    (class_read (word_at ws 3)) (jiffy_read (word_at ws 4))
line_for Run ws =
    line.Run (number_read (word_at ws 0)) (cpu_read (word_at ws 1)) (timer_read (word_at ws 2))
    (cpu_read (word_at ws 3)) (jiffy_read (word_at ws 4)) (reply_of (words_from ws 5))
line_for Cancel ws =
    line.Cancel (number_read (word_at ws 0)) (cpu_read (word_at ws 1)) (timer_read (word_at ws 2))
    (cpu_read (word_at ws 3))
line_for NotQueued ws =
    line.NotQueued (number_read (word_at ws 0)) (cpu_read (word_at ws 1))
    (timer_read (word_at ws 2))
line_for Idle ws =
    line.Idle (number_read (word_at ws 0)) (cpu_read (word_at ws 1)) (jiffy_read (word_at ws 2))
line_for Stay ws =
    line.Stay (number_read (word_at ws 0)) (cpu_read (word_at ws 1)) (jiffy_read (word_at ws 2))
line_for Wake ws = line.Wake (number_read (word_at ws 0)) (cpu_read (word_at ws 1))
line_for Offline ws = line.Offline (number_read (word_at ws 0)) (cpu_read (word_at ws 1))
line_for Handed ws =
    line.Handed (number_read (word_at ws 0)) (cpu_read (word_at ws 1)) (cpu_read (word_at ws 2))
line_for Online ws = line.Online (number_read (word_at ws 0)) (cpu_read (word_at ws 1))
line_for Control ws = line.Control (number_read (word_at ws 0)) (cpu_read (word_at ws 1))
line_for Moved ws =
    line.Moved (number_read (word_at ws 0)) (timer_read (word_at ws 1)) (cpu_read (word_at ws 2))
    (cpu_read (word_at ws 3)) (jiffy_read (word_at ws 4))
line_for Cover ws =
    line.Cover (number_read (word_at ws 0)) (cpu_read (word_at ws 1)) (jiffy_read (word_at ws 2))
    (cover_read (words_from ws 3))
line_for Refused ws = refusal_of ws
line_for Left ws =
    line.Left (timer_read (word_at ws 0)) (cpu_read (word_at ws 1)) (class_read (word_at ws 2))
    (jiffy_read (word_at ws 3))
line_for End ws = line.End (number_read (word_at ws 0))
line_for Why ws =
    line.Why (count_read (word_at ws 0)) (cpu_read (word_at ws 1)) (timer_read (word_at ws 2))
    (reason_of (words_from ws 3))
line_for Yes ws = line.Yes (count_read (word_at ws 0))
line_for No ws = line.No (count_read (word_at ws 0))
line_for Device ws = line.Device (number_read (word_at ws 0)) (jiffy_read (word_at ws 1))

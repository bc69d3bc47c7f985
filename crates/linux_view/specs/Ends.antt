-- how the program ends
use Rattle.std.specs.Prelude.{◌≡◌, ℕ, ◌+◌, List, [], ◌∷◌, Bool, false, codes}
use Rattle.std.specs.Prelude.{String, string_bytes, bytes_eq}
use Rattle.std.specs.declared.alloc.Global.{Global}
use Rattle.std.specs.Io.KnownBytes.{Appends}
use Rattle.text_words.specs.Words.{lines_of}
use Rattle.tm_io.specs.Seen.{SinkSeen, SourceSeen, SourceFailed}
use Rattle.tm_io.specs.Sources.{TakesAll, TakesCount}
use Rattle.linux_all.specs.linux_rules.declared.judge.Verdict.{Verdict}
use Rattle.linux_all.specs.linux_rules.declared.judge.Verdict.TheVariants.{Fits, Broken, NoTrace}
use Rattle.linux_all.specs.linux_rules.Judge.{said_of}
use Rattle.linux_view.specs.declared.commands.Reply.{Reply}
use Rattle.linux_view.specs.declared.commands.Reply.TheVariants.{Usage, BrokenSource, LongSource}
use Rattle.linux_view.specs.declared.commands.Reply.TheVariants.{Judged}
use Rattle.linux_view.specs.declared.statuses.TheConstants.{MISFIT, MOST_TRACE_BYTES}
use Rattle.linux_view.specs.declared.statuses.TheConstants.{NO_MEMORY, NO_TRACE, READ_FAULT}
use Rattle.linux_view.specs.declared.statuses.TheConstants.{TOO_LONG, USAGE, WRITE_FAULT}
use Rattle.linux_view.specs.Texts.{fits_status, read_fault_line, too_long_line, usage_line, verdict_text}

-- the one word `linux`
abbrev pub is_linux : List (String Global) → Bool
is_linux [] = false
is_linux (word ∷ []) = bytes_eq (string_bytes word) (codes "linux")
is_linux (word ∷ other ∷ more) = false

-- the text of a reply
unfoldable pub reply_text : Reply → List ℕ
reply_text Usage = usage_line
reply_text BrokenSource = read_fault_line
reply_text LongSource = too_long_line
reply_text (Judged verdict) = verdict_text verdict

-- the status of a verdict
abbrev pub status_of_verdict : Verdict → ℕ
status_of_verdict (Fits tally ends) = fits_status tally
status_of_verdict (Broken misfit) = MISFIT
status_of_verdict (NoTrace line fault) = NO_TRACE

-- the status of a reply that was written whole
unfoldable pub status_of : Reply → ℕ
status_of Usage = USAGE
status_of BrokenSource = READ_FAULT
status_of LongSource = TOO_LONG
status_of (Judged verdict) = status_of_verdict verdict

-- the reply to these words, where the source went from old to new
abbrev pub IsReply : Reply → List (String Global) → SourceSeen → SourceSeen → Type 0
IsReply Usage words old new = is_linux words ≡ false
IsReply BrokenSource words old new = SourceFailed old new
IsReply LongSource words old new = TakesCount old new (MOST_TRACE_BYTES + 1)
IsReply (Judged verdict) words old new =
    (bytes : List ℕ) × TakesAll old new MOST_TRACE_BYTES bytes
    × (verdict ≡ said_of (lines_of bytes))

-- all of the text was written, with this status; or writing stopped before its end
pub data IsEnd (text : List ℕ) (whole : ℕ) (old new : SinkSeen) (status : ℕ) : Type 0 where
  written : Appends old.held new.held text → status ≡ whole → IsEnd text whole old new status
  stopped : status ≡ WRITE_FAULT → IsEnd text whole old new status
  wanting : status ≡ NO_MEMORY → IsEnd text whole old new status

-- the program ends by some reply to its words, or for want of memory
pub data Reads (words : List (String Global)) (from to : SourceSeen) (old new : SinkSeen)
    (status : ℕ) : Type 0 where
  replied : (reply : Reply) → IsReply reply words from to
      → IsEnd (reply_text reply) (status_of reply) old new status
      → Reads words from to old new status
  unread : status ≡ NO_MEMORY → Reads words from to old new status

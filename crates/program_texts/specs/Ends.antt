-- how writing a text ends
use Rattle.std.specs.Prelude.{◌≡◌, ◌⊎◌, ℕ, List}
use Rattle.std.specs.Io.KnownBytes.{Appends}
use Rattle.tm_io.specs.Seen.{SinkSeen, SinkFailed, SinkUnbroken, SinkRefused, SinkTook}
use Rattle.tm_io.specs.Sinks.{AppendsFront}
use Rattle.program_texts.specs.declared.replies.Reply.{Reply}
use Rattle.program_texts.specs.declared.statuses.TheConstants.{NO_MEMORY}
use Rattle.program_texts.specs.Replies.{program_reply_text}
use Rattle.program_texts.specs.Statuses.{status_broken, status_written}

-- the sink failed, or took nothing of a piece: one of its two counts rose
abbrev pub SinkBreaks : SinkSeen → SinkSeen → Type 0
SinkBreaks old new = SinkFailed old new ⊎ SinkRefused old new

-- both of the sink's counts are as they were
abbrev pub SinkSound : SinkSeen → SinkSeen → Type 0
SinkSound old new = SinkUnbroken old new × SinkTook old new

-- the sink has gained all of a text, and neither failed nor took nothing
pub record WritesAll (text : List ℕ) (old new : SinkSeen) : Type 0 where
  pub written : Appends old.held new.held text
  pub sound : SinkSound old new

-- the sink broke, and has gained a front of a text and not all of it
pub record WritesFront (text : List ℕ) (old new : SinkSeen) : Type 0 where
  pub broke : SinkBreaks old new
  pub count : ℕ
  pub front : AppendsFront old new count text

-- the sink has gained the text, or where it broke a front of it
abbrev pub Writes : List ℕ → SinkSeen → SinkSeen → Type 0
Writes text old new = WritesAll text old new ⊎ WritesFront text old new

-- memory was wanting for the text itself, and nothing was put
abbrev pub EndsUnwritten : SinkSeen → SinkSeen → (status : ℕ) → Type 0
EndsUnwritten old new status = (new ≡ old) × (status ≡ NO_MEMORY)

-- all of a text was written, with one status; or the sink broke before, with another; or memory was
-- wanting, for the sink or for the text itself
pub data EndsWith (text : List ℕ) (all broken : ℕ) (old new : SinkSeen) (status : ℕ)
    : Type 0 where
  whole : WritesAll text old new → status ≡ all → EndsWith text all broken old new status
  part : WritesFront text old new → status ≡ broken → EndsWith text all broken old new status
  wanting : (count : ℕ) → AppendsFront old new count text → SinkSound old new
      → status ≡ NO_MEMORY → EndsWith text all broken old new status
  unwritten : EndsUnwritten old new status → EndsWith text all broken old new status

-- how writing a reply ended: all of it was taken, or the sink broke, with the status of each
abbrev pub EndsAs : Reply → SinkSeen → SinkSeen → (status : ℕ) → Type 0
EndsAs reply old new status =
    EndsWith (program_reply_text reply) (status_written reply) (status_broken reply) old new status

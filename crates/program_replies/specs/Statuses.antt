-- what each status says
use Rattle.std.specs.Prelude.{◌≡◌, ◌≢◌, ◌⊎◌, ℕ, ◌+◌, ◌-◌, ◌*◌, ◌^◌, ◌<◌, List, [], take, String}
use Rattle.std.specs.Prelude.{Some, None}
use Rattle.std.specs.declared.alloc.Global.{Global}
use Rattle.std.specs.Io.KnownBytes.{Appends}
use Rattle.tm_base.specs.declared.limits.TheConstants.{MOST_BYTES, WORK_LIMIT_V1}
use Rattle.tm_io.specs.Seen.{SourceSeen, SourceFailed, SourceUnbroken, SinkSeen}
use Rattle.tm_io.specs.Sources.{TakesCount, TakesUpTo}
use Rattle.tm_io.specs.Sinks.{AppendsFront}
use Rattle.tm_script.specs.declared.faults.ScriptFault.{ScriptFault}
use Rattle.play_rules.specs.Interrupts.{Replies}
use Rattle.program_texts.specs.declared.commands.Recipe.{Recipe}
use Rattle.program_texts.specs.declared.commands.Command.{Command}
use Rattle.program_texts.specs.declared.commands.Command.TheVariants.{Run}
use Rattle.program_texts.specs.declared.inputs.Form.{Form}
use Rattle.program_texts.specs.declared.inputs.Form.TheVariants as forms
use Rattle.program_texts.specs.declared.inputs.Input.{Input}
use Rattle.program_texts.specs.declared.replies.Reply.{Reply}
use Rattle.program_texts.specs.Words.{HasJobsRun, Reads, ReadsAs, program_command_of}
use Rattle.program_texts.specs.Texts.{program_read_fault_text, program_too_long_text}
use Rattle.program_texts.specs.Texts.{program_usage_text, refused_input_text}
use Rattle.program_texts.specs.Texts.{job_unknown_text, work_spent_text}
use Rattle.program_texts.specs.Brought.{Brings, ReadsNone}
use Rattle.program_texts.specs.Replies.{program_reply_text}
use Rattle.program_texts.specs.Ends.{SinkSound, Writes, WritesAll, WritesFront}
use Rattle.program_replies.specs.Scripts.{IsScriptOutput, LacksJob, SpendsBy}
use Rattle.program_replies.specs.Replies.{IsProgramReply}

-- the words name a command, it has this input, and the source didn't fail
pub record HasInput (words : List (String Global)) (s t : SourceSeen) (command : Command)
    (input : Input) : Type 0 where
  pub named : program_command_of words ≡ Some command
  pub brought : Brings command s t input
  pub unbroken : SourceUnbroken s t

-- 0: all was done, and all of the output was written; neither end failed, and the sink took all
pub record SaysDone (jobs : Replies) (table : ℕ) (words : List (String Global))
    (s t : SourceSeen) (k m : SinkSeen) : Type 0 where
  pub command : Command
  pub input : Input
  pub has : HasInput words s t command input
  pub text : List ℕ
  pub output : IsScriptOutput jobs table command input text
  pub writes : WritesAll text k m

-- what was read to its end spells no input of this form; the text tells the first fault
pub record SaysRefusedAs (form : Form) (words : List (String Global)) (s t : SourceSeen)
    (k m : SinkSeen) : Type 0 where
  pub reads : ReadsAs form words
  pub unbroken : SourceUnbroken s t
  pub fault : ScriptFault
  pub read : ReadsNone form s t fault
  pub writes : Writes (refused_input_text form fault) k m

-- 1: a script was to be read, and what was read to its end spells none
abbrev pub SaysRefused : List (String Global) → SourceSeen → SourceSeen → SinkSeen → SinkSeen
    → Type 0
SaysRefused words s t k m = SaysRefusedAs forms.Script words s t k m

-- 2: the words stand in no table
pub record SaysUsage (words : List (String Global)) (k m : SinkSeen) : Type 0 where
  pub words_are : program_command_of words ≡ None
  pub writes : Writes program_usage_text k m

-- 3: the source failed
pub record SaysReadFault (words : List (String Global)) (s t : SourceSeen) (k m : SinkSeen)
    : Type 0 where
  pub reads : Reads words
  pub cause : SourceFailed s t
  pub read : TakesUpTo s t MOST_BYTES
  pub writes : Writes program_read_fault_text k m

-- 4: all was done, and the sink broke before all of the output was written
pub record SaysWriteFault (jobs : Replies) (table : ℕ) (words : List (String Global))
    (s t : SourceSeen) (k m : SinkSeen) : Type 0 where
  pub command : Command
  pub input : Input
  pub has : HasInput words s t command input
  pub text : List ℕ
  pub output : IsScriptOutput jobs table command input text
  pub writes : WritesFront text k m

-- ONE TEXT IS DUE, or of `check`, which may show who answers in more than one way, one of texts
-- that are no fronts of one another: the source tells what it has left, and its count of faults
-- isn't at the end of its type; and the words don't name `run`
pub record IsOneDue (words : List (String Global)) (s : SourceSeen) : Type 0 where
  pub bytes : List ℕ
  pub told : s.left ≡ Some bytes
  pub counts : s.faults ≢ 2 ^ 64 - 1
  pub no_run : program_command_of words ≢ Some Run

-- these bytes are all of no text of a reply that the words and the source call for
abbrev pub IsAllOfNone : Replies → (table : ℕ) → List (String Global) → SourceSeen → SourceSeen
    → List ℕ → Type 0
IsAllOfNone jobs table words s t bytes =
    (reply : Reply) → IsProgramReply jobs table words s t reply → bytes ≢ program_reply_text reply

-- a front, and not all, of the text of a reply that the words and the source call for; where one
-- text is due it is all of no such text
pub record WritesReplyFront (jobs : Replies) (table : ℕ) (words : List (String Global))
    (s t : SourceSeen) (k m : SinkSeen) : Type 0 where
  pub reply : Reply
  pub called_for : IsProgramReply jobs table words s t reply
  pub count : ℕ
  pub front : AppendsFront k m count (program_reply_text reply)
  pub not_all : IsOneDue words s
      → IsAllOfNone jobs table words s t (take count (program_reply_text reply))

-- the words name a command, the source didn't fail, and no more was read of it than a script may
-- have
pub record HasRead (words : List (String Global)) (s t : SourceSeen) : Type 0 where
  pub command : Command
  pub named : program_command_of words ≡ Some command
  pub unbroken : SourceUnbroken s t
  pub read : TakesUpTo s t MOST_BYTES

-- nothing was written, by a command whose source didn't fail and gave no byte too many
pub record WritesNothing (words : List (String Global)) (s t : SourceSeen) (k m : SinkSeen)
    : Type 0 where
  pub has_read : HasRead words s t
  pub nothing : Appends k.held m.held []

-- 5: the sink neither failed nor took nothing, and nothing was written, by a command that has read,
-- or a front, not all, of what was due
pub record SaysNoMemory (jobs : Replies) (table : ℕ) (words : List (String Global))
    (s t : SourceSeen) (k m : SinkSeen) : Type 0 where
  pub sound : SinkSound k m
  pub written : WritesNothing words s t k m ⊎ WritesReplyFront jobs table words s t k m

-- 6: the work of the input's play, or of its run, reached its limit before the end
pub record SaysWorkSpent (jobs : Replies) (table : ℕ) (words : List (String Global))
    (s t : SourceSeen) (k m : SinkSeen) : Type 0 where
  pub command : Command
  pub input : Input
  pub has : HasInput words s t command input
  pub plays : HasJobsRun command
  pub count : ℕ
  pub spends : SpendsBy jobs table command input count
  pub writes : Writes (work_spent_text count) k m

-- the recipe's script ends so early that its CPUs and timers can't come to the limit of work
abbrev pub IsShortDay : Recipe → Type 0
IsShortDay r = 5 * (r.moments + 1) * (1 + r.cpus + r.timers) < WORK_LIMIT_V1

-- 7: the source gave one byte more than a script may have
pub record SaysTooLong (words : List (String Global)) (s t : SourceSeen) (k m : SinkSeen)
    : Type 0 where
  pub reads : Reads words
  pub unbroken : SourceUnbroken s t
  pub read : TakesCount s t (MOST_BYTES + 1)
  pub writes : Writes program_too_long_text k m

-- 8: a line of the input names a job that the table hasn't; nothing was played or run
pub record SaysJobUnknown (table : ℕ) (words : List (String Global))
    (s t : SourceSeen) (k m : SinkSeen) : Type 0 where
  pub command : Command
  pub input : Input
  pub has : HasInput words s t command input
  pub plays : HasJobsRun command
  pub line : ℕ
  pub job : ℕ
  pub lacks : LacksJob table input line job
  pub writes : Writes (job_unknown_text line job) k m

-- 10: a trace was to be read, and what was read to its end spells none
abbrev pub SaysTraceRefused : List (String Global) → SourceSeen → SourceSeen → SinkSeen → SinkSeen
    → Type 0
SaysTraceRefused words s t k m = SaysRefusedAs forms.Trace words s t k m

-- 11: a script of works was to be read, and what was read to its end spells none
abbrev pub SaysWorksRefused : List (String Global) → SourceSeen → SourceSeen → SinkSeen → SinkSeen
    → Type 0
SaysWorksRefused words s t k m = SaysRefusedAs forms.Works words s t k m

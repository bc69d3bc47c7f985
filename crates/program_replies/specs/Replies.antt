-- what the program is about to write, and what it rests on
use Rattle.std.specs.Prelude.{◌≡◌, ℕ, ◌+◌, List, String, Option, Some, None}
use Rattle.std.specs.declared.alloc.Global.{Global}
use Rattle.tm_base.specs.declared.limits.TheConstants.{MOST_BYTES}
use Rattle.tm_io.specs.Seen.{SourceSeen, SourceFailed, SourceUnbroken}
use Rattle.tm_io.specs.Sources.{TakesCount, TakesUpTo}
use Rattle.play_rules.specs.Interrupts.{Replies}
use Rattle.program_texts.specs.declared.commands.Command.{Command}
use Rattle.program_texts.specs.declared.inputs.Input.{Input}
use Rattle.program_texts.specs.declared.replies.Reply.{Reply}
use Rattle.program_texts.specs.declared.replies.Reply.TheVariants.{Usage, ReadFault, TooLong}
use Rattle.program_texts.specs.declared.replies.Reply.TheVariants.{Refused, JobUnknown, WorkSpent}
use Rattle.program_texts.specs.declared.replies.Reply.TheVariants.{Played, Made}
use Rattle.program_texts.specs.Words.{HasJobsRun, form_of, program_command_of}
use Rattle.program_texts.specs.Brought.{Brings, IsReader, ReadsNone}
use Rattle.program_replies.specs.Scripts.{IsScriptOutput, LacksJob, SpendsBy}

-- THE REPLY TO AN INPUT, by the command
abbrev pub IsReplyTo : Replies → (table : ℕ) → Command → Input → Reply → Type 0
IsReplyTo jobs table command input (JobUnknown line job) =
    HasJobsRun command × LacksJob table input line job
IsReplyTo jobs table command input (WorkSpent count) =
    HasJobsRun command × SpendsBy jobs table command input count
IsReplyTo jobs table command input (Played text) = IsScriptOutput jobs table command input text
IsReplyTo jobs table command input (Made text) = IsScriptOutput jobs table command input text.items
IsReplyTo jobs table command input _ = ⊥

-- the command has this input, and the reply is that to the input
pub record RepliesToInput (jobs : Replies) (table : ℕ) (command : Command)
    (s t : SourceSeen) (reply : Reply) : Type 0 where
  pub input : Input
  pub brought : Brings command s t input
  pub unbroken : SourceUnbroken s t
  pub reply_is : IsReplyTo jobs table command input reply

-- WHAT EACH REPLY RESTS ON: the command, and the source before and after
abbrev pub IsReplyOf : Replies → (table : ℕ) → Command → SourceSeen → SourceSeen → Reply → Type 0
IsReplyOf jobs table command s t Usage = ⊥
IsReplyOf jobs table command s t ReadFault =
    IsReader command × SourceFailed s t × TakesUpTo s t MOST_BYTES
IsReplyOf jobs table command s t TooLong =
    IsReader command × SourceUnbroken s t × TakesCount s t (MOST_BYTES + 1)
IsReplyOf jobs table command s t (Refused form fault) =
    IsReader command × SourceUnbroken s t × (form_of command ≡ form) × ReadsNone form s t fault
IsReplyOf jobs table command s t reply = RepliesToInput jobs table command s t reply

-- the words stand in no table, or name this command
abbrev pub IsReplyBy : Replies → (table : ℕ) → Option Command → SourceSeen → SourceSeen → Reply
    → Type 0
IsReplyBy jobs table None s t reply = reply ≡ Usage
IsReplyBy jobs table (Some command) s t reply = IsReplyOf jobs table command s t reply

-- the reply that these words and the source call for
abbrev pub IsProgramReply : Replies → (table : ℕ) → List (String Global) → SourceSeen → SourceSeen
    → Reply → Type 0
IsProgramReply jobs table words s t reply =
    IsReplyBy jobs table (program_command_of words) s t reply

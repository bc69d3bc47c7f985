-- how a reply is come to; no public clause speaks of this
use Rattle.std.specs.Prelude.{◌≡◌, ℕ, List}
use Rattle.play_rules.specs.Interrupts.{Replies}
use Rattle.program_texts.specs.declared.commands.Command.{Command}
use Rattle.program_texts.specs.declared.inputs.Input.{Input}
use Rattle.program_texts.specs.declared.replies.Reply.{Reply}
use Rattle.program_texts.specs.declared.replies.Reply.TheVariants.{Refused}
use Rattle.program_texts.specs.Inputs.{IsInputRefusalOf, IsOnlyInputOf, SpellsInput}
use Rattle.program_texts.specs.Words.{form_of}
use Rattle.program_replies.specs.Replies.{IsReplyTo}

-- the bytes spell an input of the command's form, and the reply is that to the input
pub record RepliesToSpelled (jobs : Replies) (table : ℕ) (command : Command) (bytes : List ℕ)
    (reply : Reply) : Type 0 where
  pub input : Input
  pub spelled : SpellsInput (form_of command) bytes input
  pub only : IsOnlyInputOf (form_of command) bytes input
  pub reply_is : IsReplyTo jobs table command input reply

-- the reply to bytes that were read
abbrev pub IsReplyToBytes : Replies → (table : ℕ) → Command → List ℕ → Reply → Type 0
IsReplyToBytes jobs table command bytes (Refused form fault) =
    (form_of command ≡ form) × IsInputRefusalOf form bytes fault
IsReplyToBytes jobs table command bytes reply =
    RepliesToSpelled jobs table command bytes reply

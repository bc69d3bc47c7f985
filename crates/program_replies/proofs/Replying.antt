-- for crates above: a reply to an input, to bytes and to a source is one to the words
use Rattle.std.proofs.Common.{◌≡◌, ℕ, List, Option, Some, None, refl, sym, subst}
use Rattle.tm_base.specs.declared.limits.TheConstants.{MOST_BYTES}
use Rattle.tm_io.specs.Seen.{SourceSeen, SourceUnbroken}
use Rattle.tm_io.specs.Sources.{TakesAll}
use Rattle.play_rules.specs.Interrupts.{Replies}
use Rattle.program_texts.specs.declared.commands.Recipe.{Recipe}
use Rattle.program_texts.specs.declared.commands.Command.{Command}
use Rattle.program_texts.specs.declared.inputs.Input.{Input}
use Rattle.program_texts.specs.declared.inputs.Input.TheVariants as inputs
use Rattle.program_texts.specs.declared.replies.Reply.{Reply}
use Rattle.program_texts.specs.declared.replies.Reply.TheVariants.{Usage, ReadFault, TooLong}
use Rattle.program_texts.specs.declared.replies.Reply.TheVariants.{Refused, JobUnknown, WorkSpent}
use Rattle.program_texts.specs.declared.replies.Reply.TheVariants.{Played, Made}
use Rattle.program_texts.specs.Inputs.{IsOnlyInputOf, SpellsInput}
use Rattle.program_texts.specs.Words.{form_of, recipe_in}
use Rattle.program_texts.specs.Brought.{BringsBy, script_by}
use Rattle.program_replies.specs.Replies.{IsReplyOf, IsReplyTo, RepliesToInput}
use Rattle.program_replies.specs.Steps.{IsReplyToBytes, RepliesToSpelled}

module _ (jobs : Replies) (table : ℕ) (command : Command) where
  -- to an input that some bytes spell
  module _ (bytes : List ℕ) (input : Input) (spelled : SpellsInput (form_of command) bytes input)
      (only : IsOnlyInputOf (form_of command) bytes input) where
    spelled_as : (reply : Reply) → IsReplyTo jobs table command input reply
        → RepliesToSpelled jobs table command bytes reply
    spelled_as reply is = record { input = input; spelled = spelled; only = only; reply_is = is }

    pub to_bytes : (reply : Reply) → IsReplyTo jobs table command input reply
        → IsReplyToBytes jobs table command bytes reply
    to_bytes Usage is = absurd is
    to_bytes ReadFault is = absurd is
    to_bytes TooLong is = absurd is
    to_bytes (Refused form fault) is = absurd is
    to_bytes (JobUnknown line job) is = spelled_as (JobUnknown line job) is
    to_bytes (WorkSpent count) is = spelled_as (WorkSpent count) is
    to_bytes (Played text) is = spelled_as (Played text) is
    to_bytes (Made text) is = spelled_as (Made text) is

  -- to bytes that a source gave
  module _ (s t : SourceSeen) (bytes : List ℕ) (reader : recipe_in command ≡ None)
      (all : TakesAll s t MOST_BYTES bytes) (sound : SourceUnbroken s t) where
    read_as : (reply : Reply) → RepliesToSpelled jobs table command bytes reply
        → RepliesToInput jobs table command s t reply
    read_as reply is =
        let By : Option Recipe → Type 0 = λ o. BringsBy o (form_of command) s t is.input in
        record {
          input = is.input;
          brought = subst By (sym reader) (record {
            bytes = bytes;
            read = all;
            spelled = is.spelled;
            only = is.only;
          });
          unbroken = sound;
          reply_is = is.reply_is;
        }

    pub to_source : (reply : Reply) → IsReplyToBytes jobs table command bytes reply
        → IsReplyOf jobs table command s t reply
    to_source Usage is = absurd is.reply_is
    to_source ReadFault is = absurd is.reply_is
    to_source TooLong is = absurd is.reply_is
    to_source (Refused form fault) is =
        (reader, sound, is.0, record { bytes = bytes; read = all; refusal = is.1 })
    to_source (JobUnknown line job) is = read_as (JobUnknown line job) is
    to_source (WorkSpent count) is = read_as (WorkSpent count) is
    to_source (Played text) is = read_as (Played text) is
    to_source (Made text) is = read_as (Made text) is

  -- to a script that was generated
  module _ (s : SourceSeen) (recipe : Recipe) (maker : recipe_in command ≡ Some recipe) where
    made_as : (reply : Reply)
        → IsReplyTo jobs table command (inputs.Script (script_by recipe)) reply
        → RepliesToInput jobs table command s s reply
    made_as reply is =
        let script = inputs.Script (script_by recipe) in
        let By : Option Recipe → Type 0 = λ o. BringsBy o (form_of command) s s script in
        record {
          input = script;
          brought = subst By (sym maker) (record { made = refl; untouched = refl });
          unbroken = refl;
          reply_is = is;
        }

    pub to_recipe : (reply : Reply)
        → IsReplyTo jobs table command (inputs.Script (script_by recipe)) reply
        → IsReplyOf jobs table command s s reply
    to_recipe Usage is = absurd is
    to_recipe ReadFault is = absurd is
    to_recipe TooLong is = absurd is
    to_recipe (Refused form fault) is = absurd is
    to_recipe (JobUnknown line job) is = made_as (JobUnknown line job) is
    to_recipe (WorkSpent count) is = made_as (WorkSpent count) is
    to_recipe (Played text) is = made_as (Played text) is
    to_recipe (Made text) is = made_as (Made text) is

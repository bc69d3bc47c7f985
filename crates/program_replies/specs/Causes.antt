-- the causes by which a status comes, where neither end fails; each is read off the words, the
-- bytes that the source has left, and the jobs
use Rattle.std.specs.Prelude.{◌≡◌, ◌≢◌, ℕ, ◌<◌, ◌≤◌, List, length, String, Option, Some, None}
use Rattle.std.specs.declared.alloc.Global.{Global}
use Rattle.tm_base.specs.declared.limits.TheConstants.{MOST_BYTES}
use Rattle.play_rules.specs.Interrupts.{Replies}
use Rattle.program_texts.specs.declared.commands.Recipe.{Recipe}
use Rattle.program_texts.specs.declared.commands.Command.{Command}
use Rattle.program_texts.specs.declared.inputs.Form.{Form}
use Rattle.program_texts.specs.declared.inputs.Form.TheVariants as forms
use Rattle.program_texts.specs.declared.inputs.Input.{Input}
use Rattle.program_texts.specs.declared.inputs.Input.TheVariants as inputs
use Rattle.program_texts.specs.Inputs.{SpellsInput}
use Rattle.program_texts.specs.Words.{HasJobsRun, Reads, ReadsAs, form_of, program_command_of}
use Rattle.program_texts.specs.Words.{recipe_in}
use Rattle.program_texts.specs.Words.{IsPlayer}
use Rattle.program_texts.specs.Brought.{script_by}
use Rattle.program_replies.specs.Scripts.{EndsBy, KnowsJobs, spent_by}

-- the source has these bytes left, and they are few enough
pub record HasFew (left : Option (List ℕ)) (bytes : List ℕ) : Type 0 where
  pub left_are : left ≡ Some bytes
  pub few : length bytes ≤ MOST_BYTES

-- too long: a command that reads, and more bytes than a script may have
pub record IsTooLong (words : List (String Global)) (left : Option (List ℕ)) : Type 0 where
  pub reads : Reads words
  pub bytes : List ℕ
  pub left_are : left ≡ Some bytes
  pub many : MOST_BYTES < length bytes

-- refused: a command that reads an input of this form, and bytes that spell none
pub record IsRefusedAs (form : Form) (words : List (String Global)) (left : Option (List ℕ))
    : Type 0 where
  pub reads : ReadsAs form words
  pub bytes : List ℕ
  pub has : HasFew left bytes
  pub spells_none : (input : Input) → SpellsInput form bytes input → ⊥

-- script refused: a command that reads a script, and bytes that spell none
abbrev pub IsScriptRefused : List (String Global) → Option (List ℕ) → Type 0
IsScriptRefused words left = IsRefusedAs forms.Script words left

-- trace refused: a command that reads a trace, and bytes that spell none
abbrev pub IsTraceRefused : List (String Global) → Option (List ℕ) → Type 0
IsTraceRefused words left = IsRefusedAs forms.Trace words left

-- works refused: a command that reads a script of works, and bytes that spell none
abbrev pub IsWorksRefused : List (String Global) → Option (List ℕ) → Type 0
IsWorksRefused words left = IsRefusedAs forms.Works words left

-- the source has the text of an input of this form left
pub record HasText (form : Form) (left : Option (List ℕ)) (input : Input) : Type 0 where
  pub bytes : List ℕ
  pub has : HasFew left bytes
  pub spelled : SpellsInput form bytes input

-- the input that a command has: read from the source, or made by a recipe
abbrev pub IsInputBy : Option Recipe → Form → Option (List ℕ) → Input → Type 0
IsInputBy None form left input = HasText form left input
IsInputBy (Some recipe) form left input = input ≡ inputs.Script (script_by recipe)

-- the words name a command, and this is its input: what the source spells, or what its recipe makes
pub record AsksCommand (words : List (String Global)) (left : Option (List ℕ)) (command : Command)
    (input : Input) : Type 0 where
  pub named : program_command_of words ≡ Some command
  pub input_is : IsInputBy (recipe_in command) (form_of command) left input

-- job unknown: an input whose jobs are to be run names a job that the table hasn't
pub record IsJobUnknown (table : ℕ) (words : List (String Global)) (left : Option (List ℕ))
    : Type 0 where
  pub command : Command
  pub input : Input
  pub asks : AsksCommand words left command input
  pub plays : HasJobsRun command
  pub unknown : KnowsJobs table input → ⊥

-- work spent: an input that is to be played takes more work than the limit allows. How much work a
-- run by threads takes isn't said by its input alone
pub record IsWorkSpent (jobs : Replies) (table : ℕ) (words : List (String Global))
    (left : Option (List ℕ)) : Type 0 where
  pub command : Command
  pub input : Input
  pub asks : AsksCommand words left command input
  pub plays : IsPlayer command
  pub known : KnowsJobs table input
  pub spent : spent_by jobs input ≢ None

-- none of these: there is an output, and nothing but the sink stands in its way
pub record IsFine (jobs : Replies) (table : ℕ) (words : List (String Global))
    (left : Option (List ℕ)) : Type 0 where
  pub command : Command
  pub input : Input
  pub asks : AsksCommand words left command input
  pub plays : HasJobsRun command → EndsBy jobs table command input

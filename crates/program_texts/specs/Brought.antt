-- what a command has to work on: what it reads, by the source before and after, or what its recipe
-- makes
use Rattle.std.specs.Prelude.{◌≡◌, ℕ, List, Option, Some, None}
use Rattle.tm_base.specs.declared.limits.TheConstants.{MOST_BYTES}
use Rattle.tm_io.specs.Seen.{SourceSeen}
use Rattle.tm_io.specs.Sources.{TakesAll}
use Rattle.tm_script.specs.declared.faults.ScriptFault.{ScriptFault}
use Rattle.tm_script.specs.declared.syntax.Script.{Script}
use Rattle.tm_generate.specs.Generated.{generated}
use Rattle.program_texts.specs.declared.commands.Recipe.{Recipe}
use Rattle.program_texts.specs.declared.commands.Command.{Command}
use Rattle.program_texts.specs.declared.inputs.Form.{Form}
use Rattle.program_texts.specs.declared.inputs.Input.{Input}
use Rattle.program_texts.specs.declared.inputs.Input.TheVariants as inputs
use Rattle.program_texts.specs.Inputs.{IsInputRefusalOf, IsOnlyInputOf, SpellsInput}
use Rattle.program_texts.specs.Words.{form_of, recipe_in}

-- the script that a recipe makes
abbrev pub script_by : Recipe → Script
script_by r = generated r.number r.cpus r.timers r.moments

-- the source was read to its end within the most bytes, and what it gave spells this input of its
-- form alone
pub record ReadsInput (form : Form) (s t : SourceSeen) (input : Input) : Type 0 where
  pub bytes : List ℕ
  pub read : TakesAll s t MOST_BYTES bytes
  pub spelled : SpellsInput form bytes input
  pub only : IsOnlyInputOf form bytes input

-- the input is the recipe's script, and the source is untouched
pub record MakesScript (r : Recipe) (s t : SourceSeen) (input : Input) : Type 0 where
  pub made : input ≡ inputs.Script (script_by r)
  pub untouched : t ≡ s

-- a command has this input: it read it, or made it by its recipe
abbrev pub BringsBy : Option Recipe → Form → SourceSeen → SourceSeen → Input → Type 0
BringsBy None form s t input = ReadsInput form s t input
BringsBy (Some r) form s t input = MakesScript r s t input

-- THE INPUT OF A COMMAND, by the source before and after
abbrev pub Brings : Command → SourceSeen → SourceSeen → Input → Type 0
Brings command s t input = BringsBy (recipe_in command) (form_of command) s t input

-- these bytes were read to their end, and spell no input of this form: the fault is their first
pub record ReadsNone (form : Form) (s t : SourceSeen) (fault : ScriptFault) : Type 0 where
  pub bytes : List ℕ
  pub read : TakesAll s t MOST_BYTES bytes
  pub refusal : IsInputRefusalOf form bytes fault

-- the command reads its input from the source
abbrev pub IsReader : Command → Type 0
IsReader command = recipe_in command ≡ None

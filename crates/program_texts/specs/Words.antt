-- the words of the command line: the table of commands
use Rattle.std.specs.Prelude.{◌≡◌, ℕ, ◌≤◌, ◌&&◌, nat_le, List, [], ◌∷◌, codes, String, string_bytes}
use Rattle.std.specs.Prelude.{Option, Some, None, option_and_then, if◌then◌else◌}
use Rattle.std.specs.declared.alloc.Global.{Global}
use Rattle.std.specs.Str.{bytes_eq}
use Rattle.text_words.specs.Numbers.{number_of}
use Rattle.tm_base.specs.declared.limits.TheConstants.{MOST_CPUS_V1, MOST_TIMERS}
use Rattle.tm_generate.specs.declared.generated.TheConstants.{MOST_MOMENTS}
use Rattle.program_texts.specs.declared.commands.TheConstants.{MOST_NUMBER}
use Rattle.program_texts.specs.declared.commands.Recipe.{Recipe}
use Rattle.program_texts.specs.declared.commands.Command.{Command}
use Rattle.program_texts.specs.declared.commands.Command.TheVariants.{Play, Run, Tree, Generate}
use Rattle.program_texts.specs.declared.commands.Command.TheVariants.{Day, Check, Deep, Works}
use Rattle.program_texts.specs.declared.inputs.Form.{Form}
use Rattle.program_texts.specs.declared.inputs.Form.TheVariants as forms

infixl 10 ◌>>=◌
-- what comes of a value, where there is one
abbrev pub ◌>>=◌ : {A B : Type 0} → Option A → (A → Option B) → Option B
o >>= f = option_and_then f o

-- a number, where it is within these limits
abbrev pub limited : (least most n : ℕ) → Option ℕ
limited least most n = if nat_le least n && nat_le n most then Some n else None

-- the number that a word spells, by the number rule of scripts, where it is within these limits
unfoldable pub number_within : (least most : ℕ) → List ℕ → Option ℕ
number_within least most word = number_of word >>= limited least most

-- NUMBER CPUS TIMERS MOMENTS: what a script is generated from, within the limits of `generate`
unfoldable pub recipe_of : (number cpus timers moments : List ℕ) → Option Recipe
recipe_of number cpus timers moments = do
  n ← number_within 0 MOST_NUMBER number
  c ← number_within 1 MOST_CPUS_V1 cpus
  t ← number_within 1 MOST_TIMERS timers
  m ← number_within 1 MOST_MOMENTS moments
  Some (record { number = n; cpus = c; timers = t; moments = m })

-- the commands of one word
abbrev pub lone_command : List ℕ → Option Command
lone_command word =
    if bytes_eq word (codes "play") then Some Play
    else if bytes_eq word (codes "run") then Some Run
    else if bytes_eq word (codes "tree") then Some Tree
    else if bytes_eq word (codes "check") then Some Check
    else if bytes_eq word (codes "deep") then Some Deep
    else if bytes_eq word (codes "works") then Some Works
    else None

-- the commands of a word and a recipe
abbrev pub making_command : List ℕ → Recipe → Option Command
making_command word recipe =
    if bytes_eq word (codes "generate") then Some (Generate recipe)
    else if bytes_eq word (codes "day") then Some (Day recipe)
    else None

-- THE COMMAND that words name, where they stand in the table
abbrev pub program_command_of : List (String Global) → Option Command
program_command_of (word ∷ []) = lone_command (string_bytes word)
program_command_of (word ∷ number ∷ cpus ∷ timers ∷ moments ∷ []) =
    recipe_of (string_bytes number) (string_bytes cpus) (string_bytes timers) (string_bytes moments)
    >>= making_command (string_bytes word)
program_command_of _ = None

-- a recipe within the limits of `generate`
pub record IsRecipe (r : Recipe) : Type 0 where
  pub some_cpus : 1 ≤ r.cpus
  pub few_cpus : r.cpus ≤ MOST_CPUS_V1
  pub some_timers : 1 ≤ r.timers
  pub few_timers : r.timers ≤ MOST_TIMERS
  pub some_moments : 1 ≤ r.moments
  pub few_moments : r.moments ≤ MOST_MOMENTS

-- the recipe of a command that generates its script; the others read their input from the source
abbrev pub recipe_in : Command → Option Recipe
recipe_in Play = None
recipe_in Run = None
recipe_in Tree = None
recipe_in (Generate recipe) = Some recipe
recipe_in (Day recipe) = Some recipe
recipe_in Check = None
recipe_in Deep = None
recipe_in Works = None

-- what a command works on
abbrev pub form_of : Command → Form
form_of Play = forms.Script
form_of Run = forms.Script
form_of Tree = forms.Script
form_of (Generate recipe) = forms.Script
form_of (Day recipe) = forms.Script
form_of Check = forms.Trace
form_of Deep = forms.Script
form_of Works = forms.Works

-- the words name a command that reads its input from the source
abbrev pub Reads : List (String Global) → Type 0
Reads words =
    (command : Command) × (program_command_of words ≡ Some command) × (recipe_in command ≡ None)

-- the words name a command that reads an input of this form from the source
abbrev pub ReadsAs : Form → List (String Global) → Type 0
ReadsAs form words =
    (command : Command) × (program_command_of words ≡ Some command) × (recipe_in command ≡ None)
    × (form_of command ≡ form)

-- the command has the jobs of its input run: it plays it, or runs it by threads
abbrev pub HasJobsRun : Command → Type 0
HasJobsRun Play = Unit {0}
HasJobsRun Run = Unit {0}
HasJobsRun Tree = ⊥
HasJobsRun (Generate recipe) = ⊥
HasJobsRun (Day recipe) = Unit {0}
HasJobsRun Check = ⊥
HasJobsRun Deep = Unit {0}
HasJobsRun Works = Unit {0}

-- the command plays its input without threads, so that the input alone says what comes of it
abbrev pub IsPlayer : Command → Type 0
IsPlayer Play = Unit {0}
IsPlayer Run = ⊥
IsPlayer Tree = ⊥
IsPlayer (Generate recipe) = ⊥
IsPlayer (Day recipe) = Unit {0}
IsPlayer Check = ⊥
IsPlayer Deep = Unit {0}
IsPlayer Works = Unit {0}

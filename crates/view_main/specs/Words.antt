-- what the program's words say
use Rattle.std.specs.Prelude.{ℕ, ◌+◌, ◌==◌, ◌&&◌, nat_lt, Bool, true, false, List, []}
use Rattle.std.specs.Prelude.{◌∷◌, codes, take, drop}
use Rattle.std.specs.Prelude.{Option, Some, None, if◌then◌else◌, String, string_bytes, bytes_eq}
use Rattle.std.specs.List.{position}
use Rattle.std.specs.declared.alloc.Global.{Global}
use Rattle.text_words.specs.Numbers.{number_of}
use Rattle.tm_base.specs.declared.names.CpuId.{CpuId}
use Rattle.view_chart.specs.declared.charting.Choice.{Choice}
use Rattle.view_main.specs.declared.words.Awaited.{Awaited}
use Rattle.view_main.specs.declared.words.Awaited.TheVariants as awaits
use Rattle.view_stat.specs.declared.telling.Form.{Form}
use Rattle.view_stat.specs.declared.telling.Form.TheVariants as forms
use Rattle.view_main.specs.declared.words.Command.{Command}
use Rattle.view_main.specs.declared.words.Command.TheVariants as commands
use Rattle.view_main.specs.declared.words.Look.{Look}
use Rattle.view_main.specs.declared.words.Options.{Options}
use Rattle.view_main.specs.declared.words.TheConstants.{CPU_NUMBERS, HYPHEN}

-- a number as that of a CPU
abbrev pub as_cpu : Option ℕ → Option CpuId
as_cpu None = None
as_cpu (Some n) = if nat_lt n CPU_NUMBERS then Some (record { 0 = n }) else None

-- the number of a CPU that a word spells
abbrev pub cpu_in : (word : List ℕ) → Option CpuId
cpu_in word = as_cpu (number_of word)

-- two CPUs, if there are two
abbrev pub both : Option CpuId → Option CpuId → Option (CpuId × CpuId)
both None last = None
both (Some first) None = None
both (Some first) (Some last) = Some (first, last)

-- what stands before and behind a place, as CPUs
abbrev pub cpus_at : (word : List ℕ) → Option ℕ → Option (CpuId × CpuId)
cpus_at word None = None
cpus_at word (Some at) = both (cpu_in (take at word)) (cpu_in (drop (at + 1) word))

-- two CPUs with a hyphen between them
abbrev pub cpus_in : (word : List ℕ) → Option (CpuId × CpuId)
cpus_in word = cpus_at word (position (λ b. b == HYPHEN) word)

-- the options of `chart`, and what each awaits behind it
abbrev pub option_in : (word : List ℕ) → Option Awaited
option_in word =
    if bytes_eq word (codes "--from") then Some awaits.From
    else (if bytes_eq word (codes "--to") then Some awaits.To
    else (if bytes_eq word (codes "--cpus") then Some awaits.Cpus
    else None))

-- the first jiffy is chosen
abbrev pub with_from : Choice → Option ℕ → Option Choice
with_from choice None = None
with_from choice (Some n) = Some (record choice { from = Some n })

-- the last jiffy is
abbrev pub with_to : Choice → Option ℕ → Option Choice
with_to choice None = None
with_to choice (Some n) = Some (record choice { to = Some n })

-- the CPUs are
abbrev pub with_cpus : Choice → Option (CpuId × CpuId) → Option Choice
with_cpus choice None = None
with_cpus choice (Some cpus) = Some (record choice { cpus = Some cpus })

-- options with a look, of which an option's word comes next
abbrev pub looking : Look → Options
looking look = record { look = look; awaited = awaits.Nothing }

-- the same, with another choice
abbrev pub chosen : Look → Option Choice → Option Options
chosen look None = None
chosen look (Some choice) = Some (looking (record look { choice = choice }))

-- options that await what this option does
abbrev pub awaiting : Options → Option Awaited → Option Options
awaiting options None = None
awaiting options (Some awaited) = Some (record { look = options.look; awaited = awaited })

-- options with an option's word: for text, with who answers, or one that awaits another word
abbrev pub with_option : Options → (word : List ℕ) → Option Options
with_option options word =
    if bytes_eq word (codes "--text") then Some (looking (record options.look { text = true }))
    else (if bytes_eq word (codes "--covers") then
    Some (looking (record options.look { covers = true }))
    else awaiting options (option_in word))

-- a word behind options, where this is awaited
abbrev pub word_where : Options → Awaited → (word : List ℕ) → Option Options
word_where options awaits.Nothing word = with_option options word
word_where options awaits.From word =
    chosen options.look (with_from options.look.choice (number_of word))
word_where options awaits.To word =
    chosen options.look (with_to options.look.choice (number_of word))
word_where options awaits.Cpus word =
    chosen options.look (with_cpus options.look.choice (cpus_in word))

-- options with one more word, if it may stand there
abbrev pub take_word : Options → (word : List ℕ) → Option Options
take_word options word = word_where options options.awaited word

-- what is chosen, if nothing is awaited any more
abbrev pub look_where : Look → Awaited → Option Look
look_where look awaits.Nothing = Some look
look_where look awaits.From = None
look_where look awaits.To = None
look_where look awaits.Cpus = None

-- what options choose, if they await nothing any more
abbrev pub look_of : Options → Option Look
look_of options = look_where options.look options.awaited

-- nothing is chosen
abbrev pub first_options : Options
first_options = looking (record {
  choice = record { from = None; to = None; cpus = None };
  text = false;
  covers = false;
})

-- what further words choose, where options came before, if they came
unfoldable pub options_behind : Option Options → List (String Global) → Option Look
options_behind None words = None
options_behind (Some options) [] = look_of options
options_behind (Some options) (word ∷ rest) =
    options_behind (take_word options (string_bytes word)) rest

-- WHAT THE WORDS behind `chart` choose
abbrev pub options_from : Options → List (String Global) → Option Look
options_from options words = options_behind (Some options) words

-- a command of these options, which may be none
abbrev pub chart_with : Option Look → Command
chart_with None = commands.Other
chart_with (Some look) = commands.Chart look

-- the two words `linux --all`
abbrev pub is_all : List (String Global) → Bool
is_all [] = false
is_all (word ∷ []) = false
is_all (word ∷ option ∷ []) =
    bytes_eq (string_bytes word) (codes "linux") && bytes_eq (string_bytes option) (codes "--all")
is_all (word ∷ option ∷ other ∷ more) = false

-- the two words `stat --alone`
abbrev pub is_alone : List (String Global) → Bool
is_alone [] = false
is_alone (word ∷ []) = false
is_alone (word ∷ option ∷ []) =
    bytes_eq (string_bytes word) (codes "stat") && bytes_eq (string_bytes option) (codes "--alone")
is_alone (word ∷ option ∷ other ∷ more) = false

-- the form of what is counted that an option asks for
abbrev pub form_in : (option : List ℕ) → Option Form
form_in option =
    if bytes_eq option (codes "--rows") then Some forms.Rows
    else (if bytes_eq option (codes "--wakeups") then Some forms.Wakeups else None)

-- the form of what is counted that the words `stat` and an option ask for
abbrev pub form_of : List (String Global) → Option Form
form_of [] = None
form_of (word ∷ []) =
    if bytes_eq (string_bytes word) (codes "stat") then Some forms.Columns else None
form_of (word ∷ option ∷ []) =
    if bytes_eq (string_bytes word) (codes "stat") then form_in (string_bytes option) else None
form_of (word ∷ option ∷ other ∷ more) = None

-- a command that counts in this form, which may be none
abbrev pub stat_with : Option Form → Command
stat_with None = commands.Other
stat_with (Some form) = commands.Stat form

-- what words say that are none of a chart or of a trace of steps
abbrev pub other_command : List (String Global) → Command
other_command words =
    if is_all words then commands.All
    else (if is_alone words then commands.Alone else stat_with (form_of words))

-- what the words behind `explain` say
abbrev pub explain_with : List (String Global) → Command
explain_with [] = commands.Explain
explain_with (word ∷ more) = commands.Other

-- WHAT THE PROGRAM'S WORDS SAY
abbrev pub command_of : List (String Global) → Command
command_of [] = commands.Other
command_of (word ∷ rest) =
    if bytes_eq (string_bytes word) (codes "chart") then
    chart_with (options_from first_options rest)
    else (if bytes_eq (string_bytes word) (codes "explain") then explain_with rest
    else other_command (word ∷ rest))

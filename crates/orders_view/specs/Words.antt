-- what the words of the command say
use Rattle.std.specs.Prelude.{ℕ, Bool, true, false, List, [], ◌∷◌, codes, is_some}
use Rattle.std.specs.Prelude.{Option, Some, None, if◌then◌else◌, String, string_bytes, bytes_eq}
use Rattle.std.specs.declared.alloc.Global.{Global}
use Rattle.text_words.specs.Numbers.{number_of}
use Rattle.orders_rules.specs.declared.rule.Rule.{Rule}
use Rattle.orders_rules.specs.declared.rule.Rule.TheVariants as rules
use Rattle.orders_threads.specs.Names.{rule_of}
use Rattle.orders_view.specs.declared.words.Asked.{Asked}
use Rattle.orders_view.specs.declared.words.Awaited.{Awaited}
use Rattle.orders_view.specs.declared.words.Awaited.TheVariants as awaits
use Rattle.orders_view.specs.declared.words.Options.{Options}
use Rattle.orders_view.specs.declared.words.TheConstants.{MOST_STATES}

-- an option awaits this, where it didn't come before
abbrev pub once : (came : Bool) → Awaited → Option Awaited
once true awaited = None
once false awaited = Some awaited

-- the options, and what each awaits behind it
abbrev pub option_in : Options → (word : List ℕ) → Option Awaited
option_in options word =
    if bytes_eq word (codes "--rule") then once (is_some options.rule) awaits.RuleName
    else (if bytes_eq word (codes "--show") then once (is_some options.show) awaits.EndNumber
    else (if bytes_eq word (codes "--states") then
    once (is_some options.states) awaits.StateCount
    else None))

-- options that await this
abbrev pub awaiting : Options → Option Awaited → Option Options
awaiting options None = None
awaiting options (Some awaited) = Some (record options { awaited = awaited })

-- the rule is chosen
abbrev pub with_rule : Options → Option Rule → Option Options
with_rule options None = None
with_rule options (Some rule) =
    Some (record options { rule = Some rule; awaited = awaits.Nothing })

-- the end is
abbrev pub with_show : Options → Option ℕ → Option Options
with_show options None = None
with_show options (Some number) =
    Some (record options { show = Some number; awaited = awaits.Nothing })

-- the limit of states is
abbrev pub with_states : Options → Option ℕ → Option Options
with_states options None = None
with_states options (Some number) =
    Some (record options { states = Some number; awaited = awaits.Nothing })

-- a word behind options, where this is awaited
abbrev pub word_where : Options → Awaited → (word : List ℕ) → Option Options
word_where options awaits.Nothing word = awaiting options (option_in options word)
word_where options awaits.RuleName word = with_rule options (rule_of word)
word_where options awaits.EndNumber word = with_show options (number_of word)
word_where options awaits.StateCount word = with_states options (number_of word)

-- options with one more word, if it may stand there
abbrev pub take_word : Options → (word : List ℕ) → Option Options
take_word options word = word_where options options.awaited word

-- the rule, which is tmig's own where none is chosen
abbrev pub rule_or : Option Rule → Rule
rule_or None = rules.Tmig
rule_or (Some rule) = rule

-- the limit of states
abbrev pub states_or : Option ℕ → ℕ
states_or None = MOST_STATES
states_or (Some states) = states

-- what options ask for, if nothing is awaited any more
abbrev pub asked_where : Options → Awaited → Option Asked
asked_where options awaits.Nothing = Some (record {
  rule = rule_or options.rule;
  show = options.show;
  states = states_or options.states;
})
asked_where options awaits.RuleName = None
asked_where options awaits.EndNumber = None
asked_where options awaits.StateCount = None

-- what options ask for
abbrev pub asked_of : Options → Option Asked
asked_of options = asked_where options options.awaited

-- nothing is chosen
abbrev pub first_options : Options
first_options = record { rule = None; show = None; states = None; awaited = awaits.Nothing }

-- what further words ask for, where options came before, if they came
unfoldable pub options_behind : Option Options → List (String Global) → Option Asked
options_behind None words = None
options_behind (Some options) [] = asked_of options
options_behind (Some options) (word ∷ rest) =
    options_behind (take_word options (string_bytes word)) rest

-- what the words behind `orders` ask for
abbrev pub options_from : Options → List (String Global) → Option Asked
options_from options words = options_behind (Some options) words

-- WHAT THE PROGRAM'S WORDS ASK FOR: `orders` with its options, in any order, each at most once
abbrev pub asked_in : List (String Global) → Option Asked
asked_in [] = None
asked_in (word ∷ rest) =
    if bytes_eq (string_bytes word) (codes "orders") then options_from first_options rest
    else None

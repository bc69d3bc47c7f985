-- Judging a line: by its place, and by what the lines before it said.
use Rattle.std.specs.Prelude.{ℕ, ◌+◌, ◌*◌, ◌^◌, List, [], ◌∷◌, map, codes, Bool, true, false, not}
use Rattle.std.specs.Prelude.{◌&&◌, ◌==◌, nat_lt, nat_le, Option, Some, None, is_some}
use Rattle.std.specs.Prelude.{if◌then◌else◌}
use Rattle.std.specs.List.{list_any, range_with_len}
use Rattle.std.specs.Str.{bytes_eq}
use Rattle.text_words.specs.Numbers.{is_number, value_of}
use Rattle.tm_base.specs.declared.limits.TheConstants.{MOST_NODES, MOST_NODE_CPUS, MOST_TIMERS}
use Rattle.tm_base.specs.declared.limits.TheConstants.{MOST_OPS, MOST_LINES, SCRIPT_TIME_LIMIT}
use Rattle.tm_script.specs.declared.faults.Kind.{Kind}
use Rattle.tm_script.specs.declared.faults.Kind.TheVariants.{BadLine, BadNumber, OutOfRange}
use Rattle.tm_script.specs.declared.faults.Kind.TheVariants.{OutOfOrder, TooManyLines}
use Rattle.tm_script.specs.declared.known.Place.{Place}
use Rattle.tm_script.specs.declared.known.Place.TheVariants.{VersionLine, NodesLine, CpusLine}
use Rattle.tm_script.specs.declared.known.Place.TheVariants.{TimersLine, IsolatedLine, Body}
use Rattle.tm_script.specs.declared.known.Command.{Command}
use Rattle.tm_script.specs.declared.known.Command.TheVariants.{Tmig, Nodes, Cpus, Timers, Isolated}
use Rattle.tm_script.specs.declared.known.Command.TheVariants.{At, End, Arm, Cancel, Idle, Wake}
use Rattle.tm_script.specs.declared.known.Command.TheVariants.{Offline, Online}
use Rattle.tm_script.specs.declared.known.Known.{Known}
use Rattle.tm_script.specs.Grammar.{most_cpus}

-- ---- which words a line has

-- how a first word is spelled
abbrev pub word_of : Command → List ℕ
word_of Tmig = codes "tmig"
word_of Nodes = codes "nodes"
word_of Cpus = codes "cpus"
word_of Timers = codes "timers"
word_of Isolated = codes "isolated"
word_of At = codes "at"
word_of End = codes "end"
word_of Arm = codes "arm"
word_of Cancel = codes "cancel"
word_of Idle = codes "idle"
word_of Wake = codes "wake"
word_of Offline = codes "offline"
word_of Online = codes "online"

-- which first words may stand at a place; operations stand inside a moment
abbrev pub may_stand : Place → Bool → Command → Bool
may_stand VersionLine inside Tmig = true
may_stand NodesLine inside Nodes = true
may_stand CpusLine inside Cpus = true
may_stand TimersLine inside Timers = true
may_stand IsolatedLine inside Isolated = true
may_stand Body inside At = true
may_stand Body inside End = true
may_stand Body inside Arm = inside
may_stand Body inside Cancel = inside
may_stand Body inside Idle = inside
may_stand Body inside Wake = inside
may_stand Body inside Offline = inside
may_stand Body inside Online = inside
may_stand _ inside _ = false

-- what stands in the place of a word: one of these words, or a number from `least` up to below
-- `bound`
pub data Slot : Type 0 where
  one_of : (choices : List (List ℕ)) → Slot
  number : (least bound : ℕ) → Slot

-- the place of a word that names a CPU
abbrev pub cpu : Known → Slot
cpu k = number 0 (k.nodes * k.cpus)

-- the place of a word that names a timer
abbrev pub timer : Known → Slot
timer k = number 0 k.timers

-- the place of a word that names a jiffy
abbrev pub time : Slot
time = number 0 SCRIPT_TIME_LIMIT

-- the words of classes that a version has
abbrev pub class_words : ℕ → List (List ℕ)
class_words version =
    codes "pinned" ∷ codes "global" ∷ (if version == 1 then [] else (codes "deferrable" ∷ []))

-- what stands behind a first word; behind `isolated` there may be any number of words
abbrev pub slots : Known → Command → List (List ℕ) → List Slot
slots k Tmig words = one_of (codes "1" ∷ codes "2" ∷ []) ∷ []
slots k Nodes words = number 1 (MOST_NODES + 1) ∷ []
slots k Cpus words = number 1 (MOST_NODE_CPUS + 1) ∷ []
slots k Timers words = number 1 (MOST_TIMERS + 1) ∷ []
slots k Isolated words = map (λ word. cpu k) words
slots k At words = time ∷ []
slots k End words = time ∷ []
slots k Arm words =
    cpu k ∷ timer k ∷ one_of (class_words k.version)
    ∷ number 0 (2 ^ 32) ∷ number 0 256 ∷ number 0 (2 ^ 32) ∷ []
slots k Cancel words = cpu k ∷ timer k ∷ []
slots k Idle words = cpu k ∷ []
slots k Wake words = cpu k ∷ []
slots k Offline words = cpu k ∷ []
slots k Online words = cpu k ∷ []

-- ---- what is wrong with a line

-- there are as many words as slots, and each passes at its slot
abbrev pub all_pass : (Slot → List ℕ → Bool) → List Slot → List (List ℕ) → Bool
all_pass test [] [] = true
all_pass test (s ∷ ss) (w ∷ ws) = test s w && all_pass test ss ws
all_pass test _ _ = false

-- a word that has to be one of some words is
abbrev pub is_choice : Slot → List ℕ → Bool
is_choice (one_of choices) word = list_any (bytes_eq word) choices
is_choice (number least bound) word = true

-- a word in a number's place is spelled as a number
abbrev pub is_spelled : Slot → List ℕ → Bool
is_spelled (one_of choices) word = true
is_spelled (number least bound) word = is_number word

-- a number is within its limits
abbrev pub is_within : Slot → List ℕ → Bool
is_within (one_of choices) word = true
is_within (number least bound) word = nat_le least (value_of word) && nat_lt (value_of word) bound

-- whether a number is after another one, where there is that
abbrev pub is_after : Option ℕ → ℕ → Bool
is_after None n = true
is_after (Some last) n = nat_lt last n

-- whether an end isn't before the last time, where there is one
abbrev pub is_reached : Option ℕ → ℕ → Bool
is_reached None end = true
is_reached (Some last) end = nat_le last end

-- whether numbers rise
abbrev pub rise : Option ℕ → List ℕ → Bool
rise last [] = true
rise last (n ∷ ns) = is_after last n && rise (Some n) ns

-- whether some CPU below count isn't named
abbrev pub leaves_some : ℕ → List ℕ → Bool
leaves_some count named =
    list_any (λ c. not (list_any (λ n. n == c) named)) (range_with_len 0 count)

-- The machine has few enough CPUs, and some CPU is placed.
abbrev pub is_machine : Known → Command → List ℕ → Bool
is_machine k Cpus (cpus ∷ _) = nat_le (k.nodes * cpus) (most_cpus k.version)
is_machine k Isolated named = leaves_some (k.nodes * k.cpus) named
is_machine k _ _ = true

-- whether a command is an operation
abbrev pub is_operation : Command → Bool
is_operation Arm = true
is_operation Cancel = true
is_operation Idle = true
is_operation Wake = true
is_operation Offline = true
is_operation Online = true
is_operation _ = false

-- Times ascend, the end isn't before the last of them, and isolated CPUs rise. In a moment no
-- operation follows `offline` or `online`.
abbrev pub is_in_order : Known → Command → List ℕ → Bool
is_in_order k At (at ∷ _) = is_after k.last at
is_in_order k End (end ∷ _) = is_reached k.last end
is_in_order k Isolated named = rise None named
is_in_order k command numbers = not (is_operation command && k.closed)

-- There are not too many lines, and not too many operations in the moment.
abbrev pub is_in_room : Known → Command → Bool
is_in_room k command =
    nat_le k.line MOST_LINES && not (is_operation command && nat_le MOST_OPS k.ops)

-- the first kind of fault, in the order of the kinds, that a line of this first word and these
-- words behind it has
unfoldable pub kind_behind : Known → Command → List (List ℕ) → Option Kind
kind_behind k command words =
    if not (may_stand k.place (is_some k.last) command
    && all_pass is_choice (slots k command words) words)
    then Some BadLine
    else if not (all_pass is_spelled (slots k command words) words)
    then Some BadNumber
    else if not (all_pass is_within (slots k command words) words
    && is_machine k command (map value_of words))
    then Some OutOfRange
    else if not (is_in_order k command (map value_of words))
    then Some OutOfOrder
    else if not (is_in_room k command)
    then Some TooManyLines
    else None

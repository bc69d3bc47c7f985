-- The first fault of a text: its lines are judged one by one, each by what those before it said.
use Rattle.std.specs.Prelude.{◌≡◌, ◌↔◌, ℕ, ◌+◌, List, [], ◌∷◌, map, codes, Bool, true, false, ◌==◌}
use Rattle.std.specs.Prelude.{Option, Some, None, Result, Ok, Err, find, slice_index_or}
use Rattle.std.specs.Prelude.{if◌then◌else◌}
use Rattle.std.specs.Str.{bytes_eq}
use Rattle.std.specs.FinSet.{from_list}
use Rattle.std.specs.Ordering.{nat_cmp}
use Rattle.text_words.specs.Numbers.{value_of}
use Rattle.text_words.specs.Words.{lines_of, words_of}
use Rattle.tm_base.specs.declared.names.Class.{Class}
use Rattle.tm_base.specs.declared.names.Class.TheVariants.{Pinned, Global, Deferrable}
use Rattle.tm_script.specs.declared.faults.ScriptFault.{ScriptFault}
use Rattle.tm_script.specs.declared.faults.Kind.{Kind}
use Rattle.tm_script.specs.declared.faults.Kind.TheVariants.{BadLine, NoEnd}
use Rattle.tm_script.specs.declared.syntax.Script.{Script}
use Rattle.tm_script.specs.declared.syntax.What.TheVariants as what
use Rattle.tm_script.specs.declared.known.Place.{Place}
use Rattle.tm_script.specs.declared.known.Place.TheVariants.{VersionLine, NodesLine, CpusLine}
use Rattle.tm_script.specs.declared.known.Place.TheVariants.{TimersLine, IsolatedLine, Body, Over}
use Rattle.tm_script.specs.declared.known.Command.{Command}
use Rattle.tm_script.specs.declared.known.Command.TheVariants.{Tmig, Nodes, Cpus, Timers, Isolated}
use Rattle.tm_script.specs.declared.known.Command.TheVariants.{At, End, Arm, Cancel, Idle, Wake}
use Rattle.tm_script.specs.declared.known.Command.TheVariants.{Offline, Online}
use Rattle.tm_script.specs.declared.known.Known.{Known}
use Rattle.tm_script.specs.declared.known.Said.{Said}
use Rattle.tm_script.specs.declared.known.Said.TheVariants.{Version, NodeCount, CpuCount}
use Rattle.tm_script.specs.declared.known.Said.TheVariants.{TimerCount, IsolatedCpus, Opening}
use Rattle.tm_script.specs.declared.known.Said.TheVariants.{Operation, Ending}
use Rattle.tm_script.specs.Grammar.{is_hotplug, Spells}
use Rattle.tm_script.specs.Judge.{word_of, kind_behind}

-- ---- what a line says

-- the commands of a script, each by its first word
abbrev pub all_commands : List Command
all_commands =
    Tmig ∷ Nodes ∷ Cpus ∷ Timers ∷ Isolated ∷ At ∷ End
    ∷ Arm ∷ Cancel ∷ Idle ∷ Wake ∷ Offline ∷ Online ∷ []

-- the first word that is spelled so
unfoldable pub command_of : List ℕ → Option Command
command_of word = find (λ command. bytes_eq word (word_of command)) all_commands

-- word i of a line
abbrev pub word_at : List (List ℕ) → ℕ → List ℕ
word_at words i = slice_index_or words i []

-- the number that word i of a line spells
abbrev pub number_at : List (List ℕ) → ℕ → ℕ
number_at words i = value_of (word_at words i)

-- the class that a word names
unfoldable pub class_named : List ℕ → Class
class_named word =
    if bytes_eq word (codes "pinned") then Pinned
    else if bytes_eq word (codes "global") then Global
    else Deferrable

-- what a line without fault says, by the words behind its first
unfoldable pub said_behind : Command → List (List ℕ) → Said
said_behind Tmig ws = Version (number_at ws 0)
said_behind Nodes ws = NodeCount (number_at ws 0)
said_behind Cpus ws = CpuCount (number_at ws 0)
said_behind Timers ws = TimerCount (number_at ws 0)
said_behind Isolated ws = IsolatedCpus (from_list {R = nat_cmp} (map value_of ws))
said_behind At ws = Opening (number_at ws 0)
said_behind End ws = Ending (number_at ws 0)
said_behind Arm ws =
    Operation (record { 0 = number_at ws 0 })
    (what.Arm (record { 0 = number_at ws 1 }) (class_named (word_at ws 2))
    (number_at ws 3) (number_at ws 4) (number_at ws 5))
said_behind Cancel ws =
    Operation (record { 0 = number_at ws 0 }) (what.Cancel (record { 0 = number_at ws 1 }))
said_behind Idle ws = Operation (record { 0 = number_at ws 0 }) what.Idle
said_behind Wake ws = Operation (record { 0 = number_at ws 0 }) what.Wake
said_behind Offline ws = Operation (record { 0 = number_at ws 0 }) what.Offline
said_behind Online ws = Operation (record { 0 = number_at ws 0 }) what.Online

-- ---- the first fault

-- what is known before the first line
abbrev pub beginning : Known
beginning = record {
  line = 1;
  place = VersionLine;
  version = 0;
  nodes = 0;
  cpus = 0;
  timers = 0;
  last = None;
  ops = 0;
  closed = false;
}

-- what is known behind a line
abbrev pub known_after : Known → Said → Known
known_after k (Version version) =
    record k { line = k.line + 1; place = NodesLine; version = version }
known_after k (NodeCount nodes) = record k { line = k.line + 1; place = CpusLine; nodes = nodes }
known_after k (CpuCount cpus) = record k { line = k.line + 1; place = TimersLine; cpus = cpus }
known_after k (TimerCount timers) =
    record k {
      line = k.line + 1;
      place = if k.version == 1 then Body else IsolatedLine;
      timers = timers;
    }
known_after k (IsolatedCpus isolated) = record k { line = k.line + 1; place = Body }
known_after k (Opening at) =
    record k { line = k.line + 1; last = Some at; ops = 0; closed = false }
known_after k (Operation cpu done) =
    record k { line = k.line + 1; ops = k.ops + 1; closed = is_hotplug done }
known_after k (Ending end) = record k { line = k.line + 1; place = Over }

-- what a line says, where it has no fault
abbrev pub said_or : Option Kind → Said → Result Said Kind
said_or None said = Ok said
said_or (Some kind) said = Err kind

-- what a line says by its command and the words behind it, or its first kind of fault
abbrev pub heard_behind : Known → Option Command → List (List ℕ) → Result Said Kind
heard_behind k None words = Err BadLine
heard_behind k (Some command) words =
    said_or (kind_behind k command words) (said_behind command words)

-- what a line says, by its words, or the first kind of fault that it has
unfoldable pub heard : Known → List (List ℕ) → Result Said Kind
heard k [] = Err BadLine
heard k (first ∷ behind) = heard_behind k (command_of first) behind

-- a fault of this kind, on the line that is read
abbrev pub fault_at : Known → Kind → Option ScriptFault
fault_at k kind = Some (record { line = k.line; kind = kind })

-- no further line is needed
abbrev pub is_over : Place → Bool
is_over Over = true
is_over _ = false

-- What is wrong at the end of the input, by what stands behind the last line feed: a line that
-- isn't ended, or a further line that is needed.
abbrev pub fault_at_end : Known → List ℕ → Option ScriptFault
fault_at_end k (b ∷ bs) = fault_at k BadLine
fault_at_end k [] = if is_over k.place then None else fault_at k NoEnd

-- the fault of this line, or else what later ones have
abbrev pub fault_or : Known → Result Said Kind → (Known → Option ScriptFault) → Option ScriptFault
fault_or k (Err kind) later = fault_at k kind
fault_or k (Ok said) later = later (known_after k said)

-- The fault of the first line that has one, of these lines and of what stands behind the last
-- line feed.
unfoldable pub fault_from : List (List ℕ) → Known → Option ScriptFault
fault_from [] k = None
fault_from (rest ∷ []) k = fault_at_end k rest
fault_from (line ∷ next ∷ more) k = fault_or k (heard k (words_of line)) (fault_from (next ∷ more))

-- the first fault of a text
abbrev pub fault_of : List ℕ → Option ScriptFault
fault_of bytes = fault_from (lines_of bytes) beginning

-- a text has no fault exactly where it is a script's
abbrev pub FaultsTell : Type 0
FaultsTell = (bytes : List ℕ) → (fault_of bytes ≡ None) ↔ ((s : Script) × Spells bytes s)

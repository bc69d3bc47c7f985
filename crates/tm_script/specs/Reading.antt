-- reading a script as the code does it; no public clause speaks of this
use Rattle.std.specs.Prelude.{◌≡◌, ℕ, ◌+◌, ◌*◌, ◌^◌, List, [], ◌∷◌, ◌++◌, codes, Bool, true, false}
use Rattle.std.specs.Prelude.{not, ◌&&◌, ◌||◌, ◌==◌, nat_lt, nat_le, Option, Some, None, is_some}
use Rattle.std.specs.Prelude.{find, Result, Ok, Err, if◌then◌else◌}
use Rattle.std.specs.List.{list_any, range_with_len}
use Rattle.std.specs.Str.{bytes_eq}
use Rattle.std.specs.FinSet.{empty, insert, contains}
use Rattle.text_words.specs.Numbers.{is_number, value_of}
use Rattle.text_words.specs.Words.{words_of}
use Rattle.tm_base.specs.CpuSet.{Cpus as CpuNumbers}
use Rattle.tm_base.specs.declared.names.Class.{Class}
use Rattle.tm_base.specs.declared.names.Class.TheVariants.{Pinned, Global, Deferrable}
use Rattle.tm_base.specs.declared.limits.TheConstants.{MOST_NODES, MOST_NODE_CPUS, MOST_TIMERS}
use Rattle.tm_base.specs.declared.limits.TheConstants.{MOST_OPS, MOST_LINES, SCRIPT_TIME_LIMIT}
use Rattle.tm_script.specs.declared.faults.Kind.{Kind}
use Rattle.tm_script.specs.declared.faults.Kind.TheVariants.{BadLine, BadNumber, OutOfRange}
use Rattle.tm_script.specs.declared.faults.Kind.TheVariants.{OutOfOrder, NoEnd, TooManyLines}
use Rattle.tm_script.specs.declared.faults.ScriptFault.{ScriptFault}
use Rattle.tm_script.specs.declared.faults.ReadScript.{ReadScript}
use Rattle.tm_script.specs.declared.faults.ReadScript.TheVariants.{Refused, NoMemory}
use Rattle.tm_script.specs.declared.syntax.Script.{Script}
use Rattle.tm_script.specs.declared.syntax.Moment.{Moment}
use Rattle.tm_script.specs.declared.syntax.Op.{Op}
use Rattle.tm_script.specs.declared.syntax.What.{What}
use Rattle.tm_script.specs.declared.syntax.What.TheVariants as what
use Rattle.tm_script.specs.declared.known.Command.{Command}
use Rattle.tm_script.specs.declared.known.Command.TheVariants.{Tmig, Nodes, Cpus, Timers, Isolated}
use Rattle.tm_script.specs.declared.known.Command.TheVariants.{At, End, Arm, Cancel, Idle, Wake}
use Rattle.tm_script.specs.declared.known.Command.TheVariants.{Offline, Online}
use Rattle.tm_script.specs.declared.known.Known.{Known}
use Rattle.tm_script.specs.declared.known.Said.{Said}
use Rattle.tm_script.specs.declared.known.Said.TheVariants.{Version, NodeCount, CpuCount}
use Rattle.tm_script.specs.declared.known.Said.TheVariants.{TimerCount, IsolatedCpus, Opening}
use Rattle.tm_script.specs.declared.known.Said.TheVariants.{Operation, Ending}
use Rattle.tm_script.specs.declared.isolated.Named.{Named}
use Rattle.tm_script.specs.declared.draft.Draft.{Draft}
use Rattle.tm_script.specs.Grammar.{most_cpus}
use Rattle.tm_script.specs.Judge.{word_of, may_stand, is_after, is_reached}
use Rattle.tm_script.specs.Faults.{command_of, known_after, beginning, is_over, heard}

-- a step, and what follows it where it gave something
infixl 10 ◌>>=◌
-- what comes of an answer, unless it is a fault
abbrev pub ◌>>=◌ : {A B E : Type 0} → Result A E → (A → Result B E) → Result B E
(Ok x) >>= f = f x
(Err e) >>= f = Err e

-- ---- words

-- the words behind a first one, which may be none
abbrev pub words_behind : Option (List ℕ) → List (List ℕ)
words_behind None = []
words_behind (Some bytes) = words_of bytes

-- the one word that there is
abbrev pub only : List (List ℕ) → Result (List ℕ) Kind
only (w ∷ []) = Ok w
only _ = Err BadLine

-- a word behind which further ones stand
abbrev pub front : List (List ℕ) → Result (List ℕ × List (List ℕ)) Kind
front (v ∷ w ∷ ws) = Ok (v, w ∷ ws)
front _ = Err BadLine

-- the number that a word spells
unfoldable pub number_in : List ℕ → Result ℕ Kind
number_in word = if is_number word then Ok (value_of word) else Err BadNumber

-- the version that a word names
unfoldable pub version_in : List ℕ → Result ℕ Kind
version_in word =
    if bytes_eq word (codes "1") then Ok 1
    else if bytes_eq word (codes "2") then Ok 2
    else Err BadLine

-- the class that a word names, in a version
unfoldable pub class_in : ℕ → List ℕ → Result Class Kind
class_in version word =
    if bytes_eq word (codes "pinned") then Ok Pinned
    else if bytes_eq word (codes "global") then Ok Global
    else if not (version == 1) && bytes_eq word (codes "deferrable") then Ok Deferrable
    else Err BadLine

-- the operation that is spelled so
unfoldable pub operation_of : List ℕ → Option Command
operation_of word =
    find (λ command. bytes_eq word (word_of command))
    (Arm ∷ Cancel ∷ Idle ∷ Wake ∷ Offline ∷ Online ∷ [])

-- a number that is at least `least` and below `bound`
unfoldable pub within : ℕ → ℕ → ℕ → Result ℕ Kind
within least bound n = if nat_le least n && nat_lt n bound then Ok n else Err OutOfRange

-- ---- the isolated CPUs

-- the numbers so far: those in range, the last of all, whether one was out of range, and whether
-- one didn't rise
abbrev pub with_number : ℕ → Named → ℕ → Named
with_number count s n = record {
  cpus = if nat_lt n count then insert s.cpus n else s.cpus;
  last = Some n;
  far = s.far || not (nat_lt n count);
  falls = s.falls || not (is_after s.last n);
}

-- no isolated CPU was read yet
abbrev pub no_numbers : Named
no_numbers = record { cpus = empty; last = None; far = false; falls = false }

-- whether some CPU below count isn't in the set
unfoldable pub spares : ℕ → CpuNumbers → Bool
spares count cpus = list_any (λ c. not (contains cpus c)) (range_with_len 0 count)

-- the isolated CPUs of which these numbers were read
unfoldable pub isolated_by : ℕ → Named → Result CpuNumbers Kind
isolated_by count s =
    if s.far || not (spares count s.cpus) then Err OutOfRange
    else if s.falls then Err OutOfOrder
    else Ok s.cpus

-- the set of the numbers so far and of further words
unfoldable pub isolated_from : ℕ → Named → List (List ℕ) → Result CpuNumbers Kind
isolated_from count s [] = isolated_by count s
isolated_from count s (w ∷ ws) = number_in w >>= λ n. isolated_from count (with_number count s n) ws

-- ---- a line

-- the six words behind `arm`
pub record ArmParts : Type 0 where
  pub cpu : List ℕ
  pub timer : List ℕ
  pub class : List ℕ
  pub delay : List ℕ
  pub job : List ℕ
  pub arg : List ℕ

-- the words of an `arm` line, in order
unfoldable pub arm_parts : List (List ℕ) → Result ArmParts Kind
arm_parts words = do
  cpu ← front words
  timer ← front cpu.1
  class ← front timer.1
  delay ← front class.1
  job ← front delay.1
  arg ← only job.1
  Ok (record {
    cpu = cpu.0;
    timer = timer.0;
    class = class.0;
    delay = delay.0;
    job = job.0;
    arg = arg;
  })

-- how many CPUs the machine has
abbrev pub count_in : Known → ℕ
count_in k = k.nodes * k.cpus

-- what an `arm` line says
unfoldable pub arm_in : Known → List (List ℕ) → Result Said Kind
arm_in k words = do
  parts ← arm_parts words
  class ← class_in k.version parts.class
  cpu ← number_in parts.cpu
  timer ← number_in parts.timer
  delay ← number_in parts.delay
  job ← number_in parts.job
  arg ← number_in parts.arg
  if nat_lt cpu (count_in k) && nat_lt timer k.timers
      && nat_lt delay (2 ^ 32) && nat_lt job 256 && nat_lt arg (2 ^ 32)
      then Ok (Operation (record { 0 = cpu }) (what.Arm (record { 0 = timer }) class delay job arg))
      else Err OutOfRange

-- what a `cancel` line says
unfoldable pub cancel_in : Known → List (List ℕ) → Result Said Kind
cancel_in k words = do
  first ← front words
  second ← only first.1
  cpu ← number_in first.0
  timer ← number_in second
  if nat_lt cpu (count_in k) && nat_lt timer k.timers
      then Ok (Operation (record { 0 = cpu }) (what.Cancel (record { 0 = timer })))
      else Err OutOfRange

-- one number within these limits
unfoldable pub field_in : ℕ → ℕ → List (List ℕ) → Result ℕ Kind
field_in least bound words = do
  word ← only words
  n ← number_in word
  within least bound n

-- what the `cpus` line says
unfoldable pub cpus_in : Known → List (List ℕ) → Result Said Kind
cpus_in k words = do
  n ← field_in 1 (MOST_NODE_CPUS + 1) words
  if nat_le (k.nodes * n) (most_cpus k.version) then Ok (CpuCount n) else Err OutOfRange

-- what a line says that names one CPU
unfoldable pub cpu_in : Known → List (List ℕ) → What → Result Said Kind
cpu_in k words done = do
  n ← field_in 0 (count_in k) words
  Ok (Operation (record { 0 = n }) done)

-- what the words behind a first one say, with no regard to order and room
unfoldable pub words_in : Known → Command → List (List ℕ) → Result Said Kind
words_in k Tmig ws = only ws >>= version_in >>= λ n. Ok (Version n)
words_in k Nodes ws = field_in 1 (MOST_NODES + 1) ws >>= λ n. Ok (NodeCount n)
words_in k Cpus ws = cpus_in k ws
words_in k Timers ws = field_in 1 (MOST_TIMERS + 1) ws >>= λ n. Ok (TimerCount n)
words_in k Isolated ws = isolated_from (count_in k) no_numbers ws >>= λ cpus. Ok (IsolatedCpus cpus)
words_in k At ws = field_in 0 SCRIPT_TIME_LIMIT ws >>= λ n. Ok (Opening n)
words_in k End ws = field_in 0 SCRIPT_TIME_LIMIT ws >>= λ n. Ok (Ending n)
words_in k Arm ws = arm_in k ws
words_in k Cancel ws = cancel_in k ws
words_in k Idle ws = cpu_in k ws what.Idle
words_in k Wake ws = cpu_in k ws what.Wake
words_in k Offline ws = cpu_in k ws what.Offline
words_in k Online ws = cpu_in k ws what.Online

-- whether a line stands where times and operations allow it
abbrev pub in_order : Known → Said → Bool
in_order k (Opening at) = is_after k.last at
in_order k (Ending end) = is_reached k.last end
in_order k (Operation cpu done) = not k.closed
in_order k _ = true

-- whether there is room for a line
abbrev pub in_room : Known → Said → Bool
in_room k (Operation cpu done) = nat_le k.line MOST_LINES && not (nat_le MOST_OPS k.ops)
in_room k _ = nat_le k.line MOST_LINES && true

-- what a line says, where it is in order and there is room
abbrev pub admitted : Known → Said → Result Said Kind
admitted k said =
    if not (in_order k said) then Err OutOfOrder
    else if not (in_room k said) then Err TooManyLines
    else Ok said

-- what a line says, by its command and the words behind it
abbrev pub line_behind : Known → Option Command → List (List ℕ) → Result Said Kind
line_behind k None ws = Err BadLine
line_behind k (Some command) ws =
    if may_stand k.place (is_some k.last) command
    then words_in k command ws >>= admitted k else Err BadLine

-- what a line says, by its words
unfoldable pub line_in : Known → List (List ℕ) → Result Said Kind
line_in k [] = Err BadLine
line_in k (first ∷ behind) = line_behind k (command_of first) behind

-- ---- a text

-- nothing so far
abbrev pub start : Draft
start = record { known = beginning; isolated = empty; moments = []; ops = []; end = 0 }

-- the moments of a draft, the open one among them
abbrev pub closed_with : List Moment → Option ℕ → List Op → List Moment
closed_with moments None ops = moments
closed_with moments (Some at) ops = moments ++ record { at = at; ops = ops } ∷ []

-- the moments of a draft, the open one too
abbrev pub closed_moments : Draft → List Moment
closed_moments d = closed_with d.moments d.known.last d.ops

-- a draft with a line more
abbrev pub draft_after : Draft → Said → Draft
draft_after d (IsolatedCpus cpus) =
    record d { known = known_after d.known (IsolatedCpus cpus); isolated = cpus }
draft_after d (Opening at) =
    record d { known = known_after d.known (Opening at); moments = closed_moments d; ops = [] }
draft_after d (Operation cpu done) =
    record d {
      known = known_after d.known (Operation cpu done);
      ops = d.ops ++ record { line = d.known.line; cpu = cpu; what = done } ∷ [];
    }
draft_after d (Ending end) =
    record d {
      known = known_after d.known (Ending end);
      moments = closed_moments d;
      ops = [];
      end = end;
    }
draft_after d said = record d { known = known_after d.known said }

-- the script of a draft
abbrev pub script_of : Draft → Script
script_of d = record {
  version = d.known.version;
  nodes = d.known.nodes;
  cpus = d.known.cpus;
  timers = d.known.timers;
  isolated = d.isolated;
  moments = d.moments;
  end = d.end;
}

-- a fault of this kind, on the line that is read
abbrev pub fault_in : Known → Kind → ScriptFault
fault_in k kind = record { line = k.line; kind = kind }

-- what a draft gives at the end of the input
unfoldable pub finished : Draft → List ℕ → Result Script ScriptFault
finished d (b ∷ bs) = Err (fault_in d.known BadLine)
finished d [] = if is_over d.known.place then Ok (script_of d) else Err (fault_in d.known NoEnd)

-- reading goes on behind a line without fault, and ends at one with a fault
abbrev pub go_on : Draft → Result Said Kind → (Draft → Result Script ScriptFault)
    → Result Script ScriptFault
go_on d (Err kind) rest = Err (fault_in d.known kind)
go_on d (Ok said) rest = rest (draft_after d said)

-- the script of a draft and further lines; the last part is what stands behind the last line feed
unfoldable pub read_from : List (List ℕ) → Draft → Result Script ScriptFault
read_from [] d = Err (fault_in d.known NoEnd)
read_from (rest ∷ []) d = finished d rest
read_from (line ∷ next ∷ more) d = go_on d (heard d.known (words_of line)) (read_from (next ∷ more))

-- What a function returned is what reading gives; want of memory may stand for either.
abbrev pub Fails : ReadScript → Result Script ScriptFault → Type 0
Fails (Refused fault) read = read ≡ Err fault
Fails NoMemory read = Unit {0}

-- a function gives what reading gives, or says that memory was wanting
abbrev pub Gives : Result Script ReadScript → Result Script ScriptFault → Type 0
Gives (Ok s) read = read ≡ Ok s
Gives (Err e) read = Fails e read

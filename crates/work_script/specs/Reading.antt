-- what the lines of a script of works say, or the first fault among them
use Rattle.std.specs.Prelude.{ℕ, ◌+◌, ◌&&◌, List, [], ◌∷◌, codes, find, Bool, true, Option}
use Rattle.std.specs.Prelude.{Some, None, is_some, Result, Ok, Err, nat_le, nat_lt}
use Rattle.std.specs.Prelude.{slice_index_or, if◌then◌else◌}
use Rattle.std.specs.Str.{bytes_eq}
use Rattle.text_words.specs.Numbers.{is_number, value_of}
use Rattle.text_words.specs.Words.{words_of}
use Rattle.tm_base.specs.declared.limits.TheConstants.{MOST_TIMERS, MOST_OPS, MOST_LINES}
use Rattle.tm_base.specs.declared.limits.TheConstants.{SCRIPT_TIME_LIMIT}
use Rattle.tm_script.specs.declared.faults.Kind.{Kind}
use Rattle.tm_script.specs.declared.faults.Kind.TheVariants.{BadLine, BadNumber, OutOfRange}
use Rattle.tm_script.specs.declared.faults.Kind.TheVariants.{OutOfOrder, NoEnd, TooManyLines}
use Rattle.tm_script.specs.declared.faults.ScriptFault.{ScriptFault}
use Rattle.tm_script.specs.Judge.{is_after, is_reached}
use Rattle.work_script.specs.declared.syntax.WorkMoment.{WorkMoment}
use Rattle.work_script.specs.declared.syntax.WorkOp.{WorkOp}
use Rattle.work_script.specs.declared.syntax.WorkOp.TheVariants as ops
use Rattle.work_script.specs.declared.words.TheConstants.{JOB_LIMIT, DELAY_LIMIT, ARG_LIMIT}
use Rattle.work_script.specs.declared.words.NumberSlot.{NumberSlot}
use Rattle.work_script.specs.declared.words.WorkCommand.{WorkCommand}
use Rattle.work_script.specs.declared.words.WorkCommand.TheVariants.{At, Queue, Cancel, End}
use Rattle.work_script.specs.declared.words.WorkKnown.{WorkKnown}
use Rattle.work_script.specs.declared.words.WorkSaid.{WorkSaid}
use Rattle.work_script.specs.declared.words.WorkSaid.TheVariants.{Opening, Operation, Ending}

-- ---- numbers

-- the number that a word spells, where it is within its limits
unfoldable pub number_for : NumberSlot → List ℕ → Result ℕ Kind
number_for slot word =
    if is_number word
    then (if nat_le slot.least (value_of word) && nat_lt (value_of word) slot.bound
    then Ok (value_of word) else Err OutOfRange)
    else Err BadNumber

-- of two kinds of fault in one line the first in their order
abbrev pub first_kind : Kind → Kind → Kind
first_kind BadLine k = BadLine
first_kind BadNumber BadLine = BadLine
first_kind BadNumber k = BadNumber
first_kind OutOfRange BadLine = BadLine
first_kind OutOfRange BadNumber = BadNumber
first_kind OutOfRange k = OutOfRange
first_kind j k = k

-- a number and those behind it, or the first kind of fault
abbrev pub joined_numbers : Result ℕ Kind → Result (List ℕ) Kind → Result (List ℕ) Kind
joined_numbers (Ok n) (Ok ns) = Ok (n ∷ ns)
joined_numbers (Ok n) (Err k) = Err k
joined_numbers (Err j) (Ok ns) = Err j
joined_numbers (Err j) (Err k) = Err (first_kind j k)

-- the numbers that words spell at these places, or the first kind of fault that they have; there is
-- a word for each place
unfoldable pub numbers_of : List NumberSlot → List (List ℕ) → Result (List ℕ) Kind
numbers_of [] [] = Ok []
numbers_of [] (w ∷ ws) = Err BadLine
numbers_of (s ∷ ss) [] = Err BadLine
numbers_of (s ∷ ss) (w ∷ ws) = joined_numbers (number_for s w) (numbers_of ss ws)

-- the number at a place
abbrev pub number_at_place : List ℕ → ℕ → ℕ
number_at_place numbers i = slice_index_or numbers i 0

-- ---- lines

-- how a first word is spelled
abbrev pub work_word_of : WorkCommand → List ℕ
work_word_of At = codes "at"
work_word_of Queue = codes "queue"
work_word_of Cancel = codes "cancel"
work_word_of End = codes "end"

-- the first word that is spelled so
unfoldable pub work_command_of : List ℕ → Option WorkCommand
work_command_of word =
    find (λ command. bytes_eq word (work_word_of command)) (At ∷ Queue ∷ Cancel ∷ End ∷ [])

-- the place of a number below a bound
abbrev pub below : (bound : ℕ) → NumberSlot
below bound = record { least = 0; bound = bound }

-- the place of the number of works
abbrev pub count_slot : NumberSlot
count_slot = record { least = 1; bound = MOST_TIMERS + 1 }

-- what has to stand behind a first word, where there are so many works
abbrev pub slots_of : (count : ℕ) → WorkCommand → List NumberSlot
slots_of count At = below SCRIPT_TIME_LIMIT ∷ []
slots_of count Queue =
    below count ∷ below DELAY_LIMIT ∷ below JOB_LIMIT ∷ below ARG_LIMIT ∷ []
slots_of count Cancel = below count ∷ []
slots_of count End = below SCRIPT_TIME_LIMIT ∷ []

-- what a line of this first word and these numbers says
abbrev pub said_by : WorkCommand → (line : ℕ) → List ℕ → WorkSaid
said_by At line ns = Opening (number_at_place ns 0)
said_by Queue line ns =
    Operation (ops.Queue line (number_at_place ns 0) (number_at_place ns 1)
    (number_at_place ns 2) (number_at_place ns 3))
said_by Cancel line ns = Operation (ops.Cancel line (number_at_place ns 0))
said_by End line ns = Ending (number_at_place ns 0)

-- operations stand inside a moment
abbrev pub may_work_line_stand : (inside : Bool) → WorkCommand → Bool
may_work_line_stand inside Queue = inside
may_work_line_stand inside Cancel = inside
may_work_line_stand inside _ = true

-- times ascend, and the end isn't before the last of them
abbrev pub is_work_in_order : WorkKnown → WorkSaid → Bool
is_work_in_order k (Opening at) = is_after k.last at
is_work_in_order k (Ending end) = is_reached k.last end
is_work_in_order k (Operation op) = true

-- there are not too many lines, and not too many operations in the moment
abbrev pub is_work_in_room : WorkKnown → WorkSaid → Bool
is_work_in_room k (Operation op) = nat_le k.line MOST_LINES && nat_lt k.ops MOST_OPS
is_work_in_room k _ = nat_le k.line MOST_LINES

-- what a line says, where it is in order and there is room
abbrev pub work_admitted : WorkKnown → WorkSaid → Result WorkSaid Kind
work_admitted k said =
    if is_work_in_order k said then (if is_work_in_room k said then Ok said else Err TooManyLines)
    else Err OutOfOrder

-- what a line says by its numbers, if they have no fault
abbrev pub work_said_or : WorkKnown → WorkCommand → Result (List ℕ) Kind → Result WorkSaid Kind
work_said_or k command (Err kind) = Err kind
work_said_or k command (Ok ns) = work_admitted k (said_by command k.line ns)

-- what the words behind a first word say
abbrev pub work_heard_behind : WorkKnown → Option WorkCommand → List (List ℕ) → Result WorkSaid Kind
work_heard_behind k None words = Err BadLine
work_heard_behind k (Some command) words =
    if may_work_line_stand (is_some k.last) command
    then work_said_or k command (numbers_of (slots_of k.count command) words)
    else Err BadLine

-- what a line says, by its words, or the first kind of fault that it has
unfoldable pub work_line_heard : WorkKnown → List (List ℕ) → Result WorkSaid Kind
work_line_heard k [] = Err BadLine
work_line_heard k (first ∷ behind) = work_heard_behind k (work_command_of first) behind

-- ---- the lines of moments and of the end

-- what is known behind a line
abbrev pub work_known_after : WorkKnown → WorkSaid → WorkKnown
work_known_after k (Opening at) = record k { line = k.line + 1; last = Some at; ops = 0 }
work_known_after k (Operation op) = record k { line = k.line + 1; ops = k.ops + 1 }
work_known_after k (Ending end) = record k { line = k.line + 1 }

-- what is still to be read: operations of the open moment, further moments, and the end
pub record WorkBody : Type 0 where
  pub ops : List WorkOp
  pub moments : List WorkMoment
  pub end : ℕ

-- a fault of this line
abbrev pub work_fault_at : (line : ℕ) → Kind → ScriptFault
work_fault_at line kind = record { line = line; kind = kind }

-- where no line feed follows: a further line is missing, or the line isn't ended
abbrev pub unended : (line : ℕ) → List ℕ → ScriptFault
unended line [] = work_fault_at line NoEnd
unended line (b ∷ bs) = work_fault_at line BadLine

-- nothing stands behind the end
abbrev pub work_closing : (line end : ℕ) → List (List ℕ) → Result WorkBody ScriptFault
work_closing line end ([] ∷ []) = Ok (record { ops = []; moments = []; end = end })
work_closing line end _ = Err (work_fault_at line BadLine)

-- a moment begins in front of what follows
abbrev pub with_moment : (at : ℕ) → Result WorkBody ScriptFault → Result WorkBody ScriptFault
with_moment at (Err fault) = Err fault
with_moment at (Ok b) =
    Ok (record { ops = []; moments = record { at = at; ops = b.ops } ∷ b.moments; end = b.end })

-- an operation stands in front of what follows
abbrev pub with_op : WorkOp → Result WorkBody ScriptFault → Result WorkBody ScriptFault
with_op op (Err fault) = Err fault
with_op op (Ok b) = Ok (record b { ops = op ∷ b.ops })

-- reading goes on behind a line, ends, or stops at its fault
abbrev pub work_read_on : WorkKnown → Result WorkSaid Kind → List (List ℕ)
    → (WorkKnown → Result WorkBody ScriptFault) → Result WorkBody ScriptFault
work_read_on k (Err kind) parts rest = Err (work_fault_at k.line kind)
work_read_on k (Ok (Opening at)) parts rest =
    with_moment at (rest (work_known_after k (Opening at)))
work_read_on k (Ok (Operation op)) parts rest =
    with_op op (rest (work_known_after k (Operation op)))
work_read_on k (Ok (Ending end)) parts rest = work_closing (k.line + 1) end parts

-- What these parts of a text say, up to the end, or the first fault. The last part is what stands
-- behind the last line feed.
unfoldable pub body_from : List (List ℕ) → WorkKnown → Result WorkBody ScriptFault
body_from [] k = Err (work_fault_at k.line NoEnd)
body_from (rest ∷ []) k = Err (unended k.line rest)
body_from (line ∷ next ∷ more) k =
    work_read_on k (work_line_heard k (words_of line)) (next ∷ more) (body_from (next ∷ more))

-- lists of calls on the bases of a CPU, and what plain bases and a journal make of them
use Rattle.std.specs.Prelude.{◌≡◌, ℕ, ◌+◌, ◌-◌, ◌<◌, ◌≤◌, length, take, List, [], ◌∷◌, None}
use Rattle.tm_base.specs.declared.names.TheConstants.{TIME_LIMIT}
use Rattle.tm_base.specs.declared.names.Class.{Class}
use Rattle.wheel_core.specs.PlainBase.{NoneBehind, next_out}
use Rattle.base_calls.specs.declared.bases.BasesCall.{BasesCall}
use Rattle.base_calls.specs.declared.bases.BasesCall.TheVariants as calls
use Rattle.base_calls.specs.declared.bases.BasesAnswer.{BasesAnswer}
use Rattle.base_calls.specs.declared.bases.BasesAnswer.TheVariants as answers
use Rattle.cpu_bases.specs.Journals.{LegalUpTo, MayHandOut}
use Rattle.cpu_bases.specs.CpuBases.{CpuBases, RoomyBases, armed, base_of, cancelled, class_in}
use Rattle.cpu_bases.specs.CpuBases.{events_of, handed_out, item_in, item_queued, moved_in}
use Rattle.cpu_bases.specs.CpuBases.{moved_out, oldest_in, on_bases, with_room}

-- the answer to a call
abbrev pub answer_of_bases : BasesCall → CpuBases → BasesAnswer
answer_of_bases (calls.Reserve timers entries) cpu = answers.Done
answer_of_bases (calls.Arm now class timer expires job arg line by) cpu =
    answers.Queued (item_queued now class timer.0 expires job arg cpu).wheel
answer_of_bases (calls.Cancel now timer line by) cpu = answers.Gone (item_in timer.0 cpu)
answer_of_bases (calls.TakeDue now class by) cpu = answers.Gone (next_out now (base_of class cpu))
answer_of_bases (calls.MoveOut now class by) cpu =
    answers.Gone (oldest_in (base_of class cpu).items)
answer_of_bases (calls.MoveIn now class timer expires job arg by) cpu =
    answers.Queued (item_queued (now + 1) class timer.0 expires job arg cpu).wheel
answer_of_bases calls.Next cpu = answers.Events (events_of cpu)
answer_of_bases (calls.WhereIs timer) cpu = answers.Place (class_in timer.0 cpu)

-- bases and journal after a call
abbrev pub plain_after_call : BasesCall → CpuBases → CpuBases
plain_after_call (calls.Reserve timers entries) cpu = cpu
plain_after_call (calls.Arm now class timer expires job arg line by) cpu =
    armed now class timer.0 expires job arg line by cpu
plain_after_call (calls.Cancel now timer line by) cpu = cancelled now timer.0 line by cpu
plain_after_call (calls.TakeDue now class by) cpu = handed_out now class by cpu
plain_after_call (calls.MoveOut now class by) cpu = moved_out now class by cpu
plain_after_call (calls.MoveIn now class timer expires job arg by) cpu =
    moved_in now class timer.0 expires job arg by cpu
plain_after_call calls.Next cpu = cpu
plain_after_call (calls.WhereIs timer) cpu = cpu

-- bases, journal and room after a call: no call but `Reserve` changes the room
abbrev pub bases_after_call : BasesCall → RoomyBases → RoomyBases
bases_after_call (calls.Reserve timers entries) all = with_room timers entries all
bases_after_call call all = on_bases (plain_after_call call) all

-- a time that a call may be given, with room for an entry
pub record MayWrite (now : ℕ) (all : RoomyBases) : Type 0 where
  pub now_in_time : now < TIME_LIMIT - 1
  pub entry_room : length all.plain.journal < all.room.entries

-- what `arm` and `move_in` ask
pub record MayPlace (now : ℕ) (class : Class) (timer expires : ℕ) (all : RoomyBases) : Type 0 where
  pub now_in_time : now < TIME_LIMIT - 1
  pub expires_in_time : expires < TIME_LIMIT
  pub room : length (base_of class all.plain).items < all.room.timers
  pub entry_room : length all.plain.journal < all.room.entries
  pub not_queued : class_in timer all.plain ≡ None
  pub none_behind : NoneBehind (base_of class all.plain)

-- a call may be made
abbrev pub MayCallBases : BasesCall → RoomyBases → Type 0
MayCallBases (calls.Reserve timers entries) all = Unit {0}
MayCallBases (calls.Arm now class timer expires job arg line by) all =
    MayPlace now class timer.0 expires all
MayCallBases (calls.Cancel now timer line by) all = MayWrite now all
MayCallBases (calls.TakeDue now class by) all = MayWrite now all
MayCallBases (calls.MoveOut now class by) all = MayWrite now all
MayCallBases (calls.MoveIn now class timer expires job arg by) all =
    MayPlace now class timer.0 expires all
MayCallBases calls.Next all = Unit {0}
MayCallBases (calls.WhereIs timer) all = Unit {0}

-- each call of a list may be made where it stands
abbrev pub MayCallBasesAll : List BasesCall → RoomyBases → Type 0
MayCallBasesAll [] all = Unit {0}
MayCallBasesAll (call ∷ rest) all =
    MayCallBases call all × MayCallBasesAll rest (bases_after_call call all)

-- the time of a call that is given one, else the time before
abbrev pub bases_call_time : BasesCall → ℕ → ℕ
bases_call_time (calls.Reserve timers entries) time = time
bases_call_time (calls.Arm now class timer expires job arg line by) time = now
bases_call_time (calls.Cancel now timer line by) time = now
bases_call_time (calls.TakeDue now class by) time = now
bases_call_time (calls.MoveOut now class by) time = now
bases_call_time (calls.MoveIn now class timer expires job arg by) time = now
bases_call_time calls.Next time = time
bases_call_time (calls.WhereIs timer) time = time

-- a call on the CPU of this number hands out by right
abbrev pub IsByRight : (number : ℕ) → BasesCall → Type 0
IsByRight number (calls.Reserve timers entries) = Unit {0}
IsByRight number (calls.Arm now class timer expires job arg line by) = Unit {0}
IsByRight number (calls.Cancel now timer line by) = Unit {0}
IsByRight number (calls.TakeDue now class by) = MayHandOut number class by.0
IsByRight number (calls.MoveOut now class by) = Unit {0}
IsByRight number (calls.MoveIn now class timer expires job arg by) = Unit {0}
IsByRight number calls.Next = Unit {0}
IsByRight number (calls.WhereIs timer) = Unit {0}

-- each call is given a time that isn't before the last, and hands out by right
abbrev pub InOrder : (number time : ℕ) → List BasesCall → Type 0
InOrder number time [] = Unit {0}
InOrder number time (call ∷ rest) =
    (time ≤ bases_call_time call time) × IsByRight number call
    × InOrder number (bases_call_time call time) rest

-- the time after a list of calls
abbrev pub time_after_calls : ℕ → List BasesCall → ℕ
time_after_calls time [] = time
time_after_calls time (call ∷ rest) = time_after_calls (bases_call_time call time) rest

-- the answers to a list of calls, in order
abbrev pub answers_of_bases : List BasesCall → RoomyBases → List BasesAnswer
answers_of_bases [] all = []
answers_of_bases (call ∷ rest) all =
    answer_of_bases call all.plain ∷ answers_of_bases rest (bases_after_call call all)

-- what a list of calls leaves
abbrev pub bases_after_calls : List BasesCall → RoomyBases → RoomyBases
bases_after_calls [] all = all
bases_after_calls (call ∷ rest) all = bases_after_calls rest (bases_after_call call all)

-- all stands where the first so many of the calls bring it
abbrev pub BasesStandAfterSome : List BasesCall → (before now : RoomyBases) → Type 0
BasesStandAfterSome list before now =
    (n : ℕ) × (n ≤ length list) × (now ≡ bases_after_calls (take n list) before)

-- where the journal of a CPU was legal, and each call is given a time that isn't before the last
-- and hands out by right, it still is
abbrev pub StaysLegal : List BasesCall → (before now : CpuBases) → Type 0
StaysLegal list before now = (number time : ℕ) → InOrder number time list
    → LegalUpTo number time before.journal
    → LegalUpTo number (time_after_calls time list) now.journal

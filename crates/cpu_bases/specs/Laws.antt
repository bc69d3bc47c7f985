-- what holds of the bases of a CPU and their journal, and what each call keeps: the statements of
-- the laws
use Rattle.std.specs.Prelude.{◌≡◌, ◌≢◌, ℕ, ◌-◌, ◌^◌, ◌<◌, ◌≤◌, Bool, true, false, List}
use Rattle.std.specs.Prelude.{◌⊎◌, Some, None, All, Contains, length, slice_get}
use Rattle.tm_base.specs.Classes.{same_class}
use Rattle.tm_base.specs.declared.names.TheConstants.{NEVER, TIME_LIMIT}
use Rattle.tm_base.specs.declared.names.Class.{Class}
use Rattle.tm_base.specs.declared.names.CpuId.{CpuId}
use Rattle.wheel_core.specs.declared.item.Item.{Item}
use Rattle.wheel_core.specs.PlainBase.{NoneBehind, NoneDue, item_of}
use Rattle.cpu_bases.specs.declared.entry.Act.{Act}
use Rattle.cpu_bases.specs.declared.entry.Act.TheVariants.{Armed, Handed, Cancelled}
use Rattle.cpu_bases.specs.declared.entry.Act.TheVariants.{MovedOut, MovedIn, Ticked}
use Rattle.cpu_bases.specs.declared.entry.Entry.{Entry}
use Rattle.cpu_bases.specs.CpuBases.{CpuBases, IsConsistent, NotAhead, armed}
use Rattle.cpu_bases.specs.CpuBases.{base_of, cancelled, class_in, drained, first_expiry, found_in}
use Rattle.cpu_bases.specs.CpuBases.{handed_out, moved_in, moved_out}
use Rattle.cpu_bases.specs.Journals.{HandedByRight, LegalJournal, LegalUpTo, MayHandOut}
use Rattle.cpu_bases.specs.Journals.{told_by_entry, told_by_item}
use Rattle.cpu_bases.specs.Replay.{AddsReplay, KeepsReplay}

-- ARMINGS AND ENDS
abbrev pub is_arming : Act → Bool
is_arming Armed = true
is_arming MovedIn = true
is_arming Handed = false
is_arming Cancelled = false
is_arming MovedOut = false
is_arming Ticked = false

-- whether an act ends an arming
abbrev pub is_end : Act → Bool
is_end Handed = true
is_end Cancelled = true
is_end MovedOut = true
is_end Armed = false
is_end MovedIn = false
is_end Ticked = false

-- the entry at place j ends the arming at place i: it comes later and is of the same timer, and no
-- arming of that timer comes between
pub record IsEndOf (journal : List Entry) (i j : ℕ) (arming ending : Entry) : Type 0 where
  pub later : i < j
  pub arming_there : slice_get journal i ≡ Some arming
  pub ending_there : slice_get journal j ≡ Some ending
  pub arms : is_arming arming.act ≡ true
  pub ends : is_end ending.act ≡ true
  pub same_timer : ending.timer.0 ≡ arming.timer.0
  pub none_between : (k : ℕ) (entry : Entry) → i < k → k < j → slice_get journal k ≡ Some entry
      → is_arming entry.act ≡ true → entry.timer.0 ≢ arming.timer.0

-- each arming has at most one end
abbrev pub OneEnd : Type 0
OneEnd = (cpu : ℕ) (journal : List Entry) (i j k : ℕ) (arming one other : Entry)
    → LegalJournal cpu journal → IsEndOf journal i j arming one → IsEndOf journal i k arming other
    → j ≡ k

-- the end is of the arming's class and wheel expiry; handed out it isn't before that, and by the
-- CPU itself where it is pinned or deferrable
pub record EndFits (cpu : ℕ) (arming ending : Entry) : Type 0 where
  pub class : ending.class ≡ arming.class
  pub wheel : ending.wheel ≡ arming.wheel
  pub on_time : ending.act ≡ Handed → arming.wheel ≤ ending.at
  pub by_right : HandedByRight cpu ending.act ending

-- in a legal journal each end of an arming fits it
abbrev pub EachEndFits : Type 0
EachEndFits = (cpu : ℕ) (journal : List Entry) (i j : ℕ) (arming ending : Entry)
    → LegalJournal cpu journal → IsEndOf journal i j arming ending → EndFits cpu arming ending

-- QUEUED TIMERS: an item stands as its journal armed it
abbrev pub WasArmed : Class → List Entry → Item → Type 0
WasArmed class journal item =
    (entry : Entry) × Contains journal entry × (is_arming entry.act ≡ true)
    × (entry.class ≡ class) × (told_by_entry entry ≡ told_by_item item)

-- each queued item was armed as it stands, in the base of its class
abbrev pub EachWasArmed : Type 0
EachWasArmed = (cpu : CpuBases) (class : Class) → IsConsistent cpu
    → All (WasArmed class cpu.journal) (base_of class cpu).items

-- an arming is queued as it says, or it has an end
abbrev pub IsQueuedAs : CpuBases → Entry → Type 0
IsQueuedAs cpu arming =
    (item : Item) × (item_of arming.timer.0 (base_of arming.class cpu).items ≡ Some item)
    × (told_by_item item ≡ told_by_entry arming)

-- the arming at place i of a journal has an end
abbrev pub HasEnd : List Entry → (i : ℕ) → Entry → Type 0
HasEnd journal i arming = (j : ℕ) × (ending : Entry) × IsEndOf journal i j arming ending

-- each arming is queued as it says, or has an end
abbrev pub QueuedOrEnded : Type 0
QueuedOrEnded = (cpu : CpuBases) (i : ℕ) (arming : Entry) → IsConsistent cpu
    → slice_get cpu.journal i ≡ Some arming → is_arming arming.act ≡ true
    → IsQueuedAs cpu arming ⊎ HasEnd cpu.journal i arming

-- no timer is queued in two bases of a CPU
abbrev pub QueuedOnce : Type 0
QueuedOnce = (cpu : CpuBases) (timer : ℕ) (class : Class) (item : Item) → IsConsistent cpu
    → item_of timer (base_of class cpu).items ≡ Some item → found_in timer cpu ≡ Some (class, item)

-- the first event of a class is `NEVER`, or the wheel expiry of an arming
abbrev pub FirstWasArmed : Type 0
FirstWasArmed = (cpu : CpuBases) (class : Class) → IsConsistent cpu
    → (first_expiry class cpu ≡ NEVER)
    ⊎ ((entry : Entry) × Contains cpu.journal entry × (is_arming entry.act ≡ true)
    × (entry.class ≡ class) × (entry.wheel ≡ first_expiry class cpu))

-- WHAT A CALL KEEPS at a time, on whatever CPU: the journal stays legal and the bases its replay,
-- clocks stay near, and nothing comes to be behind them
pub record CallKeeps (now : ℕ) (old new : CpuBases) : Type 0 where
  pub legal : (cpu : ℕ) → LegalUpTo cpu now old.journal → LegalUpTo cpu now new.journal
  pub replay : AddsReplay old new
  pub not_ahead : (class : Class) → NotAhead now (base_of class old)
      → NotAhead now (base_of class new)
  pub none_behind : (class : Class) → NoneBehind (base_of class old)
      → NoneBehind (base_of class new)

-- what arming and moving in ask
pub record MayQueue (now : ℕ) (class : Class) (timer expires : ℕ) (cpu : CpuBases) : Type 0 where
  pub now_in_time : now < TIME_LIMIT - 1
  pub expires_in_time : expires < TIME_LIMIT
  pub timer_fits : timer < 2 ^ 16
  pub not_queued : class_in timer cpu ≡ None
  pub none_behind : NoneBehind (base_of class cpu)

-- arming keeps bases consistent, and what stands in their journal
abbrev pub ArmingKeeps : Type 0
ArmingKeeps = (now : ℕ) (class : Class) (timer expires job arg line : ℕ) (by : CpuId)
    (cpu : CpuBases) → IsConsistent cpu → MayQueue now class timer expires cpu
    → let new = armed now class timer expires job arg line by cpu in
    IsConsistent new × CallKeeps now cpu new

-- moving in keeps bases consistent, and what stands in their journal
abbrev pub MovingInKeeps : Type 0
MovingInKeeps = (now : ℕ) (class : Class) (timer expires job arg : ℕ) (by : CpuId)
    (cpu : CpuBases) → IsConsistent cpu → MayQueue now class timer expires cpu
    → let new = moved_in now class timer expires job arg by cpu in
    IsConsistent new × CallKeeps now cpu new

-- cancelling keeps bases consistent, and what stands in their journal
abbrev pub CancellingKeeps : Type 0
CancellingKeeps = (now timer line : ℕ) (by : CpuId) (cpu : CpuBases) → IsConsistent cpu
    → let new = cancelled now timer line by cpu in IsConsistent new × CallKeeps now cpu new

-- moving out keeps bases consistent, and what stands in their journal
abbrev pub MovingOutKeeps : Type 0
MovingOutKeeps = (now : ℕ) (class : Class) (by : CpuId) (cpu : CpuBases) → IsConsistent cpu
    → let new = moved_out now class by cpu in IsConsistent new × CallKeeps now cpu new

-- what handing out timers of a class keeps: the journal stays legal where they are by right
pub record HandsOut (now : ℕ) (class : Class) (by : ℕ) (old new : CpuBases) : Type 0 where
  pub legal : (cpu : ℕ) → MayHandOut cpu class by → LegalUpTo cpu now old.journal
      → LegalUpTo cpu now new.journal
  pub replay : AddsReplay old new
  pub not_ahead : (any : Class) → NotAhead now (base_of any old) → NotAhead now (base_of any new)
  pub others : (other : Class) → same_class class other ≡ false
      → base_of other new ≡ base_of other old

-- handing out keeps bases consistent, and says what went out
abbrev pub HandingOutKeeps : Type 0
HandingOutKeeps = (now : ℕ) (class : Class) (by : CpuId) (cpu : CpuBases)
    → now < TIME_LIMIT - 1 → IsConsistent cpu
    → let new = handed_out now class by cpu in
    IsConsistent new × HandsOut now class by.0 cpu new

-- A WHOLE DRAIN, of at least as many items as there are, leaves nothing due, and then nothing
-- behind a clock that was at most the next jiffy
pub record DrainsAll (now : ℕ) (class : Class) (by : ℕ) (old new : CpuBases) : Type 0 where
  pub consistent : IsConsistent new
  pub hands_out : HandsOut now class by old new
  pub none_due : NoneDue now (base_of class new).items
  pub none_behind : NotAhead now (base_of class old) → NoneBehind (base_of class new)

-- a drain of at least as many items as are queued leaves nothing due
abbrev pub DrainIsWhole : Type 0
DrainIsWhole = (most now : ℕ) (class : Class) (by : CpuId) (cpu : CpuBases)
    → now < TIME_LIMIT - 1 → IsConsistent cpu → length (base_of class cpu).items ≤ most
    → DrainsAll now class by.0 cpu (drained most now class by cpu)

-- REPLAY: what was a replay of its journal still is
abbrev pub ReplaysOn : Type 0
ReplaysOn = (old new : CpuBases) → AddsReplay old new → KeepsReplay old new

-- each timer in its jiffy: what holds after each moment of a play
use Rattle.std.specs.Prelude.{◌≡◌, ℕ, ◌<◌, ◌≤◌, All, [], List, Bool, true, false, Some}
use Rattle.std.specs.Prelude.{is_some, slice_get}
use Rattle.std.specs.FinSet as set
use Rattle.tm_base.specs.declared.names.Class.{Class}
use Rattle.tm_base.specs.declared.names.Class.TheVariants.{Pinned, Global, Deferrable}
use Rattle.tm_script.specs.declared.syntax.Script.{Script}
use Rattle.tm_script.specs.Grammar.{IsScript}
use Rattle.wheel_core.specs.declared.item.Item.{Item}
use Rattle.cpu_bases.specs.declared.entry.Act.{Act}
use Rattle.cpu_bases.specs.declared.entry.Act.TheVariants as acts
use Rattle.cpu_bases.specs.declared.entry.Entry.{Entry}
use Rattle.cpu_bases.specs.CpuBases.{CpuBases, IsConsistent, base_of, class_in}
use Rattle.cpu_bases.specs.Journals.{LegalJournal, LegalUpTo}
use Rattle.cpu_bases.specs.Laws.{IsEndOf, is_arming}
use Rattle.play_rules.specs.Interrupts.{Replies, having_interrupt, interrupts}
use Rattle.play_rules.specs.State.{State, cpu_at, cpu_count}
use Rattle.play_rules.specs.Timers.{bases_at}
use Rattle.play_rules.specs.Play.{AfterEachMoment, next_interrupt, plain_rules}

-- HANDED OUT in its jiffy: a pinned or global timer at its wheel expiry, a deferrable one not
-- before it
abbrev pub IsOnTime : Class → (at wheel : ℕ) → Type 0
IsOnTime Pinned at wheel = at ≡ wheel
IsOnTime Global at wheel = at ≡ wheel
IsOnTime Deferrable at wheel = wheel ≤ at

-- an entry that says that a timer was handed out says that it was so on time
abbrev pub HandedOnTime : Act → Entry → Type 0
HandedOnTime acts.Handed entry = IsOnTime entry.class entry.at entry.wheel
HandedOnTime acts.Armed entry = Unit {0}
HandedOnTime acts.Cancelled entry = Unit {0}
HandedOnTime acts.MovedOut entry = Unit {0}
HandedOnTime acts.MovedIn entry = Unit {0}
HandedOnTime acts.Ticked entry = Unit {0}

-- something holds of each timer that wakes its CPU: of the pinned and the global ones
pub record OfWaking (Q : Item → Type 0) (cpu : CpuBases) : Type 0 where
  pub pinned : All Q (base_of Pinned cpu).items
  pub global : All Q (base_of Global cpu).items

-- the journal of CPU c is legal up to now and each timer of it was handed out on time; its bases
-- agree with it
pub record IsRecorded (now c : ℕ) (cpu : CpuBases) : Type 0 where
  pub consistent : IsConsistent cpu
  pub legal : LegalUpTo c now cpu.journal
  pub on_time : All (λ entry. HandedOnTime entry.act entry) cpu.journal

-- no timer is queued on two CPUs
abbrev pub QueuedOnOne : State → Type 0
QueuedOnOne s = (timer c d : ℕ) → c < cpu_count s → d < cpu_count s
    → is_some (class_in timer (bases_at s c)) ≡ true
    → is_some (class_in timer (bases_at s d)) ≡ true → c ≡ d

-- JOURNALS after a moment
pub record AreRecordedOnce (s : State) : Type 0 where
  pub recorded : (c : ℕ) → c < cpu_count s → IsRecorded s.clock c (bases_at s c)
  pub queued_on_one : QueuedOnOne s

-- IN ITS JIFFY: after a moment no pinned or global timer that is queued on an online CPU is due,
-- the next interrupt comes no later than its wheel expiry, and nothing is queued on an offline CPU
pub record InItsJiffy (s : State) : Type 0 where
  pub journals : AreRecordedOnce s
  pub none_due : (c : ℕ) → c < cpu_count s → (cpu_at s c).online ≡ true
      → OfWaking (λ item. s.clock < item.wheel) (bases_at s c)
  pub none_passed : (c : ℕ) → c < cpu_count s → (cpu_at s c).online ≡ true
      → OfWaking (λ item. next_interrupt s ≤ item.wheel) (bases_at s c)
  pub none_offline : (c : ℕ) (class : Class) → c < cpu_count s → (cpu_at s c).online ≡ false
      → (base_of class (bases_at s c)).items ≡ []

-- IN ITS JIFFY, after each moment of every script's play, whatever its jobs answer
abbrev pub InItsJiffyAfterEach : Type 0
InItsJiffyAfterEach =
    (jobs : Replies) (script : Script) → IsScript script → AfterEachMoment InItsJiffy jobs script

-- ENDS: the arming at place i of a journal has its end there, which is no hand-out but at its wheel
-- expiry
pub record HasEndOnTime (journal : List Entry) (i : ℕ) (arming : Entry) : Type 0 where
  pub place : ℕ
  pub ending : Entry
  pub is_end : IsEndOf journal i place arming ending
  pub on_time : ending.act ≡ acts.Handed → ending.at ≡ arming.wheel

-- whether timers of a class wake their CPU
abbrev pub wakes : Class → Bool
wakes Pinned = true
wakes Global = true
wakes Deferrable = false

-- each arming of a timer that wakes its CPU, whose wheel expiry has come, has its end in the same
-- journal: it was handed out in that jiffy, cancelled, or moved to another CPU
abbrev pub EachHasEnded : State → Type 0
EachHasEnded s = (c i : ℕ) (arming : Entry) → c < cpu_count s
    → slice_get (bases_at s c).journal i ≡ Some arming → is_arming arming.act ≡ true
    → wakes arming.class ≡ true → arming.wheel ≤ s.clock
    → HasEndOnTime (bases_at s c).journal i arming

-- after each moment of every script's play each arming of a timer that wakes its CPU, whose wheel
-- expiry has come, has its end
abbrev pub EachHasEndedAfterEach : Type 0
EachHasEndedAfterEach =
    (jobs : Replies) (script : Script) → IsScript script → AfterEachMoment EachHasEnded jobs script

-- IN THE FIRST DRAIN: the arming at place i of a journal has no end before place k
pub record IsArmedAt (journal : List Entry) (i k : ℕ) (arming : Entry) : Type 0 where
  pub later : i < k
  pub arming_there : slice_get journal i ≡ Some arming
  pub arms : is_arming arming.act ≡ true
  pub no_end : (j : ℕ) (ending : Entry) → IsEndOf journal i j arming ending → k < j

-- IN THE FIRST DRAIN: as long as an arming has no end each drain of its base was before its wheel
-- expiry. So a deferrable timer that isn't cancelled or moved goes out in the first interrupt of
-- its CPU that isn't before it
abbrev pub InFirstDrain : Type 0
InFirstDrain = (cpu : ℕ) (journal : List Entry) (i k : ℕ) (arming drain : Entry)
    → LegalJournal cpu journal → IsArmedAt journal i k arming → slice_get journal k ≡ Some drain
    → drain.act ≡ acts.Ticked → drain.class ≡ arming.class → drain.at < arming.wheel

-- BY AN ONLINE CPU: the CPUs that are due an interrupt as those of a moment begin are online, and
-- each still is so as its own begins and as it ends: after the interrupts of the first n CPUs
abbrev pub RunnersAreOnline : Type 0
RunnersAreOnline = (jobs : Replies) (s : State) (n c : ℕ)
    → let due = having_interrupt plain_rules s in set.contains due c ≡ true
    → (cpu_at (interrupts jobs plain_rules n 0 due s).state c).online ≡ true

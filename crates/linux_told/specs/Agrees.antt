-- machines that agree with what was seen, and who answers in them
use Rattle.std.specs.Prelude.{◌≡◌, ◌⊎◌, ℕ, ◌+◌, ◌<◌, ◌==◌, Bool, true, false}
use Rattle.std.specs.Prelude.{Option, Some, None, if◌then◌else◌}
use Rattle.std.specs.List.{All}
use Rattle.tm_base.specs.Children.{of_cpu, of_group}
use Rattle.coverage.specs.Coverage.{Machine, IsAnsweredFor}
use Rattle.linux_lines.specs.declared.events.TheConstants.{NO_EXPIRY}
use Rattle.linux_seen.specs.declared.seen.Word.{Word}
use Rattle.linux_seen.specs.declared.seen.GroupSeen.{GroupSeen}
use Rattle.linux_seen.specs.declared.seen.CpuSeen.{CpuSeen}
use Rattle.linux_told.specs.declared.told.Answer.TheVariants.{Open}
use Rattle.linux_seen.specs.Seen.{Sight}
use Rattle.linux_seen.specs.Words.{named_by}
use Rattle.linux_seen.specs.Rests.{at_rest, known_word}
use Rattle.linux_told.specs.Told.{answer_of, told_fits}

-- an expiry that is there
abbrev pub there : ℕ → Option ℕ
there expiry = if expiry == NO_EXPIRY then None else Some expiry

-- an expiry that is still to come, where the time is known
abbrev pub IsToCome : Option ℕ → ℕ → Type 0
IsToCome None expiry = ⊥
IsToCome (Some now) expiry = now < expiry

-- a machine has a group as it was seen, as far as that is known: its state, the way up from it, its
-- place as a child, and its event, unless that is due and may have been taken out
pub record GroupAgrees (m : Machine) (clock : Option ℕ) (g : GroupSeen) : Type 0 where
  pub migrator : (w : Word) → known_word g ≡ Some w → m.migrator g.pointer ≡ named_by w.migrator
  pub above : (cpu level p : ℕ) → m.path cpu level ≡ Some g.pointer → g.parent ≡ Some p →
      (p == 0) ≡ false → m.path cpu (level + 1) ≡ Some p
  pub top : (cpu level : ℕ) → m.path cpu level ≡ Some g.pointer → g.parent ≡ Some 0 →
      m.path cpu (level + 1) ≡ None
  pub child : (p k : ℕ) → g.parent ≡ Some p → g.bit ≡ Some k →
      m.child p k ≡ Some (of_group g.pointer)
  pub event : (cpu level p e : ℕ) → m.path cpu level ≡ Some g.pointer → g.parent ≡ Some p →
      g.event ≡ Some e → IsToCome clock e → m.event p (m.bit cpu (level + 1)) ≡ there e

-- .. and a CPU: its leaf, its place there, whether it is awake, its event, and its wakeup
pub record CpuAgrees (m : Machine) (clock : Option ℕ) (c : CpuSeen) : Type 0 where
  pub path : (p : ℕ) → c.leaf ≡ Some p → (p == 0) ≡ false → m.path c.cpu.0 0 ≡ Some p
  pub placed : (p : ℕ) → c.leaf ≡ Some p → m.placed c.cpu.0 ≡ true
  pub child : (p k : ℕ) → c.leaf ≡ Some p → c.bit ≡ Some k → m.child p k ≡ Some (of_cpu c.cpu.0)
  pub active : (awake : Bool) → c.active ≡ Some awake → m.active c.cpu.0 ≡ awake
  pub event : (p e : ℕ) → c.leaf ≡ Some p → c.event ≡ Some e → IsToCome clock e →
      m.event p (m.bit c.cpu.0 0) ≡ there e
  pub wakeup : (w : ℕ) → c.wakeup ≡ Some w → m.wakeup c.cpu.0 ≡ there w

-- A MACHINE AGREES with what was seen
pub record Agrees (m : Machine) (s : Sight) : Type 0 where
  pub groups : All (GroupAgrees m s.clock) s.groups
  pub cpus : All (CpuAgrees m s.clock) s.cpus

-- for an expiry that an idle CPU has told and that is to come somebody answers in each machine that
-- agrees with what was seen, or the answer is open
abbrev pub IsAnswered : Sight → CpuSeen → Type 0
IsAnswered s c =
    (told : ℕ) → c.active ≡ Some false → c.timer ≡ Some told → (told == NO_EXPIRY) ≡ false →
    IsToCome s.clock told →
    (answer_of s c ≡ Open) ⊎ ((m : Machine) → Agrees m s → IsAnsweredFor m c.cpu.0 told)

-- WHERE NOBODY IS MISSING and no walk is under way, each CPU's told expiry is answered for, or open
abbrev pub AnswersHold : Type 0
AnswersHold =
    (s : Sight) → told_fits s ≡ true → at_rest s ≡ true → All (IsAnswered s) s.cpus

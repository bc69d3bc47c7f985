-- after each moment of a play every idle CPU's global timers are answered for
use Rattle.std.specs.Prelude.{◌≡◌, ℕ, ◌<◌, ◌&&◌, All, true, Option, Some, None, if◌then◌else◌}
use Rattle.std.specs.Prelude.{nat_lt, ◌==◌}
use Rattle.tm_base.specs.declared.names.TheConstants.{NEVER}
use Rattle.tree_plan.specs.Paths.{bit_towards, child_at, group_at_of}
use Rattle.tm_base.specs.declared.names.Class.TheVariants.{Global}
use Rattle.cpu_bases.specs.CpuBases.{base_of}
use Rattle.coverage.specs.Coverage.{Machine, IsAnsweredFor}
use Rattle.tm_script.specs.declared.syntax.Script.{Script}
use Rattle.tm_script.specs.Grammar.{IsScript}
use Rattle.play_rules.specs.Interrupts.{Replies}
use Rattle.play_rules.specs.State.{Cpu, State, cpu_at, cpu_count, is_active, migrator_at}
use Rattle.play_rules.specs.Hierarchy.{is_placed}
use Rattle.play_rules.specs.Covers.{told_below}
use Rattle.play_rules.specs.Play.{AfterEachMoment}

-- a time that comes
abbrev pub coming : (time : ℕ) → Option ℕ
coming time = if time == NEVER then None else Some time

-- an online idle CPU keeps its wakeup
abbrev pub kept_by : Cpu → Option ℕ
kept_by cpu = if cpu.online && cpu.idle then Some cpu.wakeup else None

-- the machine of a play as the definitions of coverage know it: the least time told below a child
-- stands for its event
abbrev pub machine_of : State → Machine
machine_of s = record {
  path = group_at_of s.tree;
  bit = bit_towards s.tree;
  child = child_at s.tree;
  placed = is_placed s;
  active = λ c. nat_lt c (cpu_count s) && is_active s c;
  migrator = migrator_at s;
  event = λ g k. coming (told_below s (child_at s.tree g k));
  wakeup = λ c. kept_by (cpu_at s c);
}

-- each global timer that is queued on an online idle CPU is held or woken for
abbrev pub EachAnswered : State → Type 0
EachAnswered s =
    (c : ℕ) → c < cpu_count s → (cpu_at s c).online ≡ true → (cpu_at s c).idle ≡ true
    → All (λ item. IsAnsweredFor (machine_of s) c item.wheel)
    (base_of Global (cpu_at s c).bases).items

-- ANSWERED: after each moment of every script's play, whatever its jobs answer, each global timer
-- that is queued on an online idle CPU is held or woken for
abbrev pub AnsweredAfterEach : Type 0
AnsweredAfterEach =
    (jobs : Replies) (script : Script) → IsScript script → AfterEachMoment EachAnswered jobs script

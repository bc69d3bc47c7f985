-- when a moment may be a round
use Rattle.std.specs.Prelude.{◌≡◌, ℕ, ◌-◌, ◌^◌, ◌<◌, ◌≤◌, All, List, false, length, true}
use Rattle.std.specs.FinSet.{FinSet, contains}
use Rattle.std.specs.Ordering.{nat_cmp}
use Rattle.tm_base.specs.declared.limits.TheConstants.{MOST_OPS}
use Rattle.tm_base.specs.declared.names.TheConstants.{TIME_LIMIT}
use Rattle.tm_script.specs.declared.syntax.Op.{Op}
use Rattle.tm_script.specs.declared.syntax.What.{What}
use Rattle.tm_script.specs.declared.syntax.What.TheVariants as whats
use Rattle.core_world.specs.World.{World, cpu_of}
use Rattle.step_play.specs.Rules.Seen.{InRun, resting}
use Rattle.run_story.specs.Stories.{is_hotplug}

-- the timer that an operation names, if it names one, is there
abbrev pub IsTimerThere : (timers : ℕ) → What → Type 0
IsTimerThere timers (whats.Arm timer class delay job arg) = timer.0 < timers
IsTimerThere timers (whats.Cancel timer) = timer.0 < timers
IsTimerThere timers what = Unit {0}

-- an operation that may be part of a round: its CPU and timer are there, and it takes no CPU
-- offline or online
pub record IsRoundOp (cpus timers : ℕ) (op : Op) : Type 0 where
  pub cpu : op.cpu.0 < cpus
  pub timer : IsTimerThere timers op.what
  pub stays : is_hotplug op.what ≡ false

-- A ROUND MAY BE ASKED FOR of a core at rest whose clock has come to the moment, with online CPUs
-- due an interrupt, and with no more operations than a script may have, each of which may be part
-- of one
pub record AsksRound (core : World) (due : FinSet nat_cmp) (ops : List Op) : Type 0 where
  pub in_run : InRun resting core
  pub in_time : core.clock ≤ TIME_LIMIT - 2 ^ 32
  pub online : (c : ℕ) → contains due c ≡ true → (cpu_of core c).online ≡ true
  pub may : All (IsRoundOp (length core.cpus) core.timers) ops
  pub few : length ops ≤ MOST_OPS

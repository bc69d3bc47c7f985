-- what a driver needs of a script: its numbers are in range, and its moments rise; and of a moment:
-- who has an interrupt is online
use Rattle.std.specs.Prelude.{◌≡◌, ℕ, ◌+◌, ◌<◌, ◌≤◌, All, List, [], ◌∷◌, true}
use Rattle.std.specs.FinSet.{FinSet, contains}
use Rattle.std.specs.Ordering.{nat_cmp}
use Rattle.tm_base.specs.declared.limits.TheConstants.{SCRIPT_TIME_LIMIT}
use Rattle.tm_script.specs.declared.syntax.Moment.{Moment}
use Rattle.tm_script.specs.declared.syntax.Op.{Op}
use Rattle.tm_script.specs.declared.syntax.What.{What}
use Rattle.tm_script.specs.declared.syntax.What.TheVariants as whats
use Rattle.tm_script.specs.declared.syntax.Script.{Script}
use Rattle.play_rules.specs.Rules.{Rules}

-- the timer that an operation names, if it names one, is there
abbrev pub IsTimerInRange : (timers : ℕ) → What → Type 0
IsTimerInRange timers (whats.Arm timer class delay job arg) = timer.0 < timers
IsTimerInRange timers (whats.Cancel timer) = timer.0 < timers
IsTimerInRange timers what = Unit {0}

-- an operation's CPU and timer are there
pub record IsOpInRange (cpus timers : ℕ) (o : Op) : Type 0 where
  pub cpu : o.cpu.0 < cpus
  pub timer : IsTimerInRange timers o.what

-- each operation of a moment names CPUs and timers that are there
abbrev pub IsMomentInRange : (cpus timers : ℕ) → Moment → Type 0
IsMomentInRange cpus timers m = All (IsOpInRange cpus timers) m.ops

-- the times of the moments rise, from a time on, and none is past the end
abbrev pub Rise : (from end : ℕ) → List Moment → Type 0
Rise from end [] = Unit {0}
Rise from end (m ∷ ms) = (from ≤ m.at) × ((m.at ≤ end) × Rise (m.at + 1) end ms)

-- a script names CPUs and timers that are there, its times rise up to its end, and that is below
-- the limit of times
pub record IsPlayable (cpus timers : ℕ) (script : Script) : Type 0 where
  pub in_range : All (IsMomentInRange cpus timers) script.moments
  pub rise : Rise 0 script.end script.moments
  pub in_time : script.end < SCRIPT_TIME_LIMIT

-- every CPU of a set is online
abbrev pub AreOnline : {S : Type 0} → Rules S → S → FinSet nat_cmp → Type 0
AreOnline r s cpus = (c : ℕ) → contains cpus c ≡ true → r.is_online s c ≡ true

-- a pass between two turns of its CPU
use Rattle.std.specs.Prelude.{◌≡◌, ℕ, suc, ◌-◌, ◌^◌, ◌<◌, ◌≤◌, List, [], ◌∷◌, length}
use Rattle.atomic_table.specs.Seated.{TableId}
use Rattle.tm_base.specs.declared.names.TheConstants.{TIME_LIMIT}
use Rattle.core_world.specs.World.{World}
use Rattle.idle_wakeup.specs.shared_rule.declared.parts.PassView.{PassView}
use Rattle.idle_wakeup.specs.shared_rule.Passes.{HeldPass, IsPassIn}
use Rattle.remote_expiry.specs.Interrupts.{IsPassAtRest}

-- QUIET: the pass is that of CPU i of a run with this opening; the CPU isn't inside an interrupt,
-- and has set no mark (no public clause cites it)
pub record IsQuietAt (table : TableId) (o : World) (i : ℕ) (held : HeldPass) : Type 0 where
  pub part : PassView
  pub seated : IsPassIn table held part
  pub cpu : part.cpu ≡ i
  pub rest : IsPassAtRest o part

-- they are those of the CPUs from k on, one after another (no public clause cites it)
abbrev pub QuietFrom : TableId → World → (k : ℕ) → List HeldPass → Type 0
QuietFrom table o k [] = Unit {0}
QuietFrom table o k (held ∷ rest) = IsQuietAt table o k held × QuietFrom table o (suc k) rest

-- the pass is that of one of the run's CPUs (no public clause cites it)
pub record IsStressedPass (table : TableId) (o : World) (held : HeldPass) : Type 0 where
  pub cpu : ℕ
  pub low : cpu < length o.cpus
  pub at : IsQuietAt table o cpu held

-- the pass of whatever CPU it was is that CPU's still, and quiet (no public clause cites it)
abbrev pub StaysQuiet : TableId → World → (old new : HeldPass) → Type 0
StaysQuiet table o old new = (k : ℕ) → IsQuietAt table o k old → IsQuietAt table o k new

-- the terms of a run are those of its opening, and its time is such that any delay may be asked (no
-- public clause cites it)
pub record Fits (o : World) (now timers : ℕ) : Type 0 where
  pub now_is : now ≡ o.clock
  pub timers_are : timers ≡ o.timers
  pub in_time : now ≤ TIME_LIMIT - 2 ^ 32

-- lists of steps
use Rattle.std.specs.Prelude.{◌≡◌, ℕ, List, Some, slice_get, take}
use Rattle.core_world.specs.declared.step.Step.{Step}
use Rattle.core_world.specs.Enabled.{Enabled}
use Rattle.core_world.specs.Lists.{IsRun}
use Rattle.core_world.specs.World.{World}
use Rattle.step_laws.specs.declared.running.StepsFault.{StepsFault}
use Rattle.step_laws.specs.declared.running.StepsFault.TheVariants as faults
use Rattle.step_core.specs.Wants.{WantsMemory}

-- the steps before this one were made, and it is not
pub record StopsBefore
    (steps : List Step) (index : ℕ) (Why : Step → Type 0) (before after : World) :
    Type 0 where
  pub step : Step
  pub there : slice_get steps index ≡ Some step
  pub made : IsRun (take index steps) before after
  pub why : Why step

-- the step is enabled, and may want memory
pub record MayWant (w : World) (step : Step) : Type 0 where
  pub enabled : Enabled w step
  pub wants : WantsMemory step

-- a list of steps stops before the step that the fault names: it isn't enabled there, or wanted
-- memory
abbrev pub Stops : StepsFault → List Step → (before after : World) → Type 0
Stops (faults.NotEnabled index) steps before after =
    StopsBefore steps index (λ step. Enabled after step → ⊥) before after
Stops (faults.NoMemory index) steps before after =
    StopsBefore steps index (MayWant after) before after

-- one CPU's walk alone may go on; and the runs that a step, a walk, or any steps make
use Rattle.std.specs.Prelude.{◌≡◌, ◌≢◌, ℕ, List, ◌∷◌, false, replicate}
use Rattle.core_world.specs.declared.step.Step.{Step}
use Rattle.core_world.specs.declared.step.Step.TheVariants as steps
use Rattle.core_world.specs.Lists.{IsRun}
use Rattle.core_world.specs.World.{World, cpu_of}
use Rattle.step_play.specs.Rules.Alone.{goes_on}

-- no CPU but c has a walk that goes on
abbrev pub IsLone : World → (c : ℕ) → Type 0
IsLone w c = (d : ℕ) → d ≢ c → goes_on (cpu_of w d).walk ≡ false

-- n steps of CPU c's walk
abbrev pub walk_times : (n c : ℕ) → List Step
walk_times n c = replicate n (steps.Walk (record { 0 = c }))

-- some steps of CPU c's walk are a run from one world to the other
abbrev pub IsWalkRun : (c : ℕ) → (before after : World) → Type 0
IsWalkRun c before after = (n : ℕ) × IsRun (walk_times n c) before after

-- a step, and some steps of CPU c's walk behind it, are a run from one world to the other
abbrev pub IsRunOf : Step → (c : ℕ) → (before after : World) → Type 0
IsRunOf step c before after = (n : ℕ) × IsRun (step ∷ walk_times n c) before after

-- some list of steps is a run from the one world to the other
abbrev pub Reaches : (before after : World) → Type 0
Reaches before after = (steps : List Step) × IsRun steps before after

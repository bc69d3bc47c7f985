-- the bases of each CPU are what its journal makes when it is played again
use Rattle.std.specs.Prelude.{ℕ}
use Rattle.cpu_bases.specs.Replay.{AddsReplay, IsPlayed}
use Rattle.tree_plan.specs.Shape.{Shape}
use Rattle.core_world.specs.declared.step.Step.{Step}
use Rattle.core_world.specs.Enabled.{Enabled}
use Rattle.core_world.specs.Lawful.{IsLawful}
use Rattle.core_world.specs.Start.{start_of}
use Rattle.core_world.specs.Steps.{stepped}
use Rattle.core_world.specs.World.{World, cpu_of}

-- each CPU's bases are what its journal makes when it is played again from empty ones
abbrev pub AllPlayed : World → Type 0
AllPlayed w = (c : ℕ) → IsPlayed (cpu_of w c).bases

-- at the start bases are what journals make
abbrev pub StartsPlayed : Type 0
StartsPlayed = (t : Shape) (timers : ℕ) → AllPlayed (start_of t timers)

-- what a step makes of a CPU's bases its new entries make of them, if it writes any
abbrev pub EachAddsReplay : Type 0
EachAddsReplay = (w : World) (step : Step) → IsLawful w → Enabled w step → (d : ℕ) →
    AddsReplay (cpu_of w d).bases (cpu_of (stepped w step) d).bases

-- after each enabled step of a lawful world bases are what journals make, if they were before
abbrev pub StaysPlayed : Type 0
StaysPlayed = (w : World) (step : Step) → IsLawful w → Enabled w step → AllPlayed w →
    AllPlayed (stepped w step)

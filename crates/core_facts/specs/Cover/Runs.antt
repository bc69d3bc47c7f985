-- THE HEADLINE OVER RUNS: who answers for the timers of idle CPUs, at every moment of every list of
-- steps that CPUs can make, in whatever order their steps fall
use Rattle.std.specs.Prelude.{◌⊎◌, ℕ, ◌≤◌, ◌^◌, List, take}
use Rattle.tm_base.specs.CpuSet.{Cpus}
use Rattle.wheel_core.specs.declared.item.Item.{Item}
use Rattle.tree_plan.specs.Shape.{IsWithinLimits, tree_of}
use Rattle.core_world.specs.coverage.Coverage.{Held, Woken}
use Rattle.core_world.specs.declared.step.Step.{Step}
use Rattle.core_world.specs.Covered.{Covered, IsSettled, machine_of}
use Rattle.core_world.specs.Lawful.{IsLawful}
use Rattle.core_world.specs.Lists.{EachEnabled, after_all}
use Rattle.core_world.specs.Start.{start_of}
use Rattle.core_world.specs.World.{World}
use Rattle.core_facts.specs.Cover.Headline.{IsWaiting}

-- what is said of a timer: it is held, woken for, or carried by a walk or an interrupt under way;
-- and where none is under way, it is held or woken for
pub record IsAnswered (w : World) (c wheel : ℕ) : Type 0 where
  pub covered : Covered w c wheel
  pub settled : IsSettled w → Held (machine_of w) c wheel ⊎ Woken (machine_of w) c wheel

-- each global timer that is queued on an online idle CPU is held, woken for or carried; and where
-- no walk and no interrupt is under way, held or woken for
abbrev pub EachIsAnswered : World → Type 0
EachIsAnswered w = (c : ℕ) (item : Item) → IsWaiting w c item → IsAnswered w c item.wheel

-- IN EVERY LAWFUL WORLD each global timer of an online idle CPU is held, woken for or carried
abbrev pub EachLawfulIsAnswered : Type 0
EachLawfulIsAnswered = (w : World) → IsLawful w → EachIsAnswered w

-- the world in which a machine starts
abbrev pub start_with : (nodes cpus : ℕ) → Cpus → (timers : ℕ) → World
start_with nodes cpus isolated timers = start_of (tree_of nodes cpus isolated) timers

-- THE HEADLINE: on every machine, after every front of every list of steps, each enabled where it
-- stands, each global timer of an online idle CPU is held, woken for or carried
abbrev pub AlwaysAnswered : Type 0
AlwaysAnswered = (nodes cpus timers : ℕ) (isolated : Cpus) →
    IsWithinLimits nodes cpus isolated → timers ≤ 2 ^ 16 → (steps : List Step) →
    EachEnabled (start_with nodes cpus isolated timers) steps → (made : ℕ) →
    EachIsAnswered (after_all (start_with nodes cpus isolated timers) (take made steps))

-- what steps reach from a machine's start: worlds of which a core can be made again
use Rattle.std.specs.Prelude.{ℕ, ◌<◌, ◌^◌, List, take}
use Rattle.tm_base.specs.CpuSet.{Cpus}
use Rattle.tree_plan.specs.Shape.{IsWithinLimits}
use Rattle.core_world.specs.declared.step.Step.{Step}
use Rattle.core_world.specs.Lists.{EachEnabled, after_all}
use Rattle.step_core.specs.core_facts.Cover.Runs.{start_with}
use Rattle.step_core.specs.core_state.Kept.{WorldFits}

-- ALL THAT A CORE KEEPS holds of each world that steps reach: on every machine, after every front
-- of every list of steps from its start on, each enabled where it stands, the world is lawful, its
-- tree is planned and its time in range, its bases are what their journals make, and its walks
-- stand at levels that fit: at level 0 where a CPU has no group, and there with no event of a child
abbrev pub EachReachedFits : Type 0
EachReachedFits = (nodes cpus timers : ℕ) (isolated : Cpus) →
    IsWithinLimits nodes cpus isolated → timers < 2 ^ 16 → (steps : List Step) →
    EachEnabled (start_with nodes cpus isolated timers) steps → (made : ℕ) →
    WorldFits (after_all (start_with nodes cpus isolated timers) (take made steps))

-- how high walks stand: a fact beside the invariant, which each step keeps as it keeps that
use Rattle.std.specs.Prelude.{◌≡◌, ℕ, ◌<◌, Option, Some, None}
use Rattle.event_queue.specs.declared.event.Event.{Event}
use Rattle.tree_plan.specs.Shape.{Shape, IsPlanned}
use Rattle.walk_rules.specs.declared.walk.Walk.{Walk}
use Rattle.walk_rules.specs.declared.walk.Stage.{Stage}
use Rattle.walk_rules.specs.Hierarchy.{HasGroup}
use Rattle.core_world.specs.declared.step.Step.{Step}
use Rattle.core_world.specs.Enabled.{Enabled}
use Rattle.core_world.specs.Lawful.{IsLawful}
use Rattle.core_world.specs.Start.{start_of}
use Rattle.core_world.specs.Steps.{stepped, walked}
use Rattle.core_world.specs.World.{World, cpu_of}
use Rattle.core_facts.specs.Stepping.{MayStepAt}

-- a walk of CPU c at this level, with the first event of the child so far: where c has no group the
-- walk stays at level 0, and at level 0 the child is a CPU, of which it reads no event
pub record FitsLevel (t : Shape) (c level : ℕ) (best : Option Event) : Type 0 where
  pub alone : (HasGroup t c → ⊥) → level ≡ 0
  pub at_leaf : level ≡ 0 → best ≡ None

-- each walk stands at a level that fits its CPU
abbrev pub LevelsFit : World → Type 0
LevelsFit w = (c : ℕ) (k : Walk) → (cpu_of w c).walk ≡ Some k → FitsLevel w.tree c k.level k.best

-- at the start walks stand at levels that fit
abbrev pub LevelsStartFit : Type 0
LevelsStartFit = (t : Shape) (timers : ℕ) → LevelsFit (start_of t timers)

-- each enabled step of a lawful world leaves walks at levels that fit
abbrev pub LevelsStayFit : Type 0
LevelsStayFit = (w : World) (step : Step) → IsLawful w → Enabled w step → LevelsFit w →
    LevelsFit (stepped w step)

-- a walk's step, stage by stage, leaves walks at levels that fit
abbrev pub EachStageFitsLevels : Type 0
EachStageFitsLevels = (w : World) (c : ℕ) (k : Walk) (stage : Stage) → IsLawful w →
    MayStepAt w c k stage → LevelsFit w → LevelsFit (walked w c k stage)

-- in a planned tree there are three levels of groups, so a level has two bits
abbrev pub IsLowWalk : World → Type 0
IsLowWalk w = (c : ℕ) (k : Walk) → (cpu_of w c).walk ≡ Some k → k.level < 3

-- in a planned tree, in every lawful world, walks whose levels fit stand below level 3
abbrev pub EachLevelIsLow : Type 0
EachLevelIsLow = (w : World) → IsPlanned w.tree → IsLawful w → LevelsFit w → IsLowWalk w

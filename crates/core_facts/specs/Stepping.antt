-- the invariant, kept by a walk's step, stage by stage
use Rattle.std.specs.Prelude.{◌≡◌, ℕ, ◌<◌, Some, length}
use Rattle.walk_rules.specs.declared.walk.Walk.{Walk}
use Rattle.walk_rules.specs.declared.walk.Stage.{Stage}
use Rattle.core_world.specs.Enabled.{MayGoOn}
use Rattle.core_world.specs.Lawful.{IsLawful}
use Rattle.core_world.specs.Steps.{walked}
use Rattle.core_world.specs.World.{World, cpu_of}

-- CPU c's walk k stands at this stage, and waits for no lock
pub record MayStepAt (w : World) (c : ℕ) (k : Walk) (stage : Stage) : Type 0 where
  pub in_range : c < length w.cpus
  pub walk : (cpu_of w c).walk ≡ Some k
  pub at : k.stage ≡ stage
  pub may_go_on : MayGoOn w c k stage

-- what a walk's step at a stage where it may be made makes of a lawful world is lawful
abbrev pub EachStageLawful : Type 0
EachStageLawful = (w : World) (c : ℕ) (k : Walk) (stage : Stage) → IsLawful w →
    MayStepAt w c k stage → IsLawful (walked w c k stage)

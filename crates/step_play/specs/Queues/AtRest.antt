-- a core of a planned tree between two walks of a play
use Rattle.std.specs.Prelude.{◌≡◌, ℕ, ◌&&◌, false, Some}
use Rattle.tm_base.specs.declared.names.TheConstants.{NEVER}
use Rattle.tree_plan.specs.Shape.{IsPlanned}
use Rattle.play_rules.specs.Phases.{Phase}
use Rattle.walk_rules.specs.declared.walk.Walk.{Walk}
use Rattle.walk_rules.specs.declared.walk.Stage.TheVariants as stages
use Rattle.core_world.specs.Lawful.{IsLawful}
use Rattle.core_world.specs.World.{World, cpu_of}
use Rattle.step_play.specs.Rules.Live.{Exact, told_by}
use Rattle.step_play.specs.Rules.Seen.{InPlay}

-- AT REST: lawful, each group's event exact, nothing told by a CPU that is active or offline, and
-- no walk but such as wait to hand on
pub record AtRest (w : World) : Type 0 where
  pub lawful : IsLawful w
  pub planned : IsPlanned w.tree
  pub exact : Exact w
  pub told : (c : ℕ) → ((cpu_of w c).online && (cpu_of w c).idle) ≡ false → told_by w c ≡ NEVER
  pub walks : (c : ℕ) (k : Walk) → (cpu_of w c).walk ≡ Some k → k.stage ≡ stages.Handing

-- a core in play is
abbrev pub PlayRests : Type 0
PlayRests = (ph : Phase) (w : World) → InPlay ph w → AtRest w

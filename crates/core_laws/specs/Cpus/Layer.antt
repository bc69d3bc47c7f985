-- what is said of one CPU alone, and the law that every step keeps it
use Rattle.std.specs.Prelude.{◌≡◌, ◌≢◌, ◌⊎◌, ℕ, true, false, Some}
use Rattle.tm_base.specs.declared.names.TheConstants.{NEVER}
use Rattle.tm_base.specs.declared.names.CpuId.{CpuId}
use Rattle.tree_plan.specs.Shape.{Shape}
use Rattle.walk_rules.specs.declared.walk.Walk.{Walk}
use Rattle.walk_rules.specs.declared.walk.WalkKind.TheVariants as kinds
use Rattle.walk_rules.specs.declared.walk.Stage.TheVariants as stages
use Rattle.walk_rules.specs.Hierarchy.{HasGroup}
use Rattle.core_world.specs.declared.step.Step.{Step}
use Rattle.core_world.specs.Enabled.{Enabled}
use Rattle.core_world.specs.Marks.{HandingFound, MarkedHasGroup, RemoteFits}
use Rattle.core_world.specs.Steps.{stepped}
use Rattle.core_world.specs.Wakeups.{IsAtRest, NoWakeupAwake, OffAtRest, WalkTimes, WalkTimesHold}
use Rattle.core_world.specs.World.{CpuRecord, World, is_active, scene_of}
use Rattle.core_laws.specs.Walks.Fit.{WalksFit}

-- MARKED, FOUND, OFFATREST, 8b, 8c and 9c of the invariant, said of one CPU (no public clause cites
-- it)
pub record CpuFits (t : Shape) (c : ℕ) (y : CpuRecord) : Type 0 where
  pub marked : (b : ℕ) → y.mark ≡ Some b → HasGroup t c
  pub found : (k : Walk) → y.walk ≡ Some k → k.stage ≡ stages.Handing → k.first ≢ NEVER
  pub at_rest : y.online ≡ false → IsAtRest y
  pub times : (k : Walk) → y.walk ≡ Some k → WalkTimes y k
  pub no_wakeup : (y.online ≡ false) ⊎ (is_active y ≡ true) → y.wakeup ≡ NEVER
  pub remote : (k : Walk) (by : CpuId) → y.walk ≡ Some k → k.kind ≡ kinds.Remote by →
      y.mark ≡ Some by.0

-- MARKED, FOUND, OFFATREST, 8b, 8c and 9c of the invariant, said of all CPUs
pub record CpusFit (w : World) : Type 0 where
  pub marked : MarkedHasGroup w
  pub found : HandingFound w
  pub at_rest : OffAtRest w
  pub times : WalkTimesHold w
  pub no_wakeup : NoWakeupAwake w
  pub remote : RemoteFits w

-- THE LAW
abbrev pub CpusStayFit : Type 0
CpusStayFit = (w : World) (step : Step) → WalksFit w.tree (scene_of w) → CpusFit w →
    Enabled w step →
    CpusFit (stepped w step)

-- SomePlaced and part 9b of the invariant, and the law that every step keeps them
use Rattle.core_world.specs.declared.step.Step.{Step}
use Rattle.core_world.specs.Enabled.{Enabled}
use Rattle.core_world.specs.Marks.{MarkersFit, SomePlaced}
use Rattle.core_world.specs.Steps.{stepped}
use Rattle.core_world.specs.World.{World}
use Rattle.core_laws.specs.Cpus.Layer.{CpusFit}

-- SOMEPLACED and 9b of the invariant: a placed CPU is online, and marks name who may have set them
pub record PlacedAndMarked (w : World) : Type 0 where
  pub some_placed : SomePlaced w
  pub markers : MarkersFit w

-- THE LAW
abbrev pub MarkersStayFit : Type 0
MarkersStayFit = (w : World) (step : Step) → CpusFit w → PlacedAndMarked w → Enabled w step →
    PlacedAndMarked (stepped w step)

-- what reaches a world
use Rattle.std.proofs.Common.{◌≡◌, [], ◌∷◌}
use Rattle.core_world.specs.declared.step.Step.{Step}
use Rattle.core_world.specs.Enabled.{Enabled}
use Rattle.core_world.specs.Steps.{stepped}
use Rattle.core_world.specs.World.{World}
use Rattle.core_machine.specs.step_play.Rules.Lone.{Reaches}

pub stays : (w v : World) → v ≡ w → Reaches w v
stays w v same = ([], record { enabled = tt; done = same })

pub by_step : (step : Step) (w v : World) → Enabled w step → v ≡ stepped w step → Reaches w v
by_step step w v may is = (step ∷ [], record { enabled = (may, tt); done = is })

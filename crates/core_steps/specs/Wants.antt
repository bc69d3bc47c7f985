-- which steps may want memory
use Rattle.core_world.specs.declared.step.Step.{Step}
use Rattle.core_world.specs.declared.step.Step.TheVariants as steps

-- the steps that may want memory: those that arm, cancel, hand out, tick and move
abbrev pub WantsMemory : Step → Type 0
WantsMemory (steps.Arm cpu timer class expires job arg line) = Unit {0}
WantsMemory (steps.Cancel cpu timer by line) = Unit {0}
WantsMemory (steps.Hand cpu timer runner) = Unit {0}
WantsMemory (steps.Ticked cpu class runner) = Unit {0}
WantsMemory (steps.Move from to timer) = Unit {0}
WantsMemory other = ⊥

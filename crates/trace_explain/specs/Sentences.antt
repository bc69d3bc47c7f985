-- what a step changes, in a sentence
use Rattle.std.specs.Prelude.{ℕ, List, [], ◌++◌, codes}
use Rattle.tm_base.specs.Classes.{class_text}
use Rattle.core_world.specs.declared.step.Step.{Step}
use Rattle.core_world.specs.declared.step.Step.TheVariants as steps
use Rattle.core_world.specs.World.{World, cpu_of}
use Rattle.step_causes.specs.CauseTexts.{around, around_two}
use Rattle.trace_explain.specs.Walks.{walk_text}

-- WHAT A STEP CHANGES, where it is made in a world
unfoldable pub step_text : World → Step → List ℕ
step_text w (steps.Clock now) = around (codes "it is jiffy ") now []
step_text w (steps.Enter cpu) = around (codes "the interrupt of CPU ") cpu.0 (codes " begins")
step_text w (steps.Leave cpu) = around (codes "the interrupt of CPU ") cpu.0 (codes " ends")
step_text w (steps.Arm cpu timer class expires job arg line) =
    around_two (codes "CPU ") cpu.0 (codes " arms timer ") timer.0
    (around (codes " for jiffy ") expires (codes ", of class " ++ class_text class))
step_text w (steps.Cancel cpu timer by line) =
    around_two (codes "CPU ") by.0 (codes " cancels timer ") timer.0
    (around (codes " of CPU ") cpu.0 [])
step_text w (steps.Hand cpu timer runner) =
    around_two (codes "CPU ") runner.0 (codes " runs timer ") timer.0
    (around (codes " of CPU ") cpu.0 [])
step_text w (steps.Ticked cpu class runner) =
    around_two (codes "CPU ") runner.0 (codes " has run what is due on CPU ") cpu.0
    (codes ", of class " ++ class_text class)
step_text w (steps.Move from to timer) =
    around_two (codes "timer ") timer.0 (codes " moves from CPU ") from.0
    (around (codes " to CPU ") to.0 [])
step_text w (steps.Idle cpu) = around (codes "CPU ") cpu.0 (codes " goes idle")
step_text w (steps.Wake cpu) = around (codes "CPU ") cpu.0 (codes " wakes")
step_text w (steps.Offline cpu) = around (codes "CPU ") cpu.0 (codes " goes offline")
step_text w (steps.Online cpu) = around (codes "CPU ") cpu.0 (codes " comes online")
step_text w (steps.Reeval cpu) = around (codes "CPU ") cpu.0 (codes " tells its first event anew")
step_text w (steps.Take cpu by) =
    around_two (codes "CPU ") by.0 (codes " marks CPU ") cpu.0 (codes ", to run its timers")
step_text w (steps.Carry cpu) =
    around (codes "the next event of CPU ") cpu.0 (codes " is carried upwards")
step_text w (steps.Release cpu) = around (codes "CPU ") cpu.0 (codes " is marked no more")
step_text w (steps.Walk cpu) =
    around (codes "the walk of CPU ") cpu.0 (walk_text w.tree cpu.0 (cpu_of w cpu.0).walk)
step_text w (steps.HandOn cpu to) =
    around_two (codes "CPU ") cpu.0 (codes " hands its duty on to CPU ") to.0 []

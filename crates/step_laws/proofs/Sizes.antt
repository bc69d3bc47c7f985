-- lists of steps leave the tree, and how many groups, slots, CPUs and timers there are
use Rattle.std.proofs.Common.{List, [], ◌∷◌, refl, sym, ◌∙◌, subst}
use Rattle.std.specs.Prelude.{IfErr, OnOk, Result, Ok, Err, take}
use Rattle.core_world.specs.declared.step.Step.{Step}
use Rattle.core_world.specs.Frames.{SameSize, SizesStay}
use Rattle.core_world.specs.Lists.{IsRun, after_all}
use Rattle.core_world.specs.Steps.{stepped}
use Rattle.core_world.specs.World.{World}
use Rattle.step_laws.specs.Runs.{Stops}
use Rattle.step_laws.specs.declared.running.StepsFault.{StepsFault}
use Rattle.step_laws.specs.declared.running.StepsFault.TheVariants as faults

same : (w : World) → SameSize w w
same w = record { tree = refl; groups = refl; slots = λ g. refl; cpus = refl; timers = refl }

further : (w v u : World) → SameSize w v → SameSize v u → SameSize w u
further w v u first then = record {
  tree = then.tree ∙ first.tree;
  groups = then.groups ∙ first.groups;
  slots = λ g. then.slots g ∙ first.slots g;
  cpus = then.cpus ∙ first.cpus;
  timers = then.timers ∙ first.timers;
}

module _ (stay : SizesStay) where
  after : (w : World) (steps : List Step) → SameSize w (after_all w steps)
  after w [] = same w
  after w (step ∷ rest) =
      further w (stepped w step) (after_all (stepped w step) rest) (stay w step)
      (after (stepped w step) rest)

  run_stays : (steps : List Step) (w v : World) → IsRun steps w v → SameSize w v
  run_stays steps w v run = subst (SameSize w) (sym run.done) (after w steps)

  pub made_stays : {A : Type 0} (r : Result A StepsFault) (steps : List Step) (w v : World)
      → OnOk r (IsRun steps w v) → IfErr r (λ fault. Stops fault steps w v) → SameSize w v
  made_stays (Ok done) steps w v whole stops = run_stays steps w v whole
  made_stays (Err (faults.NotEnabled i)) steps w v whole stops =
      run_stays (take i steps) w v stops.made
  made_stays (Err (faults.NoMemory i)) steps w v whole stops =
      run_stays (take i steps) w v stops.made

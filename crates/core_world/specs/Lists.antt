-- lists of steps, and runs: lists whose steps can be made where they stand
use Rattle.std.specs.Prelude.{◌≡◌, List, [], ◌∷◌}
use Rattle.core_world.specs.declared.step.Step.{Step}
use Rattle.core_world.specs.Enabled.{Enabled}
use Rattle.core_world.specs.Steps.{stepped}
use Rattle.core_world.specs.World.{World}

-- what a list of steps makes of a world
abbrev pub after_all : World → List Step → World
after_all w [] = w
after_all w (step ∷ rest) = after_all (stepped w step) rest

-- each step is enabled where it stands
abbrev pub EachEnabled : World → List Step → Type 0
EachEnabled w [] = Unit {0}
EachEnabled w (step ∷ rest) = Enabled w step × EachEnabled (stepped w step) rest

-- A RUN from one world to another: each of these steps is enabled where it stands, and together
-- they make the one of the other
pub record IsRun (steps : List Step) (before after : World) : Type 0 where
  pub enabled : EachEnabled before steps
  pub done : after ≡ after_all before steps

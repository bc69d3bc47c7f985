-- what a step of the general form changes, and what stays
use Rattle.std.specs.Prelude.{◌≡◌, ◌≢◌, ℕ, ◌<◌, Bool, true, false, Some, length}
use Rattle.walk_rules.specs.tree_plan.Shape.{Shape}
use Rattle.walk_rules.specs.tree_plan.Paths.{cpu_count_of, group_at_of, group_count_of}
use Rattle.walk_rules.specs.declared.walk.Walk.{Walk}
use Rattle.walk_rules.specs.Scene.{Group, Scene}
use Rattle.core_world.specs.declared.step.Step.{Step}
use Rattle.core_world.specs.declared.step.Step.TheVariants as steps
use Rattle.core_world.specs.Enabled.{Enabled}
use Rattle.core_world.specs.Steps.{stepped}
use Rattle.core_world.specs.World.{CpuRecord, World, cpu_of, group_of, is_reading, moved, scene_of}

-- between two scenes only CPU c and group g differ, but for the reading of other walks at g
pub record ChangesOnly (t : Shape) (old new : Scene) (c g : ℕ) (exchanges : Bool) : Type 0 where
  pub walk : (d : ℕ) → d ≢ c → new.walk d ≡ old.walk d
  pub online : (d : ℕ) → d ≢ c → new.online d ≡ old.online d
  pub idle : (d : ℕ) → d ≢ c → new.idle d ≡ old.idle d
  pub group : (h : ℕ) → h ≢ g → new.group h ≡ old.group h
  -- a reading of another walk gets stale, never fresh
  pub fresh : (d : ℕ) → d ≢ c → new.fresh d ≡ true → old.fresh d ≡ true
  -- and after an exchange each other walk that reads the word of g is stale
  pub stale : exchanges ≡ true → (d : ℕ) (k : Walk) → d ≢ c → old.walk d ≡ Some k →
      is_reading k.stage ≡ true → group_at_of t d k.level ≡ Some g → new.fresh d ≡ false

-- what a step of the form `moved` changes: its CPU, its group, and the readings that its exchange
-- makes stale
pub record MovedLaws (w : World) (g : ℕ) (x : Group) (c : ℕ) (y : CpuRecord) (exchanges : Bool) :
    Type 0 where
  pub changes : ChangesOnly w.tree (scene_of w) (scene_of (moved w g x c y exchanges)) c g exchanges
  pub cpu : c < length w.cpus → cpu_of (moved w g x c y exchanges) c ≡ y
  pub group : g < length w.groups → group_of (moved w g x c y exchanges) g ≡ x
  pub cpus : length (moved w g x c y exchanges).cpus ≡ length w.cpus
  pub groups : length (moved w g x c y exchanges).groups ≡ length w.groups

-- a step that changes no walk, no group and no CPU's being online or idle
abbrev pub is_quiet : Step → Bool
is_quiet (steps.Clock now) = true
is_quiet (steps.Enter cpu) = true
is_quiet (steps.Leave cpu) = true
is_quiet (steps.Arm cpu timer class expires job arg line) = true
is_quiet (steps.Cancel cpu timer by line) = true
is_quiet (steps.Hand cpu timer runner) = true
is_quiet (steps.Ticked cpu class runner) = true
is_quiet (steps.Move from to timer) = true
is_quiet (steps.Idle cpu) = false
is_quiet (steps.Wake cpu) = false
is_quiet (steps.Offline cpu) = false
is_quiet (steps.Online cpu) = false
is_quiet (steps.Reeval cpu) = false
is_quiet (steps.Take cpu by) = true
is_quiet (steps.Carry cpu) = false
is_quiet (steps.Release cpu) = true
is_quiet (steps.Walk cpu) = false
is_quiet (steps.HandOn cpu to) = false

-- a quiet step leaves all that walks see
abbrev pub QuietSteps : Type 0
QuietSteps =
    (w : World) (step : Step) → Enabled w step → is_quiet step ≡ true →
    scene_of (stepped w step) ≡ scene_of w

-- there are as many groups and CPUs as the tree has, and each group has a slot for the event of
-- each child that it may have
pub record IsSized (w : World) : Type 0 where
  pub groups : length w.groups ≡ group_count_of w.tree
  pub cpus : length w.cpus ≡ cpu_count_of w.tree
  pub slots : (g : ℕ) → g < length w.groups → length (group_of w g).events ≡ 8

-- no step changes the tree or the numbers of groups, their slots and CPUs
pub record SameSize (old new : World) : Type 0 where
  pub tree : new.tree ≡ old.tree
  pub groups : length new.groups ≡ length old.groups
  pub slots : (g : ℕ) → length (group_of new g).events ≡ length (group_of old g).events
  pub cpus : length new.cpus ≡ length old.cpus
  pub timers : new.timers ≡ old.timers

-- no step changes the tree, the number of timers, or how many CPUs, groups and slots there are
abbrev pub SizesStay : Type 0
SizesStay = (w : World) (step : Step) → SameSize w (stepped w step)

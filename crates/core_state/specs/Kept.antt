-- what the core keeps
use Rattle.std.specs.Prelude.{◌≡◌, ℕ, ◌-◌, ◌^◌, ◌<◌, ◌==◌, ◌&&◌, not, List, Bool, false, Option}
use Rattle.std.specs.Prelude.{Some, None}
use Rattle.std.specs.Prelude.{is_some, slice_index_or}
use Rattle.tm_base.specs.declared.names.CpuId.{CpuId}
use Rattle.wheel_core.specs.declared.item.Item.{Item}
use Rattle.tree_plan.specs.Shape.{Shape, IsPlanned}
use Rattle.tree_plan.specs.Paths.{group_at_of}
use Rattle.cpu_bases.specs.CpuBases.{CpuBases, class_in}
use Rattle.core_facts.specs.walk_rules.Scene.{Group}
use Rattle.core_facts.specs.Levels.{LevelsFit}
use Rattle.core_facts.specs.Played.{AllPlayed}
use Rattle.core_parts.specs.core_world.declared.step.Step.{Step}
use Rattle.core_parts.specs.core_world.Enabled.{Enabled}
use Rattle.core_parts.specs.core_world.Lawful.{IsLawful}
use Rattle.core_parts.specs.core_world.Steps.{stepped}
use Rattle.core_parts.specs.core_world.World.{CpuRecord, World, cpu_of}
use Rattle.core_state.specs.Tally.{CpuTally, IsTallied}

-- the world that the fields of a core are
abbrev pub world_of : (tree : Shape) → (timers clock : ℕ) → List Group → List CpuRecord → World
world_of tree timers clock groups cpus = record {
  tree = tree;
  timers = timers;
  clock = clock;
  groups = groups;
  cpus = cpus;
}

-- the path of c has a group at a level
abbrev pub HasLevel : Shape → (c l : ℕ) → Type 0
HasLevel t c l = (g : ℕ) × (group_at_of t c l ≡ Some g)

-- THE INVARIANT, with a planned tree, a time in range, a number for each timer, bases that are what
-- their journals make, and walks at levels that fit
pub record WorldFits (w : World) : Type 0 where
  pub planned : IsPlanned w.tree
  pub in_time : w.clock < 2 ^ 47 - 2
  pub few : w.timers < 2 ^ 16
  pub lawful : IsLawful w
  pub played : AllPlayed w
  pub levels : LevelsFit w

-- each step that is enabled leads to a world that fits as a core keeps it
abbrev pub StaysFit : World → Type 0
StaysFit w = (step : Step) → Enabled w step → WorldFits (stepped w step)

-- THE LAW (no public clause cites it)
abbrev pub WorldsStayFit : Type 0
WorldsStayFit = (w : World) → WorldFits w → StaysFit w

-- a timer is queued in the bases of a CPU
abbrev pub is_queued : (timer : ℕ) → CpuBases → Bool
is_queued timer bases = is_some (class_in timer bases)

-- without the item that went, if one did
abbrev pub but : Bool → Option Item → (timer : ℕ) → Bool
but there None timer = there
but there (Some item) timer = there && not (item.id == timer)

-- the CPU that is noted for a timer is this one
abbrev pub holds : Option CpuId → (c : ℕ) → Bool
holds None c = false
holds (Some d) c = d.0 == c

-- the CPU that is noted for a timer
abbrev pub noted : List (Option CpuId) → (timer : ℕ) → Option CpuId
noted holders timer = slice_index_or holders timer None

-- a timer is queued exactly on the CPU that is noted for it
abbrev pub IsHeld : World → List (Option CpuId) → Type 0
IsHeld w holders =
    (timer c : ℕ) → is_queued timer (cpu_of w c).bases ≡ holds (noted holders timer) c

-- all that a core keeps: its world fits, timers are queued where they are noted, and all CPUs are
-- counted
pub record IsKept (w : World) (holders : List (Option CpuId)) (tally : CpuTally) : Type 0 where
  pub fits : WorldFits w
  pub held : IsHeld w holders
  pub tallied : IsTallied w.tree w.cpus tally

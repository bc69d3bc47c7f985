-- the world of the core: CPUs and groups as lists, read as functions of the number
use Rattle.std.specs.Prelude.{ℕ, suc, ◌==◌, ◌&&◌, not, Bool, true, false, List, [], ◌∷◌, Option}
use Rattle.std.specs.Prelude.{None, option_map, slice_index_or, slice_set, if◌then◌else◌}
use Rattle.std.specs.Option.{option_map_or}
use Rattle.tm_base.specs.declared.names.TheConstants.{NEVER}
use Rattle.cpu_bases.specs.CpuBases.{CpuBases, empty_bases}
use Rattle.walk_rules.specs.tree_plan.Shape.{Shape}
use Rattle.walk_rules.specs.tree_plan.Paths.{group_at_of}
use Rattle.walk_rules.specs.declared.walk.Walk.{Walk}
use Rattle.walk_rules.specs.declared.walk.Stage.{Stage}
use Rattle.walk_rules.specs.declared.walk.Stage.TheVariants as stages
use Rattle.walk_rules.specs.Scene.{Group, Scene, no_group}
use Rattle.walk_rules.specs.Stages.{forget}

-- a CPU: whether it is online, idle, inside its interrupt; the CPU that marked it, to run its
-- timers; when it is woken, in jiffies; its timers with the journal of what was done to them; its
-- walk
pub record CpuRecord : Type 0 where
  pub online : Bool
  pub idle : Bool
  pub inside : Bool
  pub mark : Option ℕ
  pub wakeup : ℕ
  pub bases : CpuBases
  pub walk : Option Walk

-- the tree, the number of timers, the time, the groups and the CPUs
pub record World : Type 0 where
  pub tree : Shape
  pub timers : ℕ
  pub clock : ℕ
  pub groups : List Group
  pub cpus : List CpuRecord

-- what stands for a CPU that isn't there
abbrev pub no_cpu : CpuRecord
no_cpu = record {
  online = false;
  idle = true;
  inside = false;
  mark = None;
  wakeup = NEVER;
  bases = empty_bases;
  walk = None;
}

-- the group of a number
abbrev pub group_of : World → ℕ → Group
group_of w g = slice_index_or w.groups g no_group

-- the CPU of a number
abbrev pub cpu_of : World → ℕ → CpuRecord
cpu_of w c = slice_index_or w.cpus c no_cpu

-- a CPU is active where it is online and not idle
abbrev pub is_active : CpuRecord → Bool
is_active y = y.online && not y.idle

-- what the walks of a world see
abbrev pub scene_of : World → Scene
scene_of w = record {
  walk = λ c. option_map forget (cpu_of w c).walk;
  fresh = λ c. option_map_or (λ (k : Walk). k.fresh) (cpu_of w c).walk false;
  online = λ c. (cpu_of w c).online;
  idle = λ c. (cpu_of w c).idle;
  group = λ g. group_of w g;
}

-- STALE READS: a walk reads the group's word at Child and Swap, and an exchange makes that reading
-- stale
abbrev pub is_reading : Stage → Bool
is_reading stages.Child = true
is_reading stages.Swap = true
is_reading other = false

-- the walk of CPU c reads the word of group g
abbrev pub reads_at : Shape → (g c : ℕ) → Walk → Bool
reads_at t g c k = is_reading k.stage && option_map_or (λ h. h == g) (group_at_of t c k.level) false

-- the walk of CPU c after an exchange of the word of group g by another CPU: a reading of that word
-- isn't fresh any more
abbrev pub stale_walk : Shape → (g c : ℕ) → Walk → Walk
stale_walk t g c k = if reads_at t g c k then record k { fresh = false } else k

-- CPU c after an exchange of the word of group g by another CPU
abbrev pub stale : Shape → (g c : ℕ) → CpuRecord → CpuRecord
stale t g c y = record y { walk = option_map (stale_walk t g c) y.walk }

-- these CPUs, of numbers from c on, after an exchange of the word of group g
abbrev pub all_stale : Shape → (g c : ℕ) → List CpuRecord → List CpuRecord
all_stale t g c [] = []
all_stale t g c (y ∷ ys) = stale t g c y ∷ all_stale t g (suc c) ys

-- all CPUs after a step that exchanges the word of group g, or exchanges nothing
abbrev pub stale_if : Shape → (exchanges : Bool) → (g : ℕ) → List CpuRecord → List CpuRecord
stale_if t true g ys = all_stale t g 0 ys
stale_if t false g ys = ys

-- THE FORM OF A STEP: group g and CPU c become these, and where the group's word is exchanged the
-- readings of it by others are stale
abbrev pub moved : World → (g : ℕ) → Group → (c : ℕ) → CpuRecord → (exchanges : Bool) → World
moved w g x c y exchanges = record w {
  groups = slice_set w.groups g x;
  cpus = slice_set (stale_if w.tree exchanges g w.cpus) c y;
}

-- a step that changes no group
abbrev pub own : World → (c : ℕ) → CpuRecord → World
own w c y = moved w 0 (group_of w 0) c y false

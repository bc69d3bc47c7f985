-- the start: every CPU is online and active, nothing is queued
use Rattle.std.specs.Prelude.{ℕ, ◌-◌, ◌^◌, true, false, Some, None, map, replicate}
use Rattle.std.specs.List.{range_with_len}
use Rattle.tm_base.specs.declared.names.TheConstants.{NEVER}
use Rattle.walk_rules.specs.tree_plan.Shape.{Shape}
use Rattle.walk_rules.specs.tree_plan.Paths.{cpu_count_of, group_count_of, child_count_of}
use Rattle.walk_rules.specs.Scene.{Group}
use Rattle.cpu_bases.specs.CpuBases.{empty_bases}
use Rattle.core_world.specs.World.{CpuRecord, World}

-- a CPU at the start: online and active, with no walk, no mark and nothing queued
abbrev pub start_cpu : CpuRecord
start_cpu = record {
  online = true;
  idle = false;
  inside = false;
  mark = None;
  wakeup = NEVER;
  bases = empty_bases;
  walk = None;
}

-- a group of so many children, all of them active, the first of them its migrator
abbrev pub start_group : ℕ → Group
start_group children = record {
  active = 2 ^ children - 1;
  migrator = Some 0;
  lock = None;
  events = replicate 8 None;
}

-- THE START of a machine of this tree and so many timers: every CPU is active, and all children of
-- each group are
abbrev pub start_of : Shape → (timers : ℕ) → World
start_of t timers = record {
  tree = t;
  timers = timers;
  clock = 0;
  groups = map (λ g. start_group (child_count_of t g)) (range_with_len 0 (group_count_of t));
  cpus = replicate (cpu_count_of t) start_cpu;
}

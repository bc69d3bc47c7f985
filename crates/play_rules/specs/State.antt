-- the machine as Play sees it: plain data, with no walks
use Rattle.std.specs.Prelude.{ℕ, ◌&&◌, List, Bool, true, false, not, Option, Some, None, length}
use Rattle.std.specs.Prelude.{replicate, slice_index_or, slice_set}
use Rattle.std.specs.List.{range_with_len}
use Rattle.tm_base.specs.declared.names.TheConstants.{NEVER}
use Rattle.tree_plan.specs.Shape.{Shape}
use Rattle.tree_plan.specs.Paths.{cpu_count_of, group_count_of, has_group_in}
use Rattle.cpu_bases.specs.CpuBases.{CpuBases, empty_bases}

-- one CPU: its flags, the wakeup that it programmed, what its leaf last heard of it, and its bases
-- with their journal. Times that don't come are `NEVER`, as are the wakeup of an active or offline
-- CPU and what it told
pub record Cpu : Type 0 where
  pub online : Bool
  pub idle : Bool
  pub wakeup : ℕ
  pub told : ℕ
  pub bases : CpuBases

-- the clock in jiffies, how many timers there are, the tree, the CPUs, and each group's migrator by
-- its child number
pub record State : Type 0 where
  pub clock : ℕ
  pub timers : ℕ
  pub tree : Shape
  pub cpus : List Cpu
  pub migrators : List (Option ℕ)

-- a CPU at the start: online and active, with nothing queued
abbrev pub new_cpu : Cpu
new_cpu = record { online = true; idle = false; wakeup = NEVER; told = NEVER; bases = empty_bases }

-- the start at jiffy 0: every CPU is online and active, nothing is queued, and each group's
-- migrator is its child 0
abbrev pub start : Shape → (timers : ℕ) → State
start tree timers = record {
  clock = 0;
  timers = timers;
  tree = tree;
  cpus = replicate (cpu_count_of tree) new_cpu;
  migrators = replicate (group_count_of tree) (Some 0);
}

-- how many CPUs there are
abbrev pub cpu_count : State → ℕ
cpu_count s = length s.cpus

-- the numbers of all CPUs, ascending
abbrev pub all_cpus : State → List ℕ
all_cpus s = range_with_len 0 (cpu_count s)

-- the CPU of a number
abbrev pub cpu_at : State → ℕ → Cpu
cpu_at s c = slice_index_or s.cpus c new_cpu

-- the state with another CPU of this number
abbrev pub with_cpu : State → ℕ → Cpu → State
with_cpu s c cpu = record s { cpus = slice_set s.cpus c cpu }

-- the state with other bases of a CPU
abbrev pub with_bases : State → ℕ → CpuBases → State
with_bases s c bases = with_cpu s c (record (cpu_at s c) { bases = bases })

-- a CPU is active where it is online and not idle
abbrev pub is_active : State → ℕ → Bool
is_active s c = (cpu_at s c).online && not (cpu_at s c).idle

-- a CPU has a group where it is placed, and isn't the only one that is
abbrev pub has_group : State → ℕ → Bool
has_group s c = has_group_in s.tree c

-- the migrator of a group
abbrev pub migrator_at : State → ℕ → Option ℕ
migrator_at s g = slice_index_or s.migrators g None

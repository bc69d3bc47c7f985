-- the grammar: which scripts there are, and which bytes spell them
use Rattle.std.specs.Prelude.{◌≡◌, ◌≢◌, ℕ, ◌+◌, ◌^◌, ◌<◌, ◌≤◌, List, [], ◌∷◌, Bool, true}
use Rattle.std.specs.Prelude.{false, length, map, All, ◌==◌, if◌then◌else◌}
use Rattle.std.specs.List.Sorted.{IsStrictlyIncreasing}
use Rattle.std.specs.FinSet.{empty, contains}
use Rattle.tm_base.specs.CpuSet.{Contains}
use Rattle.tm_base.specs.declared.names.Class.{Class}
use Rattle.tm_base.specs.declared.names.Class.TheVariants.{Pinned, Global, Deferrable}
use Rattle.tm_base.specs.declared.limits.TheConstants.{MOST_NODES, MOST_NODE_CPUS, MOST_CPUS_V1}
use Rattle.tm_base.specs.declared.limits.TheConstants.{MOST_CPUS_V2, MOST_TIMERS, MOST_OPS}
use Rattle.tm_base.specs.declared.limits.TheConstants.{MOST_LINES, SCRIPT_TIME_LIMIT}
use Rattle.tm_script.specs.declared.syntax.Script.{Script}
use Rattle.tm_script.specs.declared.syntax.Moment.{Moment}
use Rattle.tm_script.specs.declared.syntax.Op.{Op}
use Rattle.tm_script.specs.declared.syntax.What.{What}
use Rattle.tm_script.specs.declared.syntax.What.TheVariants.{Arm, Cancel, Idle, Wake, Offline}
use Rattle.tm_script.specs.declared.syntax.What.TheVariants.{Online}
use Rattle.tm_script.specs.Texts.{cpu_count, head_lines, script_lines, script_text}

-- the most CPUs of a version
abbrev pub most_cpus : ℕ → ℕ
most_cpus version = if version == 1 then MOST_CPUS_V1 else MOST_CPUS_V2

-- a class that a version has: deferrable timers come with version 2
abbrev pub IsClassOf : ℕ → Class → Type 0
IsClassOf version Pinned = Unit {0}
IsClassOf version Global = Unit {0}
IsClassOf version Deferrable = version ≢ 1

-- an arming, in this version and where there are so many timers
pub record IsArm (version timers timer : ℕ) (class : Class) (delay job arg : ℕ) : Type 0 where
  pub timer_in_range : timer < timers
  pub class_of_version : IsClassOf version class
  pub delay_in_range : delay < 2 ^ 32
  pub job_in_range : job < 256
  pub arg_in_range : arg < 2 ^ 32

-- an operation is one of the grammar, in this version and where there are so many timers
abbrev pub IsWhat : ℕ → ℕ → What → Type 0
IsWhat version timers (Arm timer class delay job arg) =
    IsArm version timers timer.0 class delay job arg
IsWhat version timers (Cancel timer) = timer.0 < timers
IsWhat version timers Idle = Unit {0}
IsWhat version timers Wake = Unit {0}
IsWhat version timers Offline = Unit {0}
IsWhat version timers Online = Unit {0}

-- an operation, in this version and where there are so many CPUs and timers
pub record IsOp (version cpus timers : ℕ) (o : Op) : Type 0 where
  pub cpu_in_range : o.cpu.0 < cpus
  pub what : IsWhat version timers o.what

-- whether an operation takes a CPU off or brings it back
abbrev pub is_hotplug : What → Bool
is_hotplug Offline = true
is_hotplug Online = true
is_hotplug _ = false

-- behind `offline` or `online` no operation follows
abbrev pub IsHotplugLast : List Op → Type 0
IsHotplugLast [] = Unit {0}
IsHotplugLast (o ∷ []) = Unit {0}
IsHotplugLast (o ∷ p ∷ os) = (is_hotplug o.what ≡ false) × IsHotplugLast (p ∷ os)

-- a moment, in this version and where there are so many CPUs and timers
pub record IsMoment (version cpus timers : ℕ) (m : Moment) : Type 0 where
  pub few_ops : length m.ops ≤ MOST_OPS
  pub ops : All (IsOp version cpus timers) m.ops
  pub hotplug_last : IsHotplugLast m.ops

-- each operation has the number of its line, where the first stands on this line
abbrev pub AreOpsNumbered : ℕ → List Op → Type 0
AreOpsNumbered line [] = Unit {0}
AreOpsNumbered line (o ∷ os) = (o.line ≡ line) × AreOpsNumbered (line + 1) os

-- each operation of these moments has the number of its line, where the first moment stands on this
-- line; each moment has a line before its operations
abbrev pub AreMomentsNumbered : ℕ → List Moment → Type 0
AreMomentsNumbered line [] = Unit {0}
AreMomentsNumbered line (m ∷ ms) =
    AreOpsNumbered (line + 1) m.ops × AreMomentsNumbered (line + 1 + length m.ops) ms

-- A script of the grammar. Some bytes spell a script exactly where it is one: its text.
pub record IsScript (s : Script) : Type 0 where
  pub some_version : 1 ≤ s.version
  pub few_versions : s.version ≤ 2
  pub some_nodes : 1 ≤ s.nodes
  pub few_nodes : s.nodes ≤ MOST_NODES
  pub some_cpus : 1 ≤ s.cpus
  pub few_node_cpus : s.cpus ≤ MOST_NODE_CPUS
  pub few_cpus : cpu_count s ≤ most_cpus s.version
  pub some_timers : 1 ≤ s.timers
  pub few_timers : s.timers ≤ MOST_TIMERS
  pub none_isolated : s.version ≡ 1 → s.isolated ≡ empty
  pub isolated_in_range : (c : ℕ) → Contains s.isolated c → c < cpu_count s
  pub some_placed : (c : ℕ) × (c < cpu_count s) × (contains s.isolated c ≡ false)
  pub moments : All (IsMoment s.version (cpu_count s) s.timers) s.moments
  pub ascending : IsStrictlyIncreasing (map (λ (m : Moment). m.at) s.moments)
  pub by_the_end : All (λ (m : Moment). m.at ≤ s.end) s.moments
  pub early_end : s.end < SCRIPT_TIME_LIMIT
  pub numbered : AreMomentsNumbered (length (head_lines s) + 1) s.moments
  pub few_lines : length (script_lines s) ≤ MOST_LINES

-- these bytes spell the script
abbrev pub Spells : List ℕ → Script → Type 0
Spells bytes s = IsScript s × (script_text s ≡ bytes)

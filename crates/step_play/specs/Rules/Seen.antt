-- what Play sees in a core, and when a core is one that play comes to
use Rattle.std.specs.Prelude.{◌≡◌, ℕ, ◌==◌, ◌&&◌, Bool, true, false, Option, Some, None}
use Rattle.std.specs.Prelude.{if◌then◌else◌, length, map}
use Rattle.std.specs.List.{range_with_len}
use Rattle.tm_base.specs.declared.names.TheConstants.{NEVER}
use Rattle.tm_base.specs.declared.names.Class.{Class}
use Rattle.wheel_core.specs.PlainBase.{NoneBehind}
use Rattle.cpu_bases.specs.CpuBases.{base_of}
use Rattle.tree_plan.specs.Shape.{IsPlanned}
pub use Rattle.play_rules.specs.Phases.{Phase, handing, inside, resting, serving}
use Rattle.play_rules.specs.State.{Cpu, State}
use Rattle.walk_rules.specs.declared.walk.Walk.{Walk}
use Rattle.walk_rules.specs.declared.walk.Stage.TheVariants as stages
use Rattle.core_world.specs.Lawful.{IsLawful}
use Rattle.core_world.specs.World.{World, cpu_of, group_of}
use Rattle.step_play.specs.Rules.Live.{Exact, told_by}

-- PLAY'S STATE of a core: what a CPU told its leaf is the time of its live event there
abbrev pub cpu_seen : World → ℕ → Cpu
cpu_seen w c = record {
  online = (cpu_of w c).online;
  idle = (cpu_of w c).idle;
  wakeup = (cpu_of w c).wakeup;
  told = told_by w c;
  bases = (cpu_of w c).bases;
}

-- what Play sees in a world of the core: a state of Play
abbrev pub state_of : World → State
state_of w = record {
  clock = w.clock;
  timers = w.timers;
  tree = w.tree;
  cpus = map (cpu_seen w) (range_with_len 0 (length w.cpus));
  migrators = map (λ g. (group_of w g).migrator) (range_with_len 0 (length w.groups));
}

-- the CPU whose interrupt it is, by which a CPU is marked, and the one that hands on
abbrev pub is_inside : Phase → ℕ → Bool
is_inside resting c = false
is_inside (inside r) c = c == r
is_inside (serving r d) c = c == r
is_inside (handing h) c = false

-- the CPU that has marked CPU c, in a phase
abbrev pub marker_in : Phase → ℕ → Option ℕ
marker_in resting c = None
marker_in (inside r) c = None
marker_in (serving r d) c = if c == d then Some r else None
marker_in (handing h) c = None

-- whether CPU c is handing on its duty, in a phase
abbrev pub hands_in : Phase → ℕ → Bool
hands_in resting c = false
hands_in (inside r) c = false
hands_in (serving r d) c = false
hands_in (handing h) c = c == h

-- CPU c hands on exactly where the phase says so, and has no other walk
abbrev pub WalkFits : Phase → ℕ → Option Walk → Type 0
WalkFits ph c None = hands_in ph c ≡ false
WalkFits ph c (Some k) = (hands_in ph c ≡ true) × (k.stage ≡ stages.Handing)

-- A CORE IN A RUN: lawful, its tree planned, nothing behind a base's clock, and no walk, interrupt
-- or mark but those of the phase. What its groups were told needn't be exact: walks beside one
-- another may have left it so
pub record InRun (ph : Phase) (w : World) : Type 0 where
  pub lawful : IsLawful w
  pub planned : IsPlanned w.tree
  pub whole : (c : ℕ) (class : Class) → NoneBehind (base_of class (cpu_of w c).bases)
  pub inside : (c : ℕ) → (cpu_of w c).inside ≡ is_inside ph c
  pub marks : (c : ℕ) → (cpu_of w c).mark ≡ marker_in ph c
  pub walks : (c : ℕ) → WalkFits ph c (cpu_of w c).walk

-- A CORE IN PLAY: one in a run, each group's event exact, and nothing told by a CPU that is active
-- or offline
pub record InPlay (ph : Phase) (w : World) : Type 0 where
  pub in_run : InRun ph w
  pub exact : Exact w
  pub told : (c : ℕ) → ((cpu_of w c).online && (cpu_of w c).idle) ≡ false → told_by w c ≡ NEVER

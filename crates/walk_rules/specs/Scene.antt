-- what walks see of the CPUs and of each other, as functions of the number
use Rattle.std.specs.Prelude.{ℕ, ◌&&◌, not, Bool, Option, None, is_some, []}
use Rattle.event_queue.specs.EventMap.{EventMap}
use Rattle.group_word.specs.Group.{IsActive}
use Rattle.tm_base.specs.declared.names.Child.TheVariants as sorts
use Rattle.tm_base.specs.declared.names.Child.{Child}
use Rattle.tree_plan.specs.Shape.{Shape}
use Rattle.tree_plan.specs.Paths.{bit_of}
use Rattle.walk_rules.specs.declared.walk.Walk.{Walk}

-- a group: the set of its active children, the one of them that is migrator, the CPU whose walk has
-- its lock, and the events of its children (the kernel's struct tmigr_group)
pub record Group : Type 0 where
  pub active : ℕ
  pub migrator : Option ℕ
  pub lock : Option ℕ
  pub events : EventMap

-- what stands for a group that isn't there
abbrev pub no_group : Group
no_group = record { active = 0; migrator = None; lock = None; events = [] }

-- the walk of each CPU without its `fresh`, which alone another CPU's step may change; that; the
-- CPUs; the groups
pub record Scene : Type 0 where
  pub walk : ℕ → Option Walk
  pub fresh : ℕ → Bool
  pub online : ℕ → Bool
  pub idle : ℕ → Bool
  pub group : ℕ → Group

-- a CPU is active where it is online and not idle, and a group where it has a migrator
abbrev pub is_on : Scene → Child → Bool
is_on s (sorts.Cpu c) = s.online c.0 && not (s.idle c.0)
is_on s (sorts.Group g) = is_some (s.group g.0).migrator

-- the child's bit is set in this group
abbrev pub HasBit : Shape → Scene → Child → ℕ → Type 0
HasBit t s m g = IsActive (s.group g).active (bit_of t m)

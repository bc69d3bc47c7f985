-- a timer that moves from one CPU to another
use Rattle.std.specs.Prelude.{◌≡◌, ℕ, ◌+◌, List, Option, Some, None, IfSome, option_map}
use Rattle.std.specs.Prelude.{slice_index_or, slice_set}
use Rattle.tm_base.specs.declared.names.Class.{Class}
use Rattle.tm_base.specs.declared.names.CpuId.{CpuId}
use Rattle.wheel_core.specs.declared.item.Item.{Item}
use Rattle.wheel_core.specs.PlainBase.{NoneBehind}
use Rattle.core_world.specs.cpu_bases.CpuBases.{CpuBases, base_of, class_in, item_queued, moved_in}
use Rattle.core_world.specs.cpu_bases.CpuBases.{moved_out}
use Rattle.core_world.specs.cpu_bases.CpuBases.{oldest_in}
use Rattle.core_world.specs.Steps.{first_moved, with_bases}
use Rattle.core_world.specs.World.{CpuRecord, World, cpu_of, no_cpu}

-- the first of a class isn't queued where it comes to, and nothing is behind the clock there
pub record MayTakeIn (class : Class) (from to : CpuBases) : Type 0 where
  pub not_queued : IfSome (oldest_in (base_of class from).items)
      (λ item. class_in item.id to ≡ None)
  pub none_behind : NoneBehind (base_of class to)

-- the CPU from which the first timer of a class has gone
abbrev pub after_giving : (now : ℕ) → Class → CpuId → CpuRecord → CpuRecord
after_giving now class by from = with_bases from (moved_out now class by from.bases)

-- bases into which an item has come, where there is one
abbrev pub taken_in : (now : ℕ) → Class → CpuId → Option Item → CpuBases → CpuBases
taken_in now class by None bases = bases
taken_in now class by (Some item) bases =
    moved_in now class item.id item.expires item.job item.arg by bases

-- the CPU to which the first timer of a class of another one has come
abbrev pub after_taking : (now : ℕ) → Class → CpuId → CpuRecord → CpuRecord → CpuRecord
after_taking now class by from to =
    with_bases to (taken_in now class by (oldest_in (base_of class from.bases).items) to.bases)

-- all CPUs after the first timer of a class went from one to another
abbrev pub after_moving : (now : ℕ) → Class → (from to : CpuId) → List CpuRecord → List CpuRecord
after_moving now class from to cpus =
    slice_set (slice_set cpus from.0
    (after_giving now class to (slice_index_or cpus from.0 no_cpu))) to.0
    (after_taking now class to (slice_index_or cpus from.0 no_cpu)
    (slice_index_or cpus to.0 no_cpu))

-- WHEEL EXPIRIES: that of a timer which comes to these bases, for which the base of its class is
-- forwarded to the next jiffy
abbrev pub wheel_in : (now : ℕ) → Class → CpuBases → Item → ℕ
wheel_in now class to item =
    (item_queued (now + 1) class item.id item.expires item.job item.arg to).wheel

-- WHEEL EXPIRIES: that of the first timer of a class, as it comes to these bases, where there is
-- one
abbrev pub wheel_taken : (now : ℕ) → Class → (from to : CpuBases) → Option ℕ
wheel_taken now class from to =
    option_map (wheel_in now class to) (oldest_in (base_of class from).items)

-- WHEEL EXPIRIES: that of the timer that moves first from one CPU to another, where there is one
abbrev pub wheel_moved : World → (from to : ℕ) → Option ℕ
wheel_moved w from to =
    option_map (λ (found : Class × Item). wheel_in w.clock found.0 (cpu_of w to).bases found.1)
    (first_moved (cpu_of w from).bases)

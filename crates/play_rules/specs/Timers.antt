-- where timers are queued, and what arming, cancelling, draining and moving make of the machine
use Rattle.std.specs.Prelude.{ℕ, zero, suc, ◌+◌, ◌&&◌, not, List, [], ◌∷◌, Option, Some, None}
use Rattle.std.specs.Prelude.{if◌then◌else◌, find, is_some, length, option_map, option_and_then}
use Rattle.std.specs.Option.{option_or}
use Rattle.tm_base.specs.declared.names.Class.{Class}
use Rattle.tm_base.specs.declared.names.Class.TheVariants.{Pinned, Global, Deferrable}
use Rattle.wheel_core.specs.declared.item.Item.{Item}
use Rattle.wheel_core.specs.PlainBase.{PlainBase, next_out, taken}
use Rattle.cpu_bases.specs.CpuBases.{CpuBases, armed, base_of, cancelled, class_in, drained}
use Rattle.cpu_bases.specs.CpuBases.{found_in, item_queued, moved_in, moved_out, oldest_in}
use Rattle.play_rules.specs.declared.asks.Arming.{Arming}
use Rattle.play_rules.specs.declared.asks.Cancelling.{Cancelling}
use Rattle.play_rules.specs.declared.asks.Queued.{Queued}
use Rattle.play_rules.specs.Rules.{Drained, Moved, Placed}
use Rattle.play_rules.specs.State.{State, all_cpus, cpu_at, with_bases}
use Rattle.play_rules.specs.Hierarchy.{is_placed, woken}

-- the bases of CPU c
abbrev pub bases_at : State → (c : ℕ) → CpuBases
bases_at s c = (cpu_at s c).bases

-- WHERE: the lowest CPU on which a timer is queued
abbrev pub holder_of : State → (timer : ℕ) → Option ℕ
holder_of s timer = find (λ c. is_some (class_in timer (bases_at s c))) (all_cpus s)

-- where a timer is queued: the CPU, its class and its wheel expiry
abbrev pub queued_as : (c : ℕ) → Class × Item → Queued
queued_as c found = record { cpu = record { 0 = c }; class = found.0; wheel = found.1.wheel }

-- where a timer is queued on CPU c, if it is
abbrev pub queued_at : State → (timer c : ℕ) → Option Queued
queued_at s timer c = option_map (queued_as c) (found_in timer (bases_at s c))

-- WHERE a timer is queued, if it is: the CPU, its class and its wheel expiry
abbrev pub where_queued : State → (timer : ℕ) → Option Queued
where_queued s timer = option_and_then (queued_at s timer) (holder_of s timer)

-- A DRAIN at the clock: what goes out of a base one after the other, at most n items
abbrev pub item_then : Option Item → List Item → List Item
item_then None rest = []
item_then (Some item) rest = item ∷ rest

-- A DRAIN: what goes out of a base at the time now, one after the other, at most n items
unfoldable pub due_items : (n now : ℕ) → PlainBase → List Item
due_items zero now base = []
due_items (suc n) now base = item_then (next_out now base) (due_items n now (taken now base))

-- A DRAIN of at most so many items of a base of CPU `home`, by CPU `runner`
abbrev pub drained_base : State → (home : ℕ) → Class → (runner most : ℕ) → Drained State
drained_base s home class runner most = record {
  items = due_items most s.clock (base_of class (bases_at s home));
  state = with_bases s home (drained most s.clock class (record { 0 = runner }) (bases_at s home));
}

-- A DRAIN at the clock (__run_timers): what goes out of a base of CPU `home` one after the other,
-- and the state after it
abbrev pub drained_on : State → (home : ℕ) → Class → (runner : ℕ) → Drained State
drained_on s home class runner =
    drained_base s home class runner (length (base_of class (bases_at s home)).items)

-- ARMING by CPU c: its base is forwarded to the clock, and the timer is added
abbrev pub armed_bases : State → (c : ℕ) → Arming → CpuBases
armed_bases s c a =
    armed s.clock a.class a.timer.0 (s.clock + a.delay) a.job a.arg a.line
    (record { 0 = c }) (bases_at s c)

-- ARMING by CPU c: the item that the timer becomes
abbrev pub armed_item : State → (c : ℕ) → Arming → Item
armed_item s c a =
    item_queued s.clock a.class a.timer.0 (s.clock + a.delay) a.job a.arg (bases_at s c)

-- ARMING by CPU c (__mod_timer): its base is forwarded to the clock, and the timer is added
abbrev pub armed_on : State → (c : ℕ) → Arming → Placed State
armed_on s c a =
    record { wheel = (armed_item s c a).wheel; state = with_bases s c (armed_bases s c a) }

-- CANCELLING (timer_delete): the timer goes out of the base of the CPU on which it is queued
abbrev pub cancelled_on : State → (home : ℕ) → Cancelling → State
cancelled_on s home a =
    with_bases s home (cancelled s.clock a.timer.0 a.line a.by (bases_at s home))

-- MOVING: pinned timers first, then global ones, then deferrable ones, each class in arming order
abbrev pub oldest_of_class : Class → CpuBases → Option (Class × Item)
oldest_of_class class bases =
    option_map (λ item. (class, item)) (oldest_in (base_of class bases).items)

-- MOVING: the first timer to move, with its class
abbrev pub first_to_move : CpuBases → Option (Class × Item)
first_to_move bases =
    option_or (oldest_of_class Pinned bases)
    (option_or (oldest_of_class Global bases) (oldest_of_class Deferrable bases))

-- MOVING: the state after the first timer of a class left
abbrev pub moved_out_of : State → (from to : ℕ) → Class → State
moved_out_of s from to class =
    with_bases s from (moved_out s.clock class (record { 0 = to }) (bases_at s from))

-- the receiving base is forwarded to the next jiffy, and the timer keeps its asked expiry
abbrev pub moved_into : State → (to : ℕ) → Class × Item → Moved State
moved_into s to (class, item) = record {
  mover = record {
    timer = record { 0 = item.id };
    wheel =
        (item_queued (s.clock + 1) class item.id item.expires item.job item.arg
        (bases_at s to)).wheel;
  };
  state = with_bases s to
      (moved_in s.clock class item.id item.expires item.job item.arg
      (record { 0 = to }) (bases_at s to));
}

-- MOVING: this timer goes from one CPU to another
abbrev pub moved_one : State → (from to : ℕ) → Class × Item → Moved State
moved_one s from to (class, item) = moved_into (moved_out_of s from to class) to (class, item)

-- MOVING (migrate_timer_list): the first timer to move goes from one CPU to another
abbrev pub moved_first : State → (from to : ℕ) → Option (Moved State)
moved_first s from to = option_map (moved_one s from to) (first_to_move (bases_at s from))

-- how many timers are queued on CPU c
abbrev pub count_on : State → (c : ℕ) → ℕ
count_on s c =
    length (base_of Pinned (bases_at s c)).items
    + (length (base_of Global (bases_at s c)).items
    + length (base_of Deferrable (bases_at s c)).items)

-- the controlling CPU (timers_dead_cpu moves to the one that does the hotplug work): the lowest
-- online active placed CPU, or the lowest online placed one, which is then activated
abbrev pub controller : State → Option ℕ
controller s =
    option_or
    (find (λ d. is_placed s d && ((cpu_at s d).online && not (cpu_at s d).idle)) (all_cpus s))
    (find (λ d. is_placed s d && (cpu_at s d).online) (all_cpus s))

-- the controlling CPU is active: it is woken where it was idle
abbrev pub controlling : State → (d : ℕ) → State
controlling s d = if (cpu_at s d).idle then woken s d else s

-- what the queues of a core's groups have, and when each of them has exactly what is below it
use Rattle.std.specs.Prelude.{◌≡◌, ℕ, ◌&&◌, not, nat_le, Bool, Option, Some, None, is_none}
use Rattle.std.specs.Prelude.{if◌then◌else◌}
use Rattle.std.specs.List.{fold}
use Rattle.std.specs.FinSet.{contains}
use Rattle.tm_base.specs.declared.names.TheConstants.{NEVER}
use Rattle.tm_base.specs.CpuSet.{Cpus}
use Rattle.tm_base.specs.Children.{of_group}
use Rattle.event_queue.specs.declared.event.Event.{Event}
use Rattle.event_queue.specs.EventMap.{EventMap, event_at}
use Rattle.tree_plan.specs.Paths.{bit_of, group_at_of, parent_of}
use Rattle.walk_rules.specs.Stages.{sooner_event}
use Rattle.walk_rules.specs.Hierarchy.{side}
use Rattle.core_world.specs.World.{World, group_of}

-- LIVE: the event of child k in group g, where it is there and isn't ignored
abbrev pub counting : Option Event → Option Event
counting None = None
counting (Some e) = if e.ignored then None else Some e

-- the event of child k in group g, where it isn't ignored
abbrev pub live : World → (g k : ℕ) → Option Event
live w g k = counting (event_at (group_of w g).events k)

-- FIRST: of a group's live events the one of least (expiry, child)
abbrev pub first_in : EventMap → Option Event
first_in events = fold sooner_event None events

-- the first event of group g that isn't ignored
abbrev pub first : World → (g : ℕ) → Option Event
first w g = first_in (group_of w g).events

-- EXACT: each group has told its parent its first event where it is inactive, and nothing where it
-- is active
abbrev pub told_of : World → (x : ℕ) → Option Event
told_of w x = if is_none (group_of w x).migrator then first w x else None

-- EXACT: the event of each group in its parent is the group's first one where the group is
-- inactive, and none where it is active
abbrev pub Exact : World → Type 0
Exact w = (x p : ℕ) → parent_of w.tree (of_group x) ≡ Some p →
    live w p (bit_of w.tree (of_group x)) ≡ told_of w x

-- the expiry of an event, NEVER where there is none
abbrev pub expiry_of : Option Event → ℕ
expiry_of None = NEVER
expiry_of (Some e) = e.expiry

-- DUE: of a group's live events that have come and whose CPU wasn't tried, the first
abbrev pub is_due : (time : ℕ) → Cpus → Event → Bool
is_due time tried e = nat_le e.expiry time && not (contains tried e.cpu.0)

-- an event, where it is due at a time and its CPU wasn't tried
abbrev pub due_only : (time : ℕ) → Cpus → Option Event → Option Event
due_only time tried None = None
due_only time tried (Some e) = if is_due time tried e then Some e else None

-- of some slots the first event that is due at a time and whose CPU wasn't tried
abbrev pub first_due_in : (time : ℕ) → Cpus → EventMap → Option Event
first_due_in time tried events =
    fold (λ best slot. sooner_event best (due_only time tried slot)) None events

-- what a CPU told its leaf, in jiffies; NEVER where it told nothing or has no leaf
abbrev pub told_in : World → (c : ℕ) → Option ℕ → ℕ
told_in w c None = NEVER
told_in w c (Some leaf) = expiry_of (live w leaf (side w.tree c 0))

-- what CPU c has told its leaf: the expiry of its event there, NEVER where that is ignored or there
-- is none
abbrev pub told_by : World → (c : ℕ) → ℕ
told_by w c = told_in w c (group_at_of w.tree c 0)

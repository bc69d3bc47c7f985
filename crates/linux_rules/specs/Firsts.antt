-- where an update and a look may be made: an update's child, a look's way, and the events that other children have in its group
use Rattle.std.specs.Prelude.{ℕ, ◌==◌, ◌&&◌, ◌||◌, not, nat_lt, Bool, true, false}
use Rattle.std.specs.Prelude.{Option, Some, None, if◌then◌else◌}
use Rattle.std.specs.List.{list_any}
use Rattle.tm_base.specs.declared.names.CpuId.{CpuId}
use Rattle.linux_lines.specs.declared.events.Update.{Update}
use Rattle.linux_seen.specs.declared.seen.Run.{Run}
use Rattle.linux_seen.specs.declared.seen.Run.TheVariants as runs
use Rattle.linux_seen.specs.declared.seen.GroupSeen.{GroupSeen}
use Rattle.linux_seen.specs.declared.seen.Look.{Look}
use Rattle.linux_seen.specs.declared.seen.CpuSeen.{CpuSeen}
use Rattle.linux_seen.specs.Seen.{Sight, cpu_at, group_at}
use Rattle.linux_seen.specs.Tree.{parent_fits, same_pointer}

-- at a leaf the child is the CPU whose timers they are, as far as that is known
abbrev pub cpu_below : Run → Sight → CpuId → ℕ → Bool
cpu_below runs.Unknown s own group = true
cpu_below runs.Own s own group = parent_fits (cpu_at s own).leaf group
cpu_below (runs.Of cpu) s own group = parent_fits (cpu_at s cpu).leaf group

-- the child of an update is below its group
abbrev pub is_child : Sight → Run → CpuId → Update → Bool
is_child s run own u =
    if u.child == 0 then cpu_below run s own u.group
    else parent_fits (group_at s u.child).parent u.group

-- a group above the one to which a CPU came last, as far as that is known
abbrev pub is_above : Option Look → Sight → ℕ → Bool
is_above None s group = true
is_above (Some look) s group = parent_fits (group_at s look.group).parent group

-- a CPU that looks after others comes to its leaf, and from there to parents, as far as that is known
abbrev pub is_on_way : Sight → CpuSeen → ℕ → Bool
is_on_way s c group = parent_fits c.leaf group || is_above c.looks s group

-- the CPU whose event is stored, or where that isn't known any
abbrev pub is_of : Run → CpuId → CpuSeen → Bool
is_of runs.Unknown own c = true
is_of runs.Own own c = c.cpu.0 == own.0
is_of (runs.Of cpu) own c = c.cpu.0 == cpu.0

-- an event that is known, is to come at this time, and comes before this expiry
abbrev pub is_sooner : ℕ → ℕ → Option ℕ → Bool
is_sooner now first None = false
is_sooner now first (Some expiry) = nat_lt now expiry && nat_lt expiry first

-- another CPU has such an event in this leaf
abbrev pub cpu_sooner : Run → CpuId → Update → ℕ → CpuSeen → Bool
cpu_sooner run own u now c =
    not (is_of run own c) && same_pointer c.leaf (Some u.group)
    && is_sooner now u.expiries.first c.event

-- another group has such an event in this one
abbrev pub group_sooner : Update → ℕ → GroupSeen → Bool
group_sooner u now g =
    not (g.pointer == u.child) && same_pointer g.parent (Some u.group)
    && is_sooner now u.expiries.first g.event

-- some other child has an event that is to come, and comes before the group's cached first
abbrev pub some_sooner : Sight → Run → CpuId → Update → Option ℕ → Bool
some_sooner s run own u None = false
some_sooner s run own u (Some now) =
    list_any (cpu_sooner run own u now) s.cpus || list_any (group_sooner u now) s.groups

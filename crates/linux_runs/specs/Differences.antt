-- what Linux is known to do otherwise than the rules, and what is no misfit
use Rattle.std.specs.Prelude.{ℕ, ◌==◌, ◌&&◌, ◌||◌, not, nat_lt, Bool, false}
use Rattle.std.specs.Prelude.{Option, Some, None}
use Rattle.std.specs.List.{list_all, list_any}
use Rattle.linux_lines.specs.declared.events.TheConstants.{NO_EXPIRY}
use Rattle.linux_lines.specs.declared.events.Update.{Update}
use Rattle.linux_lines.specs.declared.events.CpuEvent.{CpuEvent}
use Rattle.linux_lines.specs.declared.events.CpuKind.{CpuKind}
use Rattle.linux_lines.specs.declared.events.CpuKind.TheVariants.{Online, Awake, Asleep, Offline}
use Rattle.linux_lines.specs.declared.events.CpuKind.TheVariants.{NewTimer, StillAsleep}
use Rattle.linux_lines.specs.declared.events.CpuKind.TheVariants.{RunElsewhere}
use Rattle.linux_lines.specs.declared.events.Happening.TheVariants.{GroupMade, GroupJoined}
use Rattle.linux_lines.specs.declared.events.Happening.TheVariants.{CpuJoined, Exchanged, CpuTold}
use Rattle.linux_lines.specs.declared.events.Happening.TheVariants.{Updated, Handling}
use Rattle.linux_lines.specs.declared.events.Line.{Line}
use Rattle.linux_lines.specs.declared.events.Line.TheVariants.{Remark, Loss, Foreign, Told}
use Rattle.linux_lines.specs.declared.events.Line.TheVariants.{OfTimer}
use Rattle.linux_runs.specs.declared.differences.Differences.{Differences}
use Rattle.linux_seen.specs.declared.seen.GroupSeen.{GroupSeen}
use Rattle.linux_seen.specs.declared.seen.CpuSeen.{CpuSeen}
use Rattle.linux_seen.specs.Counts.{counted_if}
use Rattle.linux_seen.specs.Seen.{Sight}
use Rattle.linux_seen.specs.Tree.{same_pointer}

-- none is counted
abbrev pub no_differences : Differences
no_differences = record { early = 0; twice = 0 }

-- an event is known, and later than this
abbrev pub is_later : ℕ → Option ℕ → Bool
is_later first None = false
is_later first (Some expiry) = nat_lt first expiry

-- a CPU isn't in this leaf, or its event is later
abbrev pub cpu_later : ℕ → ℕ → CpuSeen → Bool
cpu_later group first c = not (same_pointer c.leaf (Some group)) || is_later first c.event

-- a group isn't below this one, or its event is later
abbrev pub group_later : ℕ → ℕ → GroupSeen → Bool
group_later group first g = not (same_pointer g.parent (Some group)) || is_later first g.event

-- a group's cached first expiry lies before each event that was seen in it
abbrev pub is_early : Sight → Update → Bool
is_early s u =
    nat_lt u.expiries.first u.expiries.stored
    && list_all (cpu_later u.group u.expiries.first) s.cpus
    && list_all (group_later u.group u.expiries.first) s.groups

-- another CPU keeps the wakeup that a CPU tells
abbrev pub keeps_too : CpuEvent → CpuSeen → Bool
keeps_too t c = not (c.cpu.0 == t.cpu.0) && same_pointer c.wakeup (Some t.wakeup)

-- some other CPU keeps it
abbrev pub is_twice : Sight → CpuEvent → Bool
is_twice s t = not (t.wakeup == NO_EXPIRY) && list_any (keeps_too t) s.cpus

-- .. where the event tells a wakeup
abbrev pub twice_by : CpuKind → Sight → CpuEvent → Bool
twice_by Asleep s t = is_twice s t
twice_by StillAsleep s t = is_twice s t
twice_by Online s t = false
twice_by Awake s t = false
twice_by Offline s t = false
twice_by NewTimer s t = false
twice_by RunElsewhere s t = false

-- THE DIFFERENCES after a line, by what is seen then
unfoldable pub differences_after : Differences → Sight → Line → Differences
differences_after d s Remark = d
differences_after d s Loss = d
differences_after d s (Foreign cpu odd) = d
differences_after d s (Told cpu at (GroupMade place)) = d
differences_after d s (Told cpu at (GroupJoined child j)) = d
differences_after d s (Told cpu at (CpuJoined joined j)) = d
differences_after d s (Told cpu at (Exchanged e)) = d
differences_after d s (Told cpu at (CpuTold t)) =
    record d { twice = counted_if (twice_by t.kind s t) d.twice }
differences_after d s (Told cpu at (Updated u)) =
    record d { early = counted_if (is_early s u) d.early }
differences_after d s (Told cpu at (Handling group)) = d
differences_after d s (OfTimer cpu at e) = d

-- of whom a line speaks, or what is wrong after it
use Rattle.std.specs.Prelude.{not, Option, Some, None, find}
use Rattle.tm_base.specs.declared.names.CpuId.{CpuId}
use Rattle.linux_lines.specs.declared.events.Happening.{Happening}
use Rattle.linux_lines.specs.declared.events.Happening.TheVariants.{GroupMade, GroupJoined}
use Rattle.linux_lines.specs.declared.events.Happening.TheVariants.{CpuJoined, Exchanged, CpuTold}
use Rattle.linux_lines.specs.declared.events.Happening.TheVariants.{Updated, Handling}
use Rattle.linux_seen.specs.declared.seen.GroupSeen.{GroupSeen}
use Rattle.linux_seen.specs.declared.seen.CpuSeen.{CpuSeen}
use Rattle.linux_seen.specs.declared.whom.Whom.{Whom}
use Rattle.linux_seen.specs.Seen.{Sight}
use Rattle.linux_seen.specs.Rests.{cpu_edge, group_edge}

-- of whom an event speaks: the group of its line, and the CPU that the line names, or else the one
-- that wrote it
unfoldable pub event_whom : CpuId → Happening → Whom
event_whom cpu (GroupMade place) = record { cpu = Some cpu; group = Some place.group }
event_whom cpu (GroupJoined child j) = record { cpu = Some cpu; group = Some child }
event_whom cpu (CpuJoined joined j) = record { cpu = Some joined; group = Some j.parent.group }
event_whom cpu (Exchanged e) = record { cpu = Some cpu; group = Some e.place.group }
event_whom cpu (CpuTold t) = record { cpu = Some t.cpu; group = Some t.leaf }
event_whom cpu (Updated u) = record { cpu = Some cpu; group = Some u.group }
event_whom cpu (Handling group) = record { cpu = Some cpu; group = Some group }

-- a CPU that was seen, with its leaf
abbrev pub cpu_whom : Option CpuSeen → Whom
cpu_whom None = record { cpu = None; group = None }
cpu_whom (Some c) = record { cpu = Some c.cpu; group = c.leaf }

-- a group that was seen, or else that
abbrev pub group_whom : Option GroupSeen → Whom → Whom
group_whom None whom = whom
group_whom (Some g) whom = record { cpu = None; group = Some g.pointer }

-- the first group whose bit above doesn't say what it is, or else the first such CPU
abbrev pub edge_whom : Sight → Whom
edge_whom s =
    group_whom (find (λ g. not (group_edge s g)) s.groups)
    (cpu_whom (find (λ c. not (cpu_edge s c)) s.cpus))

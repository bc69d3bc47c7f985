-- the walks of CPUs: where they begin, go on and end
use Rattle.std.specs.Prelude.{ℕ, ◌==◌, ◌&&◌, ◌||◌, not, Bool, true, false}
use Rattle.std.specs.Prelude.{Option, Some, None, if◌then◌else◌}
use Rattle.linux_lines.specs.declared.events.Exchange.{Exchange}
use Rattle.linux_seen.specs.declared.seen.Word.{Word}
use Rattle.linux_seen.specs.declared.seen.Next.{Next}
use Rattle.linux_seen.specs.declared.seen.Walk.{Walk}
use Rattle.linux_seen.specs.declared.seen.Walk.TheVariants.{Unknown, Closed, Rising, Falling}
use Rattle.linux_seen.specs.declared.seen.Walk.TheVariants.{Ending, Hung}
use Rattle.linux_seen.specs.declared.seen.CpuSeen.{CpuSeen}
use Rattle.linux_seen.specs.Words.{named_by, same_number}
use Rattle.linux_seen.specs.Tree.{parent_fits}

-- a walk of activation may make an exchange on this group
abbrev pub may_join : Walk → ℕ → Bool
may_join Unknown group = true
may_join (Rising next) group = next.group == group
may_join (Hung next) group = next.group == group
may_join Closed group = false
may_join (Falling next) group = false
may_join Ending group = false

-- a walk of deactivation begins at its CPU's leaf
abbrev pub begins : CpuSeen → Exchange → Bool
begins c e = e.place.level == 0 && parent_fits c.leaf e.place.group

-- a walk of deactivation may make this exchange
abbrev pub may_leave : Walk → CpuSeen → Exchange → Bool
may_leave Unknown c e = true
may_leave (Falling next) c e = next.group == e.place.group
may_leave Closed c e = begins c e
may_leave (Hung next) c e = begins c e
may_leave (Rising next) c e = not next.surely && begins c e
may_leave Ending c e = false

-- the walk of its CPU may make this exchange
abbrev pub allows : CpuSeen → Exchange → Bool
allows c e = if e.joins then may_join c.walk e.place.group else may_leave c.walk c e

-- from where a walk comes
abbrev pub from_of : Walk → Option ℕ
from_of (Rising next) = Some next.from
from_of (Falling next) = Some next.from
from_of (Hung next) = Some next.from
from_of Unknown = None
from_of Closed = None
from_of Ending = None

-- the group from which an exchange comes, 0 for the CPU itself
abbrev pub came_from : Walk → Exchange → Option ℕ
came_from walk e = if e.place.level == 0 then Some 0 else from_of walk

-- the child is the migrator after the exchange
abbrev pub leads : Exchange → Bool
leads e = same_number (named_by e.migrator) (Some e.bit)

-- where a walk goes on
abbrev pub next_of : Exchange → Bool → Next
next_of e surely = record { group = e.parent; from = e.place.group; surely = surely }

-- a walk of activation that goes on; one that hung a group stays open over an interrupt, since it is
-- made with interrupts on
abbrev pub going_on : Walk → Next → Walk
going_on (Hung old) next = Hung next
going_on (Rising old) next = Rising next
going_on (Falling old) next = Rising next
going_on Unknown next = Rising next
going_on Closed next = Rising next
going_on Ending next = Rising next

-- an activation after its exchange
abbrev pub rise_from : Walk → Option Word → Exchange → Walk
rise_from walk (Some word) e =
    if word.migrator == 0 then going_on walk (next_of e true) else Closed
rise_from walk None e = if leads e then going_on walk (next_of e false) else Closed

-- a walk of activation goes on exactly where there was no migrator
abbrev pub rise : Walk → Option Word → Exchange → Walk
rise walk before e = if e.parent == 0 then Closed else rise_from walk before e

-- a deactivation after its exchange
abbrev pub fall_from : Option Word → Exchange → Walk
fall_from (Some word) e = if word.migrator == 0 then Ending else Falling (next_of e true)
fall_from None e = Falling (next_of e false)

-- a walk of deactivation goes on exactly where there was a migrator and none is left
abbrev pub fall : Option Word → Exchange → Walk
fall before e =
    if e.parent == 0 || not (e.migrator == 0) then Ending else fall_from before e

-- a walk after its exchange
abbrev pub walk_after : Walk → Option Word → Exchange → Walk
walk_after walk before e = if e.joins then rise walk before e else fall before e

-- the CPU may do something else than walk
abbrev pub may_rest : Walk → Bool
may_rest Unknown = true
may_rest Closed = true
may_rest (Hung next) = true
may_rest (Rising next) = not next.surely
may_rest (Falling next) = false
may_rest Ending = false

-- the CPU may fall asleep
abbrev pub may_end : Walk → Bool
may_end Unknown = true
may_end Ending = true
may_end (Falling next) = not next.surely
may_end Closed = false
may_end (Hung next) = false
may_end (Rising next) = false

-- a walk is under way
abbrev pub is_open : Walk → Bool
is_open (Rising next) = true
is_open (Falling next) = true
is_open Ending = true
is_open Unknown = false
is_open Closed = false
is_open (Hung next) = false

-- a walk after its CPU did something else
abbrev pub quiet : Walk → Walk
quiet (Rising next) = Closed
quiet Unknown = Unknown
quiet Closed = Closed
quiet (Falling next) = Falling next
quiet Ending = Ending
quiet (Hung next) = Hung next

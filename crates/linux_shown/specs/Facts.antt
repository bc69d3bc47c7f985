-- what was known, a line for each fact
use Rattle.std.specs.Prelude.{ℕ, ◌==◌, Bool, true, false, List, [], ◌++◌, codes}
use Rattle.std.specs.Prelude.{Option, Some, None, if◌then◌else◌}
use Rattle.tm_base.specs.declared.names.CpuId.{CpuId}
use Rattle.linux_seen.specs.declared.seen.Spot.{Spot}
use Rattle.linux_seen.specs.declared.seen.Word.{Word}
use Rattle.linux_seen.specs.declared.seen.Next.{Next}
use Rattle.linux_seen.specs.declared.seen.Walk.{Walk}
use Rattle.linux_seen.specs.declared.seen.Walk.TheVariants.{Unknown, Closed, Rising, Falling}
use Rattle.linux_seen.specs.declared.seen.Walk.TheVariants.{Ending, Hung}
use Rattle.linux_seen.specs.declared.seen.GroupSeen.{GroupSeen}
use Rattle.linux_seen.specs.declared.seen.CpuSeen.{CpuSeen}
use Rattle.linux_seen.specs.declared.whom.Whom.{Whom}
use Rattle.linux_seen.specs.Seen.{Sight, cpu_at, group_at}
use Rattle.linux_seen.specs.Words.{named_by}
use Rattle.linux_shown.specs.Pieces.{children_below, count_text, known_expiry, pointer_text}

-- ---- words

-- who leads these children
unfoldable pub led_text : Option ℕ → ℕ → List ℕ
led_text None active = codes "asleep"
led_text (Some migrator) active =
    codes "active, with children" ++ children_below 8 active
    ++ count_text (codes " and migrator ") migrator

-- a group's state
unfoldable pub word_text : Option Word → List ℕ
word_text None = codes "its state isn't known"
word_text (Some word) = led_text (named_by word.migrator) word.active

-- exchanges on the group are late
abbrev pub late_text : Bool → List ℕ
late_text false = codes "\n"
late_text true = codes ", before exchanges that are late\n"

-- a group with its state
unfoldable pub word_fact : GroupSeen → List ℕ
word_fact g =
    pointer_text (codes "  known: group ") g.pointer ++ codes ": " ++ word_text g.word
    ++ late_text g.late

-- ---- places

-- the node of a level
unfoldable pub node_text : Option ℕ → List ℕ
node_text None = codes " across nodes"
node_text (Some node) = count_text (codes " of node ") node

-- where a group stands
unfoldable pub spot_text : Option Spot → List ℕ
spot_text None = codes ", its level isn't known"
spot_text (Some spot) = count_text (codes ", level ") spot.level ++ node_text spot.node

-- a child's number, at the end of a line
unfoldable pub number_text : Option ℕ → List ℕ
number_text None = codes "\n"
number_text (Some number) = count_text (codes " as child ") number ++ codes "\n"

-- what a group hangs below
unfoldable pub below_text : ℕ → Option ℕ → List ℕ
below_text parent bit =
    if parent == 0 then codes ", the top\n"
    else pointer_text (codes ", below group ") parent ++ number_text bit

-- .. as far as it is known
unfoldable pub above_text : Option ℕ → Option ℕ → List ℕ
above_text None bit = codes ", its parent isn't known\n"
above_text (Some parent) bit = below_text parent bit

-- a group with its place
unfoldable pub place_fact : GroupSeen → List ℕ
place_fact g =
    pointer_text (codes "  known: group ") g.pointer ++ spot_text g.spot
    ++ above_text g.parent g.bit

-- a CPU at the head of a line
unfoldable pub cpu_head : CpuId → List ℕ
cpu_head cpu = count_text (codes "  known: CPU ") cpu.0

-- a CPU's leaf
unfoldable pub leaf_text : Option ℕ → Option ℕ → List ℕ
leaf_text None bit = codes ", its leaf isn't known\n"
leaf_text (Some leaf) bit = pointer_text (codes ", in group ") leaf ++ number_text bit

-- a CPU with its place
unfoldable pub seat_fact : CpuSeen → List ℕ
seat_fact c = cpu_head c.cpu ++ leaf_text c.leaf c.bit

-- ---- CPUs

-- how a walk goes on
abbrev pub goes_on : Bool → List ℕ
goes_on surely = if surely then codes " goes on at group " else codes " may go on at group "

-- a walk, and where it goes on
unfoldable pub going_text : List ℕ → Next → List ℕ
going_text what next = what ++ pointer_text (goes_on next.surely) next.group

-- a CPU's walk
unfoldable pub walk_text : Walk → List ℕ
walk_text Unknown = codes ": its walk isn't known"
walk_text Closed = codes ": it is on no walk"
walk_text (Rising next) = going_text (codes ": its walk of activation") next
walk_text (Falling next) = going_text (codes ": its walk of deactivation") next
walk_text Ending = codes ": its walk of deactivation has made its last exchange"
walk_text (Hung next) = going_text (codes ": it hung a group, and its walk") next

-- a CPU with its walk
unfoldable pub walk_fact : CpuSeen → List ℕ
walk_fact c = cpu_head c.cpu ++ walk_text c.walk ++ codes "\n"

-- whether a CPU is awake
unfoldable pub awake_text : Option Bool → List ℕ
awake_text None = codes ": whether it is awake isn't known\n"
awake_text (Some true) = codes ": awake\n"
awake_text (Some false) = codes ": asleep\n"

-- a CPU awake or asleep
unfoldable pub state_fact : CpuSeen → List ℕ
state_fact c = cpu_head c.cpu ++ awake_text c.active

-- a CPU's event in its leaf
unfoldable pub event_fact : CpuSeen → List ℕ
event_fact c =
    cpu_head c.cpu ++ known_expiry (codes ": its event in its leaf: ") c.event ++ codes "\n"

-- the wakeup that a CPU's walk has found
unfoldable pub found_fact : CpuSeen → List ℕ
found_fact c =
    cpu_head c.cpu ++ known_expiry (codes ": first event of a sleeping top on its walk: ") c.first
    ++ codes "\n"

-- what a CPU has told, and the wakeup that it keeps
unfoldable pub duty_fact : CpuSeen → List ℕ
duty_fact c =
    cpu_head c.cpu ++ known_expiry (codes ": it told ") c.timer
    ++ known_expiry (codes ", its wakeup: ") c.wakeup ++ codes "\n"

-- a group's event in its parent
unfoldable pub group_event_fact : GroupSeen → List ℕ
group_event_fact g =
    pointer_text (codes "  known: group ") g.pointer
    ++ known_expiry (codes ": its event in its parent: ") g.event ++ codes "\n"

-- ---- of whom a misfit speaks

-- the state of a group that is named
unfoldable pub word_facts : Option ℕ → Sight → List ℕ
word_facts None s = []
word_facts (Some pointer) s = word_fact (group_at s pointer)

-- the place of a group that is named
unfoldable pub place_facts : Option ℕ → Sight → List ℕ
place_facts None s = []
place_facts (Some pointer) s = place_fact (group_at s pointer)

-- the place of a CPU that is named
unfoldable pub seat_facts : Option CpuId → Sight → List ℕ
seat_facts None s = []
seat_facts (Some cpu) s = seat_fact (cpu_at s cpu)

-- the places of those of whom a misfit speaks
unfoldable pub places_facts : Whom → Sight → List ℕ
places_facts w s = place_facts w.group s ++ seat_facts w.cpu s

-- whether a CPU that is named is awake
unfoldable pub state_facts : Option CpuId → Sight → List ℕ
state_facts None s = []
state_facts (Some cpu) s = state_fact (cpu_at s cpu)

-- the event of a CPU that is named
unfoldable pub event_facts : Option CpuId → Sight → List ℕ
event_facts None s = []
event_facts (Some cpu) s = event_fact (cpu_at s cpu)

-- the wakeup that a CPU that is named has found
unfoldable pub found_facts : Option CpuId → Sight → List ℕ
found_facts None s = []
found_facts (Some cpu) s = found_fact (cpu_at s cpu)

-- a CPU with its state and place, and the state of its leaf
unfoldable pub cpu_edge_facts : CpuSeen → Sight → List ℕ
cpu_edge_facts c s = state_fact c ++ seat_fact c ++ word_facts c.leaf s

-- a group with its state and place, and the state of its parent
unfoldable pub group_edge_facts : GroupSeen → Sight → List ℕ
group_edge_facts g s = word_fact g ++ place_fact g ++ word_facts g.parent s

-- what a wrong bit is about: a CPU and its leaf, or a group and its parent
unfoldable pub group_edge_of : Option ℕ → Sight → List ℕ
group_edge_of None s = []
group_edge_of (Some pointer) s = group_edge_facts (group_at s pointer) s

unfoldable pub edge_facts : Option CpuId → Option ℕ → Sight → List ℕ
edge_facts None group s = group_edge_of group s
edge_facts (Some cpu) group s = cpu_edge_facts (cpu_at s cpu) s

-- the event of a group that is named
unfoldable pub group_event_facts : Option ℕ → Sight → List ℕ
group_event_facts None s = []
group_event_facts (Some pointer) s = group_event_fact (group_at s pointer)

-- what a CPU has told, its event, the state of its leaf, and the leaf's event
unfoldable pub told_fact : CpuSeen → Sight → List ℕ
told_fact c s =
    duty_fact c ++ event_fact c ++ word_facts c.leaf s ++ group_event_facts c.leaf s

unfoldable pub told_facts : Option CpuId → Sight → List ℕ
told_facts None s = []
told_facts (Some cpu) s = told_fact (cpu_at s cpu) s

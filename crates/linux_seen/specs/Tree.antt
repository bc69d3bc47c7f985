-- the tree: where groups stand, and the numbers of children
use Rattle.std.specs.Prelude.{ℕ, ◌+◌, ◌==◌, ◌&&◌, ◌||◌, not, nat_lt, Bool, true, List}
use Rattle.std.specs.Prelude.{Option, Some, None, if◌then◌else◌}
use Rattle.std.specs.List.{list_all}
use Rattle.tm_base.specs.declared.names.CpuId.{CpuId}
use Rattle.tm_base.specs.declared.limits.TheConstants.{GROUP_SIZE}
use Rattle.linux_lines.specs.declared.events.Place.{Place}
use Rattle.linux_lines.specs.declared.events.Joining.{Joining}
use Rattle.linux_seen.specs.declared.rules.Rule.{Rule}
use Rattle.linux_seen.specs.declared.rules.Rule.TheVariants as rules
use Rattle.linux_seen.specs.declared.seen.Spot.{Spot}
use Rattle.linux_seen.specs.declared.seen.GroupSeen.{GroupSeen}
use Rattle.linux_seen.specs.declared.seen.CpuSeen.{CpuSeen}
use Rattle.linux_seen.specs.Seen.{Sight, cpu_at, group_at}
use Rattle.linux_seen.specs.Words.{same_number}

-- both there and equal, or both not there
abbrev pub same_pointer : Option ℕ → Option ℕ → Bool
same_pointer a b = same_number a b

-- the place is where the group was seen before
abbrev pub spot_is : Option Spot → Place → Bool
spot_is None place = true
spot_is (Some spot) place = spot.level == place.level && same_pointer spot.node place.node

-- a group stands where it stood before
abbrev pub spot_fits : Sight → Place → Bool
spot_fits s place = spot_is (group_at s place.group).spot place

-- the parent is one level above, where its level was seen
abbrev pub is_below : ℕ → Option Spot → Bool
is_below level None = true
is_below level (Some spot) = level + 1 == spot.level

-- a child of a node, below a group of a node or of none
abbrev pub of_node : Option ℕ → Option ℕ → Bool
of_node own None = true
of_node own (Some number) = same_pointer own (Some number)

-- the child is of its parent's node, where that was seen and has one
abbrev pub node_fits : Option ℕ → Option Spot → Bool
node_fits own None = true
node_fits own (Some spot) = of_node own spot.node

-- the parent is the one seen before; a top may get one
abbrev pub parent_fits : Option ℕ → ℕ → Bool
parent_fits None parent = true
parent_fits (Some p) parent = p == 0 || p == parent

-- the number is the one seen before
abbrev pub bit_fits : Option ℕ → ℕ → Bool
bit_fits None bit = true
bit_fits (Some k) bit = k == bit

-- a group hangs below this parent, by this number
abbrev pub group_stands : GroupSeen → ℕ → ℕ → Bool
group_stands g parent bit = same_pointer g.parent (Some parent) && same_number g.bit (Some bit)

-- a CPU hangs below this leaf, by this number
abbrev pub cpu_stands : CpuSeen → ℕ → ℕ → Bool
cpu_stands c leaf bit = same_pointer c.leaf (Some leaf) && same_number c.bit (Some bit)

-- no other group has this number in this parent
abbrev pub groups_free : List GroupSeen → ℕ → ℕ → ℕ → Bool
groups_free gs parent bit child =
    list_all (λ g. g.pointer == child || not (group_stands g parent bit)) gs

-- no other CPU has this number in this leaf
abbrev pub cpus_free : List CpuSeen → ℕ → ℕ → CpuId → Bool
cpus_free cs leaf bit cpu = list_all (λ c. c.cpu.0 == cpu.0 || not (cpu_stands c leaf bit)) cs

-- what a child of this spot breaks below this parent
abbrev pub spot_fault : Option Spot → Place → Option Rule
spot_fault None parent = None
spot_fault (Some spot) parent =
    if not (is_below spot.level (Some (record { level = parent.level; node = parent.node })))
    then Some rules.Tree
    else if not (node_fits spot.node (Some (record { level = parent.level; node = parent.node })))
    then Some rules.Node
    else None

-- what a new link of a group to its parent breaks
abbrev pub group_joining_fault : Sight → ℕ → Joining → Option Rule
group_joining_fault s child j =
    if not (spot_fits s j.parent) || nat_lt GROUP_SIZE j.children
    || not (parent_fits (group_at s child).parent j.parent.group)
    || not (groups_free s.groups j.parent.group j.bit child)
    then Some rules.Tree
    else spot_fault (group_at s child).spot j.parent

-- what a new link of a CPU to its leaf breaks
abbrev pub cpu_joining_fault : Sight → CpuId → Joining → Option Rule
cpu_joining_fault s cpu j =
    if not (spot_fits s j.parent) || not (j.parent.level == 0) || nat_lt GROUP_SIZE j.children
    || not (parent_fits (cpu_at s cpu).leaf j.parent.group)
    || not (cpus_free s.cpus j.parent.group j.bit cpu)
    then Some rules.Tree
    else None

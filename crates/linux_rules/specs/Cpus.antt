-- the other events: of CPUs, of queues, of the tree
use Rattle.std.specs.Prelude.{ℕ, ◌==◌, ◌&&◌, ◌||◌, not, nat_lt, Bool, true, false}
use Rattle.std.specs.Prelude.{Option, Some, None, if◌then◌else◌}
use Rattle.tm_base.specs.declared.names.CpuId.{CpuId}
use Rattle.linux_lines.specs.declared.events.TheConstants.{NO_EXPIRY}
use Rattle.linux_lines.specs.declared.events.Place.{Place}
use Rattle.linux_lines.specs.declared.events.Joining.{Joining}
use Rattle.linux_lines.specs.declared.events.Update.{Update}
use Rattle.linux_lines.specs.declared.events.CpuEvent.{CpuEvent}
use Rattle.linux_lines.specs.declared.events.CpuKind.{CpuKind}
use Rattle.linux_lines.specs.declared.events.CpuKind.TheVariants.{Online, Awake, Asleep, Offline}
use Rattle.linux_lines.specs.declared.events.CpuKind.TheVariants.{NewTimer, StillAsleep}
use Rattle.linux_lines.specs.declared.events.CpuKind.TheVariants.{RunElsewhere}
use Rattle.linux_seen.specs.declared.rules.Rule.{Rule}
use Rattle.linux_seen.specs.declared.rules.Rule.TheVariants as rules
use Rattle.linux_seen.specs.declared.seen.Spot.{Spot}
use Rattle.linux_seen.specs.declared.seen.Run.TheVariants as runs
use Rattle.linux_seen.specs.declared.seen.Walk.{Walk}
use Rattle.linux_seen.specs.declared.seen.Walk.TheVariants.{Unknown, Closed, Rising, Falling}
use Rattle.linux_seen.specs.declared.seen.Walk.TheVariants.{Ending, Hung}
use Rattle.linux_seen.specs.declared.seen.Look.{Look}
use Rattle.linux_seen.specs.declared.seen.CpuSeen.{CpuSeen}
use Rattle.linux_seen.specs.Seen.{Sight, cpu_at, group_at}
use Rattle.linux_seen.specs.Rests.{is_asleep, is_awake}
use Rattle.linux_seen.specs.Tree.{parent_fits, same_pointer}
use Rattle.linux_seen.specs.Walks.{may_end, may_rest, quiet}
use Rattle.linux_rules.specs.Exchanges.{fault_or, spot_of, with_cpu, with_group}
use Rattle.linux_rules.specs.Queues.{first_after, run_told, spoken, told_fault, with_event}
use Rattle.linux_rules.specs.Queues.{with_hidden}
use Rattle.linux_rules.specs.Firsts.{is_child, some_sooner}

-- a CPU falls asleep at the end of its walk, and where it was awake
abbrev pub sleep_fault : Option Bool → Walk → Option Rule
sleep_fault active walk =
    if not (may_end walk) then Some rules.Walk
    else if is_asleep active then Some rules.Cpu
    else None

-- what follows only for a CPU that sleeps, written by one that isn't in a walk
abbrev pub woken_fault : Option Bool → Walk → Option Rule
woken_fault active walk =
    if not (may_rest walk) then Some rules.Walk
    else if is_awake active then Some rules.Cpu
    else None

-- the rule that an event of a CPU breaks, by whether the CPU is awake
abbrev pub state_fault : CpuKind → Option Bool → Walk → Option Rule
state_fault Asleep active walk = sleep_fault active walk
state_fault Offline active walk = sleep_fault active walk
state_fault Online active walk = if may_rest walk then None else Some rules.Walk
state_fault Awake active walk = woken_fault active walk
state_fault NewTimer active walk = woken_fault active walk
state_fault StillAsleep active walk = woken_fault active walk
state_fault RunElsewhere active walk = woken_fault active walk

-- the line is that of another CPU
abbrev pub is_elsewhere : CpuKind → Bool
is_elsewhere RunElsewhere = true
is_elsewhere Online = false
is_elsewhere Awake = false
is_elsewhere Asleep = false
is_elsewhere Offline = false
is_elsewhere NewTimer = false
is_elsewhere StillAsleep = false

-- what an event of a CPU breaks
abbrev pub cpu_fault : Sight → CpuId → CpuEvent → Option Rule
cpu_fault s own t =
    if not (parent_fits (cpu_at s t.cpu).leaf t.leaf) then Some rules.Tree
    else if not (is_elsewhere t.kind) && not (t.cpu.0 == own.0) then Some rules.Cpu
    else fault_or (state_fault t.kind (cpu_at s t.cpu).active (cpu_at s own).walk)
    (told_fault t.kind s.clock t (cpu_at s t.cpu))

-- whether a CPU is awake after its event
abbrev pub active_after : CpuKind → Option Bool
active_after Awake = Some true
active_after Online = None
active_after Asleep = Some false
active_after Offline = Some false
active_after NewTimer = Some false
active_after StillAsleep = Some false
active_after RunElsewhere = Some false

-- a CPU's walk after its event
abbrev pub walk_told : CpuKind → CpuEvent → Walk → Walk
walk_told Awake t walk = Rising (record { group = t.leaf; from = 0; surely = true })
walk_told Asleep t walk = Closed
walk_told Offline t walk = Closed
walk_told Online t walk = quiet walk
walk_told NewTimer t walk = quiet walk
walk_told StillAsleep t walk = quiet walk
walk_told RunElsewhere t walk = quiet walk

-- the CPU that the event names is learned
unfoldable pub with_named : Sight → CpuEvent → Sight
with_named s t =
    with_cpu s
    (spoken t.kind t
    (record (cpu_at s t.cpu) { leaf = Some t.leaf; active = active_after t.kind }))

-- .. and the CPU that wrote the line
unfoldable pub with_writer : Sight → ℕ → CpuId → CpuEvent → Sight
with_writer s line own t =
    with_cpu s
    (record (cpu_at s own) {
      walk = walk_told t.kind t (cpu_at s own).walk;
      last = line;
      run = run_told t.kind t;
    })

-- what an event of a CPU teaches
abbrev pub learned_cpu : Sight → ℕ → CpuId → CpuEvent → Sight
learned_cpu s line own t = with_writer (with_named s t) line own t

-- the CPU did something else than walk
unfoldable pub moved_on : Sight → ℕ → CpuId → Sight
moved_on s line own =
    with_cpu s
    (record (cpu_at s own) { walk = quiet (cpu_at s own).walk; last = line; run = runs.Own })

-- the number of the child from which a CPU comes to a group, by the group to which it came before
abbrev pub number_from : Option Look → Sight → ℕ → Option ℕ
number_from None s group = None
number_from (Some l) s group =
    if same_pointer (group_at s l.group).parent (Some group) then (group_at s l.group).bit else None

-- .. or its own number, in its leaf
abbrev pub number_at : Sight → CpuSeen → ℕ → Option ℕ
number_at s c group =
    if same_pointer c.leaf (Some group) then c.bit else number_from c.looks s group

-- the group to which a CPU comes, with the number of the child from which it does
unfoldable pub look_seen : Sight → CpuId → ℕ → Look
look_seen s own group = record { group = group; bit = number_at s (cpu_at s own) group }

-- a CPU that came there
unfoldable pub with_look : Sight → ℕ → CpuId → Look → Sight
with_look s line own look =
    with_cpu s
    (record (cpu_at s own) {
      walk = quiet (cpu_at s own).walk;
      last = line;
      run = runs.Own;
      looks = Some look;
    })

-- the CPU came to a group to run timers of others
abbrev pub looked : Sight → ℕ → CpuId → ℕ → Sight
looked s line own group = with_look s line own (look_seen s own group)

-- the update finds the group asleep at which the CPU's walk has to end, since a migrator was left
abbrev pub slept_at : Update → CpuSeen → Bool
slept_at u c = u.group_active == 0 && same_pointer c.left (Some u.group)

-- the CPU has gone on in its walk or its run by an update, and found a wakeup or not
unfoldable pub with_first : Sight → ℕ → CpuId → Option ℕ → Update → Sight
with_first s line own first u =
    with_cpu s
    (record (cpu_at s own) {
      walk = quiet (cpu_at s own).walk;
      last = line;
      first = first;
      slept = slept_at u (cpu_at s own);
    })

-- the wakeup that a CPU's walk has found after its update
unfoldable pub first_seen : Sight → CpuId → Update → Option ℕ
first_seen s own u =
    first_after (cpu_at s own).run (group_at s u.group).parent u (cpu_at s own).first

-- what an update of a queue teaches
unfoldable pub learned_update : Sight → ℕ → CpuId → Update → Sight
learned_update s line own u =
    with_first
    (with_hidden (with_event s (cpu_at s own).run own u) (cpu_at s own).run u.group) line own
    (first_seen s own u) u

-- a group that may stand at this level
abbrev pub is_level : Option Spot → ℕ → Bool
is_level None level = true
is_level (Some spot) level = spot.level == level

-- the CPU's walk of activation has to go on
abbrev pub must_rise : Walk → Bool
must_rise (Rising next) = next.surely
must_rise Unknown = false
must_rise Closed = false
must_rise (Falling next) = false
must_rise Ending = false
must_rise (Hung next) = false

-- what an update of a group's queue breaks
abbrev pub update_fault : Sight → CpuId → Update → Option Rule
update_fault s own u =
    if not (is_level (group_at s u.group).spot u.level) || not (is_child s (cpu_at s own).run own u)
    then Some rules.Tree
    else if must_rise (cpu_at s own).walk then Some rules.Walk
    else if not (u.child_active == 0) then Some rules.Event
    else if u.expiries.stored == NO_EXPIRY then None
    else if nat_lt u.expiries.stored u.expiries.first
    || (not (u.child == 0) && not (u.expiries.child_first == u.expiries.stored))
    then Some rules.Event
    else if some_sooner s (cpu_at s own).run own u s.clock then Some rules.First
    else None

-- the walk that hangs a child below its parent
abbrev pub hung : ℕ → Joining → Walk
hung child j = Hung (record { group = j.parent.group; from = child; surely = false })

-- where a group stands is learned
unfoldable pub learned_place : Sight → Place → Sight
learned_place s place =
    with_group s (record (group_at s place.group) { spot = Some (spot_of place) })

-- a group's parent is learned
unfoldable pub with_link : Sight → ℕ → Joining → Sight
with_link s child j =
    with_group s
    (record (group_at s child) {
      parent = Some j.parent.group;
      bit = Some j.bit;
      told = false;
      event = None;
    })

-- .. and that its CPU goes on from there
unfoldable pub with_hung : Sight → ℕ → CpuId → ℕ → Joining → Sight
with_hung s line own child j =
    with_cpu s (record (cpu_at s own) { walk = hung child j; last = line; run = runs.Own })

-- what the hanging of a group teaches
abbrev pub learned_group_link : Sight → ℕ → CpuId → ℕ → Joining → Sight
learned_group_link s line own child j =
    with_hung (with_link (learned_place s j.parent) child j) line own child j

-- a CPU's leaf is learned
unfoldable pub with_leaf : Sight → CpuId → Joining → Sight
with_leaf s cpu j =
    with_cpu s
    (record (cpu_at s cpu) {
      leaf = Some j.parent.group;
      bit = Some j.bit;
      told = false;
      event = None;
    })

-- what the hanging of a CPU teaches
abbrev pub learned_cpu_link : Sight → ℕ → CpuId → CpuId → Joining → Sight
learned_cpu_link s line own cpu j = moved_on (with_leaf (learned_place s j.parent) cpu j) line own

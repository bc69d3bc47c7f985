-- queues: the events, the told expiries and the wakeups of which lines speak
use Rattle.std.specs.Prelude.{ℕ, ◌==◌, ◌&&◌, ◌||◌, not, nat_le, Bool, true}
use Rattle.std.specs.Prelude.{Option, Some, None, if◌then◌else◌}
use Rattle.tm_base.specs.declared.names.CpuId.{CpuId}
use Rattle.linux_lines.specs.declared.events.TheConstants.{NO_EXPIRY}
use Rattle.linux_lines.specs.declared.events.Exchange.{Exchange}
use Rattle.linux_lines.specs.declared.events.Update.{Update}
use Rattle.linux_lines.specs.declared.events.CpuEvent.{CpuEvent}
use Rattle.linux_lines.specs.declared.events.CpuKind.{CpuKind}
use Rattle.linux_lines.specs.declared.events.CpuKind.TheVariants.{Online, Awake, Asleep, Offline}
use Rattle.linux_lines.specs.declared.events.CpuKind.TheVariants.{NewTimer, StillAsleep}
use Rattle.linux_lines.specs.declared.events.CpuKind.TheVariants.{RunElsewhere}
use Rattle.linux_seen.specs.declared.rules.Rule.{Rule}
use Rattle.linux_seen.specs.declared.rules.Rule.TheVariants as rules
use Rattle.linux_seen.specs.declared.seen.Run.{Run}
use Rattle.linux_seen.specs.declared.seen.Run.TheVariants as runs
use Rattle.linux_seen.specs.declared.seen.CpuSeen.{CpuSeen}
use Rattle.linux_seen.specs.Seen.{Sight, cpu_at, group_at, put_cpu, put_group}

-- ---- what an exchange shows

-- the event of a group that wakes is ignored in its parent
abbrev pub event_after : Exchange → Option ℕ → Option ℕ
event_after e event = if e.joins then Some NO_EXPIRY else event

-- a walk of deactivation begins at a leaf, and has found no wakeup yet
abbrev pub first_begun : Exchange → Option ℕ → Option ℕ
first_begun e first = if not e.joins && e.place.level == 0 then Some NO_EXPIRY else first

-- ---- what an event of a CPU shows

-- a CPU that goes idle and tells nothing has its event ignored
abbrev pub event_told : ℕ → Option ℕ → Option ℕ
event_told expiry event = if expiry == NO_EXPIRY then Some NO_EXPIRY else event

-- the CPU's queue side after its event: its event in its leaf, what it told, the wakeup that it
-- keeps, and the one that its walk has found
unfoldable pub spoken : CpuKind → CpuEvent → CpuSeen → CpuSeen
spoken Online t c = record c { event = None; timer = None; wakeup = None; first = None }
spoken Awake t c =
    record c { event = Some NO_EXPIRY; timer = None; wakeup = Some NO_EXPIRY; first = None }
spoken Asleep t c = record c {
  event = event_told t.expiry c.event;
  timer = Some t.expiry;
  wakeup = Some t.wakeup;
  first = None;
}
spoken Offline t c = record c { event = Some NO_EXPIRY; timer = None; wakeup = None; first = None }
spoken NewTimer t c = record c { timer = None; wakeup = None; first = Some NO_EXPIRY }
spoken StillAsleep t c =
    record c { timer = Some t.expiry; wakeup = Some t.wakeup; first = None }
spoken RunElsewhere t c = record c { event = None; timer = None; wakeup = Some NO_EXPIRY }

-- whose timers a CPU runs after its event's line
abbrev pub run_told : CpuKind → CpuEvent → Run
run_told RunElsewhere t = runs.Of t.cpu
run_told Online t = runs.Own
run_told Awake t = runs.Own
run_told Asleep t = runs.Own
run_told Offline t = runs.Own
run_told NewTimer t = runs.Own
run_told StillAsleep t = runs.Own

-- the wakeup is the one that the CPU's walk has found, where that is known
abbrev pub is_found : Option ℕ → ℕ → Bool
is_found None wakeup = true
is_found (Some first) wakeup = first == wakeup

-- the leaf has what its CPU tells, where that is known; what is due may have been taken out
abbrev pub is_kept : Option ℕ → Option ℕ → ℕ → Bool
is_kept None event told = true
is_kept (Some now) None told = true
is_kept (Some now) (Some expiry) told =
    expiry == told || told == NO_EXPIRY || nat_le told now

-- what the expiry and the wakeup that a CPU tells break
abbrev pub words_fault : Option ℕ → CpuEvent → CpuSeen → Option Rule
words_fault now t c =
    if not (is_found c.first t.wakeup) then Some rules.Wakeup
    else if not (is_kept now c.event t.expiry) then Some rules.Event
    else None

-- another CPU runs a CPU's timers where its event is due, as far as that is known
abbrev pub due_by : Option ℕ → Option ℕ → Option Rule
due_by None event = None
due_by (Some now) None = None
due_by (Some now) (Some expiry) = if nat_le expiry now then None else Some rules.Remote

-- what the queue side of a CPU's event breaks
abbrev pub told_fault : CpuKind → Option ℕ → CpuEvent → CpuSeen → Option Rule
told_fault Asleep now t c = words_fault now t c
told_fault StillAsleep now t c = words_fault now t c
told_fault Online now t c = None
told_fault Awake now t c = None
told_fault Offline now t c = None
told_fault NewTimer now t c = None
told_fault RunElsewhere now t c = due_by now c.event

-- ---- what an update of a queue shows

-- at a leaf the event is that of the CPU itself, or of the one whose timers it runs, which is told
-- by that too
unfoldable pub with_leaf_event : Sight → Run → CpuId → ℕ → Sight
with_leaf_event s runs.Unknown own stored = s
with_leaf_event s runs.Own own stored =
    record s { cpus = put_cpu s.cpus (record (cpu_at s own) { event = Some stored }) }
with_leaf_event s (runs.Of cpu) own stored = record s {
  cpus = put_cpu s.cpus (record (cpu_at s cpu) { event = Some stored; timer = Some stored });
}

-- the event of a group in its parent
unfoldable pub with_group_event : Sight → ℕ → Option ℕ → Sight
with_group_event s group event =
    record s { groups = put_group s.groups (record (group_at s group) { event = event }) }

-- the child's event after an update
abbrev pub with_event : Sight → Run → CpuId → Update → Sight
with_event s run own u =
    if u.child == 0 then with_leaf_event s run own u.expiries.stored
    else with_group_event s u.child (Some u.expiries.stored)

-- in a run for another CPU what is stored above, at a sleeping top, has no line
abbrev pub with_hidden : Sight → Run → ℕ → Sight
with_hidden s runs.Own group = s
with_hidden s runs.Unknown group = with_group_event s group None
with_hidden s (runs.Of cpu) group = with_group_event s group None

-- the wakeup that a walk finds at a group: at the top the first event
abbrev pub first_at : Option ℕ → Update → Option ℕ → Option ℕ
first_at None u first = None
first_at (Some parent) u first = if parent == 0 then Some u.expiries.first else first

-- .. at a group that sleeps
abbrev pub first_found : Option ℕ → Update → Option ℕ → Option ℕ
first_found parent u first = if u.group_active == 0 then first_at parent u first else first

-- .. on a walk of the CPU's own
abbrev pub first_after : Run → Option ℕ → Update → Option ℕ → Option ℕ
first_after runs.Own parent u first = first_found parent u first
first_after runs.Unknown parent u first = first
first_after (runs.Of cpu) parent u first = first

-- the lines of a trace
use Rattle.std.specs.Prelude.{ℕ, ◌-◌, List, [], ◌∷◌, Bool, true, false, option_map}
use Rattle.std.specs.Prelude.{◌&&◌, ◌||◌, ◌==◌, nat_lt, codes, Option, Some, None, is_some}
use Rattle.std.specs.Prelude.{Result, Ok, Err, bytes_eq, if◌then◌else◌, option_and_then}
use Rattle.std.specs.List.{list_all}
use Rattle.std.specs.Char.{is_ascii_digit}
use Rattle.tm_base.specs.declared.limits.TheConstants.{CPU_SET_SIZE}
use Rattle.tm_base.specs.declared.names.CpuId.{CpuId}
use Rattle.linux_lines.specs.declared.faults.LineFault.{LineFault}
use Rattle.linux_lines.specs.declared.faults.LineFault.TheVariants.{NoEvent, BadCpu}
use Rattle.linux_lines.specs.declared.events.TheConstants.{NO_EXPIRY}
use Rattle.linux_lines.specs.declared.events.Joining.{Joining}
use Rattle.linux_lines.specs.declared.events.Exchange.{Exchange}
use Rattle.linux_lines.specs.declared.events.CpuEvent.{CpuEvent}
use Rattle.linux_lines.specs.declared.events.CpuKind.{CpuKind}
use Rattle.linux_lines.specs.declared.events.CpuKind.TheVariants as kinds
use Rattle.linux_lines.specs.declared.events.Update.{Update}
use Rattle.linux_lines.specs.declared.events.Expiries.{Expiries}
use Rattle.linux_lines.specs.declared.happenings.EventName.{EventName}
use Rattle.linux_lines.specs.declared.happenings.EventName.TheVariants as names
use Rattle.linux_lines.specs.declared.events.Happening.{Happening}
use Rattle.linux_lines.specs.declared.events.Happening.TheVariants.{GroupMade, GroupJoined}
use Rattle.linux_lines.specs.declared.events.Happening.TheVariants.{CpuJoined}
use Rattle.linux_lines.specs.declared.events.Happening.TheVariants.{Exchanged, CpuTold, Updated}
use Rattle.linux_lines.specs.declared.events.Happening.TheVariants.{Handling}
use Rattle.linux_lines.specs.declared.events.Line.{Line}
use Rattle.linux_lines.specs.declared.events.Line.TheVariants.{Remark, Loss, Foreign, Told}
use Rattle.linux_lines.specs.declared.events.Line.TheVariants.{OfTimer}
use Rattle.linux_lines.specs.declared.timers.TimerName.{TimerName}
use Rattle.linux_lines.specs.declared.numbers.Base.TheVariants.{Ten}
use Rattle.linux_lines.specs.Times.{stamp_time}
use Rattle.linux_lines.specs.Timers.{timer_event_of, timer_name_of}
use Rattle.linux_lines.specs.Parts.{before, behind, bracketed, parts_of, without}
use Rattle.linux_lines.specs.Numbers.{number_of}
use Rattle.linux_lines.specs.Fields.{◌>>=◌, child_at, expiry_at, mask_at, number_at, place_at}
use Rattle.linux_lines.specs.Fields.{pointer_at}

-- ---- what the events say, by the parts behind their names

-- a group or a CPU that is hung below a parent
unfoldable pub joining_in : List (List ℕ) → Result Joining LineFault
joining_in parts = do
  bit ← child_at parts
  parent ← place_at (codes "parent=") parts
  children ← number_at (codes "num_children=") 255 parts
  Ok (record { bit = bit; parent = parent; children = children })

-- the migrator's bit; a trace has ff for none
abbrev pub migrator_of : ℕ → ℕ
migrator_of mask = if mask == 255 then 0 else mask

-- an exchange of a group's word
unfoldable pub exchange_in : Bool → List (List ℕ) → Result Exchange LineFault
exchange_in joins parts = do
  place ← place_at (codes "group=") parts
  active ← mask_at (codes "active=") 255 parts
  migrator ← mask_at (codes "migrator=") 255 parts
  parent ← pointer_at (codes "parent=") parts
  bit ← child_at parts
  Ok (record {
    place = place;
    active = active;
    migrator = migrator_of migrator;
    parent = parent;
    bit = bit;
    joins = joins;
  })

-- the first expiry that a CPU tells; the other kinds than these two tell none
unfoldable pub expiry_told : CpuKind → List (List ℕ) → Result ℕ LineFault
expiry_told kinds.Asleep parts = expiry_at (codes "nextevt=") parts
expiry_told kinds.StillAsleep parts = expiry_at (codes "nextevt=") parts
expiry_told kinds.Online parts = Ok NO_EXPIRY
expiry_told kinds.Awake parts = Ok NO_EXPIRY
expiry_told kinds.Offline parts = Ok NO_EXPIRY
expiry_told kinds.NewTimer parts = Ok NO_EXPIRY
expiry_told kinds.RunElsewhere parts = Ok NO_EXPIRY

-- an event of a CPU and its leaf
unfoldable pub cpu_event_in : CpuKind → List (List ℕ) → Result CpuEvent LineFault
cpu_event_in kind parts = do
  cpu ← number_at (codes "cpu=") (CPU_SET_SIZE - 1) parts
  leaf ← pointer_at (codes "parent=") parts
  expiry ← expiry_told kind parts
  wakeup ← expiry_at (codes "wakeup=") parts
  Ok (record {
    kind = kind;
    cpu = record { 0 = cpu };
    leaf = leaf;
    expiry = expiry;
    wakeup = wakeup;
  })

-- the expiries that an update names
unfoldable pub expiries_in : List (List ℕ) → Result Expiries LineFault
expiries_in parts = do
  stored ← expiry_at (codes "nextevt=") parts
  first ← expiry_at (codes "next_expiry=") parts
  child_first ← expiry_at (codes "child_evt_expiry=") parts
  Ok (record { stored = stored; first = first; child_first = child_first })

-- an update of a queue of events
unfoldable pub update_in : List (List ℕ) → Result Update LineFault
update_in parts = do
  child ← pointer_at (codes "child=") parts
  group ← pointer_at (codes "group=") parts
  level ← number_at (codes "group_lvl=") 255 parts
  child_active ← mask_at (codes "child_active=") 255 parts
  group_active ← mask_at (codes "group_active=") 255 parts
  expiries ← expiries_in parts
  Ok (record {
    child = child;
    group = group;
    level = level;
    child_active = child_active;
    group_active = group_active;
    expiries = expiries;
  })

-- the kind of an event of a CPU, by its name; from 6.19 on a CPU is available, not online
unfoldable pub cpu_kind_of : List ℕ → Option CpuKind
cpu_kind_of name =
    if bytes_eq name (codes "tmigr_cpu_online:") then Some kinds.Online
    else if bytes_eq name (codes "tmigr_cpu_available:") then Some kinds.Online
    else if bytes_eq name (codes "tmigr_cpu_active:") then Some kinds.Awake
    else if bytes_eq name (codes "tmigr_cpu_idle:") then Some kinds.Asleep
    else if bytes_eq name (codes "tmigr_cpu_offline:") then Some kinds.Offline
    else if bytes_eq name (codes "tmigr_cpu_unavailable:") then Some kinds.Offline
    else if bytes_eq name (codes "tmigr_cpu_new_timer:") then Some kinds.NewTimer
    else if bytes_eq name (codes "tmigr_cpu_new_timer_idle:") then Some kinds.StillAsleep
    else if bytes_eq name (codes "tmigr_handle_remote_cpu:") then Some kinds.RunElsewhere
    else None

-- the event of this name
unfoldable pub event_of : List ℕ → Option EventName
event_of name =
    if bytes_eq name (codes "tmigr_group_set:") then Some names.GroupSet
    else if bytes_eq name (codes "tmigr_connect_child_parent:") then Some names.ConnectGroup
    else if bytes_eq name (codes "tmigr_connect_cpu_parent:") then Some names.ConnectCpu
    else if bytes_eq name (codes "tmigr_group_set_cpu_active:") then Some names.SetActive
    else if bytes_eq name (codes "tmigr_group_set_cpu_inactive:") then Some names.SetInactive
    else if bytes_eq name (codes "tmigr_update_events:") then Some names.UpdateEvents
    else if bytes_eq name (codes "tmigr_handle_remote:") then Some names.HandleRemote
    else option_map names.OfCpu (cpu_kind_of name)

-- the group whose timers are handled
unfoldable pub handling_in : List (List ℕ) → Result ℕ LineFault
handling_in parts = pointer_at (codes "group=") parts

-- a group is hung below its parent
unfoldable pub group_joining_in : List (List ℕ) → Result Happening LineFault
group_joining_in parts = do
  child ← pointer_at (codes "group=") parts
  joining ← joining_in parts
  Ok (GroupJoined child joining)

-- .. and a CPU
unfoldable pub cpu_joining_in : List (List ℕ) → Result Happening LineFault
cpu_joining_in parts = do
  cpu ← number_at (codes "cpu=") (CPU_SET_SIZE - 1) parts
  joining ← joining_in parts
  Ok (CpuJoined (record { 0 = cpu }) joining)

-- what an event says
unfoldable pub happening_of : EventName → List (List ℕ) → Result Happening LineFault
happening_of names.GroupSet parts = place_at (codes "group=") parts >>= λ x. Ok (GroupMade x)
happening_of names.ConnectGroup parts = group_joining_in parts
happening_of names.ConnectCpu parts = cpu_joining_in parts
happening_of names.SetActive parts = exchange_in true parts >>= λ x. Ok (Exchanged x)
happening_of names.SetInactive parts = exchange_in false parts >>= λ x. Ok (Exchanged x)
happening_of names.UpdateEvents parts = update_in parts >>= λ x. Ok (Updated x)
happening_of names.HandleRemote parts = handling_in parts >>= λ x. Ok (Handling x)
happening_of (names.OfCpu kind) parts = cpu_event_in kind parts >>= λ x. Ok (CpuTold x)

-- ---- a line, by its parts

-- others were lost: CPU:N [LOST .., or ##### CPU N buffer started
unfoldable pub is_loss : List (List ℕ) → Bool
is_loss [] = false
is_loss (first ∷ []) = false
is_loss (first ∷ second ∷ rest) =
    if bytes_eq first (codes "#####") then bytes_eq second (codes "CPU")
    else is_some (behind (codes "CPU:") first) && bytes_eq second (codes "[LOST")

-- a time as it is spelled
abbrev pub are_digits_or_dots : List ℕ → Bool
are_digits_or_dots bytes = list_all (λ b. is_ascii_digit b || b == 46) bytes

-- a part that ends the head of a line by its time
abbrev pub is_time : Option (List ℕ) → Bool
is_time None = false
is_time (Some []) = false
is_time (Some (c ∷ cs)) = are_digits_or_dots (c ∷ cs)

-- digits and dots, and a colon at the end
abbrev pub is_stamp : List ℕ → Bool
is_stamp part = is_time (before (codes ":") part)

-- the time, before which there may be flags, and the parts behind it
abbrev pub stamped_in : List (List ℕ) → Option (Option ℕ × List (List ℕ))
stamped_in [] = None
stamped_in (p ∷ []) = if is_stamp p then Some (stamp_time p, []) else None
stamped_in (p ∷ q ∷ ps) =
    if is_stamp p then Some (stamp_time p, q ∷ ps)
    else if is_stamp q then Some (stamp_time q, ps)
    else None

-- the number in square brackets, where the part is that
abbrev pub number_bracketed : List ℕ → Option ℕ
number_bracketed part = option_and_then (number_of Ten) (bracketed part)

-- a number with a time behind it is the CPU's; a task's name may have numbers in brackets too
abbrev pub head_by : Option ℕ → Option (Option ℕ × List (List ℕ))
    → Option (ℕ × (Option ℕ × List (List ℕ))) → Option (ℕ × (Option ℕ × List (List ℕ)))
head_by None stamped rest = rest
head_by (Some cpu) None rest = rest
head_by (Some cpu) (Some x) rest = Some (cpu, x)

-- the first number in square brackets with a time behind it, the time, and the parts behind that
abbrev pub head_in : List (List ℕ) → Option (ℕ × (Option ℕ × List (List ℕ)))
head_in [] = None
head_in (p ∷ ps) = head_by (number_bracketed p) (stamped_in ps) (head_in ps)

-- the CPU of a number that a machine may have
unfoldable pub cpu_of_number : ℕ → Result CpuId LineFault
cpu_of_number cpu = if nat_lt cpu CPU_SET_SIZE then Ok (record { 0 = cpu }) else Err BadCpu

-- an event of a timer or a softirq, where its name is one
abbrev pub timer_in : CpuId → Option ℕ → Option TimerName → Bool → List (List ℕ)
    → Result Line LineFault
timer_in cpu at None strange parts = Ok (Foreign cpu strange)
timer_in cpu at (Some name) strange parts =
    timer_event_of name parts >>= λ x. Ok (OfTimer cpu at x)

-- an event of this CPU at this time, where its name is known; or else the line is this
abbrev pub told_in : CpuId → Option ℕ → Option EventName → List (List ℕ) → Result Line LineFault
    → Result Line LineFault
told_in cpu at None parts other = other
told_in cpu at (Some name) parts other = happening_of name parts >>= λ x. Ok (Told cpu at x)

-- an event's own name: perf script puts its system in front
unfoldable pub bare : List ℕ → List ℕ
bare name =
    without (codes "irq:") (without (codes "timer:") (without (codes "timer_migration:") name))

-- an event of timer migration, by its name
abbrev pub is_migration : List ℕ → Bool
is_migration name = is_some (behind (codes "tmigr_") name)

-- the parts behind this name
abbrev pub called_in : CpuId → Option ℕ → List ℕ → List (List ℕ) → Result Line LineFault
called_in cpu at name parts =
    told_in cpu at (event_of name) parts
    (timer_in cpu at (timer_name_of name) (is_migration name) parts)

-- the parts from the name on
abbrev pub named_in : CpuId → Option ℕ → List (List ℕ) → Result Line LineFault
named_in cpu at [] = Ok (Foreign cpu false)
named_in cpu at (name ∷ parts) = called_in cpu at (bare name) parts

-- ---- what is no event

-- the first part is this word
abbrev pub begins_with : List ℕ → List (List ℕ) → Bool
begins_with word [] = false
begins_with word (p ∷ ps) = bytes_eq p word

-- what trace-cmd report says of the whole file, and where a stack goes on
unfoldable pub is_aside : List ℕ → Bool
is_aside line =
    is_some (behind (codes "cpus=") line)
    || (is_some (behind (codes "CPU ") line) && is_some (before (codes " is empty") line))
    || begins_with (codes "=>") (parts_of line)

-- a line by its head: without one it is none of a trace, unless it stands aside
abbrev pub event_by : Option (ℕ × (Option ℕ × List (List ℕ))) → Bool → Result Line LineFault
event_by None aside = if aside then Ok Remark else Err NoEvent
event_by (Some head) aside = do
  cpu ← cpu_of_number head.0
  named_in cpu head.1.0 head.1.1

-- lines that trace-cmd report says were lost: CPU:N [EVENTS DROPPED], with their number or without
abbrev pub is_dropped : List ℕ → Bool
is_dropped line =
    is_some (behind (codes "CPU:") line) && is_some (before (codes "EVENTS DROPPED]") line)

-- a line without parts
abbrev pub has_none : List (List ℕ) → Bool
has_none [] = true
has_none (p ∷ ps) = false

-- a comment, or an empty line
abbrev pub is_remark : List ℕ → Bool
is_remark line = is_some (behind (codes "#") line) || has_none (parts_of line)

-- what a line says
unfoldable pub line_of : List ℕ → Result Line LineFault
line_of line =
    if is_loss (parts_of line) || is_dropped line then Ok Loss
    else if is_remark line then Ok Remark
    else event_by (head_in (parts_of line)) (is_aside line)

-- ---- where the buffers begin

-- the kernel's word that a CPU's buffer begins here, since what it had before was overwritten
abbrev pub is_mark : List ℕ → Bool
is_mark line = is_some (behind (codes "##### CPU ") line)

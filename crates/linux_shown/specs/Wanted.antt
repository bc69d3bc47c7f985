-- what a rule wanted of a line
use Rattle.std.specs.Prelude.{ℕ, ◌==◌, ◌&&◌, not, nat_lt, List, ◌++◌, codes}
use Rattle.std.specs.Prelude.{Option, Some, None, if◌then◌else◌}
use Rattle.tm_base.specs.declared.names.CpuId.{CpuId}
use Rattle.group_word.specs.declared.state.GroupState.{GroupState}
use Rattle.linux_lines.specs.declared.events.Exchange.{Exchange}
use Rattle.linux_lines.specs.declared.events.CpuEvent.{CpuEvent}
use Rattle.linux_lines.specs.declared.events.CpuKind.{CpuKind}
use Rattle.linux_lines.specs.declared.events.CpuKind.TheVariants.{Online, Awake, Asleep, Offline}
use Rattle.linux_lines.specs.declared.events.CpuKind.TheVariants.{NewTimer, StillAsleep}
use Rattle.linux_lines.specs.declared.events.CpuKind.TheVariants.{RunElsewhere}
use Rattle.linux_lines.specs.declared.events.Happening.{Happening}
use Rattle.linux_lines.specs.declared.events.Happening.TheVariants.{GroupMade, GroupJoined}
use Rattle.linux_lines.specs.declared.events.Happening.TheVariants.{CpuJoined, Exchanged, CpuTold}
use Rattle.linux_lines.specs.declared.events.Happening.TheVariants.{Updated, Handling}
use Rattle.linux_seen.specs.declared.rules.Rule.{Rule}
use Rattle.linux_seen.specs.declared.rules.Rule.TheVariants as rules
use Rattle.linux_seen.specs.declared.seen.Next.{Next}
use Rattle.linux_seen.specs.declared.seen.Walk.{Walk}
use Rattle.linux_seen.specs.declared.seen.Walk.TheVariants.{Unknown, Closed, Rising, Falling}
use Rattle.linux_seen.specs.declared.seen.Walk.TheVariants.{Ending, Hung}
use Rattle.linux_seen.specs.declared.seen.Word.{Word}
use Rattle.linux_seen.specs.Seen.{Sight, cpu_at, group_at}
use Rattle.linux_seen.specs.Words.{exchanged, state_of}
use Rattle.linux_seen.specs.Walks.{may_rest}
use Rattle.linux_rules.specs.Cpus.{is_elsewhere}
use Rattle.linux_shown.specs.Pieces.{known_expiry}
use Rattle.linux_shown.specs.Facts.{led_text}

-- a rule's own words, where no more can be said
unfoldable pub plain_wanted : Rule → List ℕ
plain_wanted rules.Group =
    codes "  wanted: a migrator that is an active child, and none only where no child is active\n"
plain_wanted rules.Tree =
    codes "  wanted: that level, parent and number, and a parent one level above its child\n"
plain_wanted rules.Node = codes "  wanted: a parent of that node, or of none\n"
plain_wanted rules.Walk =
    codes "  wanted: its leaf, or the parent of the group to which it came last\n"
plain_wanted rules.Exchange = codes "  wanted: what the exchange makes of that state\n"
plain_wanted rules.Order = codes "  wanted: an order of at most 40 late exchanges\n"
plain_wanted rules.Cpu = codes "  wanted: a line that the CPU writes itself\n"
plain_wanted rules.Event =
    codes "  wanted: a child that sleeps, its own first event, and next_expiry no later than that\n"
plain_wanted rules.First = codes "  wanted: next_expiry no later than that\n"
plain_wanted rules.Remote = codes "  wanted: an event that is there and due\n"
plain_wanted rules.Wakeup = codes "  wanted: that as the wakeup\n"
plain_wanted rules.Rest =
    codes "  wanted: with this line, a bit that is set exactly where its child is active\n"
plain_wanted rules.Told =
    codes "  wanted: with this line, a migrator above it that is awake, or a wakeup by then\n"
plain_wanted rules.Timer =
    codes "  wanted: its bucket by the wheel, and a run once its base has come to that\n"

-- the state that an exchange makes
abbrev pub made_of : Option GroupState → Exchange → Option GroupState
made_of None e = None
made_of (Some state) e = if nat_lt e.bit 8 then Some (exchanged state e) else None

-- .. of a word that is known
unfoldable pub state_made : Option Word → Exchange → Option GroupState
state_made None e = None
state_made (Some word) e = made_of (state_of word) e

-- that state in words
unfoldable pub state_wanted : Option GroupState → List ℕ
state_wanted None = plain_wanted rules.Exchange
state_wanted (Some state) =
    codes "  wanted: " ++ led_text state.migrator state.active ++ codes "\n"

-- what an exchange makes of the group's state
unfoldable pub exchange_wanted : Sight → Happening → List ℕ
exchange_wanted s (Exchanged e) = state_wanted (state_made (group_at s e.place.group).word e)
exchange_wanted s (GroupMade place) = plain_wanted rules.Exchange
exchange_wanted s (GroupJoined child j) = plain_wanted rules.Exchange
exchange_wanted s (CpuJoined joined j) = plain_wanted rules.Exchange
exchange_wanted s (CpuTold t) = plain_wanted rules.Exchange
exchange_wanted s (Updated u) = plain_wanted rules.Exchange
exchange_wanted s (Handling group) = plain_wanted rules.Exchange

-- how a walk goes on
abbrev pub going_wanted : Next → List ℕ
going_wanted next =
    if next.surely then codes "  wanted: an exchange on that group\n"
    else codes "  wanted: an exchange on that group, or the end of the walk\n"

-- the next step of a walk
unfoldable pub step_wanted : Walk → List ℕ
step_wanted Unknown = plain_wanted rules.Walk
step_wanted Closed = codes "  wanted: tmigr_cpu_active, or an exchange at its leaf\n"
step_wanted (Rising next) = going_wanted next
step_wanted (Falling next) = going_wanted next
step_wanted Ending =
    codes "  wanted: the end of the walk (tmigr_cpu_idle, or the CPU leaves)\n"
step_wanted (Hung next) = codes "  wanted: an exchange on that group, or at its leaf\n"

-- .. of a CPU that wrote this
unfoldable pub walk_wanted : Walk → Happening → List ℕ
walk_wanted walk (Handling group) =
    if may_rest walk then plain_wanted rules.Walk else step_wanted walk
walk_wanted walk (GroupMade place) = step_wanted walk
walk_wanted walk (GroupJoined child j) = step_wanted walk
walk_wanted walk (CpuJoined joined j) = step_wanted walk
walk_wanted walk (Exchanged e) = step_wanted walk
walk_wanted walk (CpuTold t) = step_wanted walk
walk_wanted walk (Updated u) = step_wanted walk

-- who may write such a line
abbrev pub kind_wanted : CpuKind → List ℕ
kind_wanted Asleep = codes "  wanted: a CPU that is awake\n"
kind_wanted Offline = codes "  wanted: a CPU that is awake\n"
kind_wanted Online = codes "  wanted: a CPU that is asleep\n"
kind_wanted Awake = codes "  wanted: a CPU that is asleep\n"
kind_wanted NewTimer = codes "  wanted: a CPU that is asleep\n"
kind_wanted StillAsleep = codes "  wanted: a CPU that is asleep\n"
kind_wanted RunElsewhere = codes "  wanted: a CPU that is asleep\n"

-- .. of whom
unfoldable pub teller_wanted : CpuId → CpuEvent → List ℕ
teller_wanted own t =
    if not (is_elsewhere t.kind) && not (t.cpu.0 == own.0) then plain_wanted rules.Cpu
    else kind_wanted t.kind

-- which CPU the line may name
unfoldable pub cpu_wanted : CpuId → Happening → List ℕ
cpu_wanted own (CpuTold t) = teller_wanted own t
cpu_wanted own (GroupMade place) = plain_wanted rules.Cpu
cpu_wanted own (GroupJoined child j) = plain_wanted rules.Cpu
cpu_wanted own (CpuJoined joined j) = plain_wanted rules.Cpu
cpu_wanted own (Exchanged e) = plain_wanted rules.Cpu
cpu_wanted own (Updated u) = plain_wanted rules.Cpu
cpu_wanted own (Handling group) = plain_wanted rules.Cpu

-- the event that a CPU has to tell
unfoldable pub event_wanted : Sight → Happening → List ℕ
event_wanted s (CpuTold t) =
    known_expiry (codes "  wanted: nextevt ") (cpu_at s t.cpu).event ++ codes "\n"
event_wanted s (GroupMade place) = plain_wanted rules.Event
event_wanted s (GroupJoined child j) = plain_wanted rules.Event
event_wanted s (CpuJoined joined j) = plain_wanted rules.Event
event_wanted s (Exchanged e) = plain_wanted rules.Event
event_wanted s (Updated u) = plain_wanted rules.Event
event_wanted s (Handling group) = plain_wanted rules.Event

-- WHAT A RULE WANTED of the line of this CPU, by what was known before it
unfoldable pub rule_wanted : Rule → Sight → CpuId → Happening → List ℕ
rule_wanted rules.Exchange s own h = exchange_wanted s h
rule_wanted rules.Walk s own h = walk_wanted (cpu_at s own).walk h
rule_wanted rules.Cpu s own h = cpu_wanted own h
rule_wanted rules.Event s own h = event_wanted s h
rule_wanted rules.Group s own h = plain_wanted rules.Group
rule_wanted rules.Tree s own h = plain_wanted rules.Tree
rule_wanted rules.Node s own h = plain_wanted rules.Node
rule_wanted rules.Order s own h = plain_wanted rules.Order
rule_wanted rules.First s own h = plain_wanted rules.First
rule_wanted rules.Remote s own h = plain_wanted rules.Remote
rule_wanted rules.Wakeup s own h = plain_wanted rules.Wakeup
rule_wanted rules.Rest s own h = plain_wanted rules.Rest
rule_wanted rules.Told s own h = plain_wanted rules.Told
rule_wanted rules.Timer s own h = plain_wanted rules.Timer

-- exchanges on groups: the rules that one may break, and what is known after it
use Rattle.std.specs.Prelude.{ℕ, ◌==◌, ◌&&◌, ◌||◌, not, Bool, true, false, List}
use Rattle.std.specs.Prelude.{Option, Some, None, is_none, if◌then◌else◌}
use Rattle.std.specs.List.{list_any}
use Rattle.tm_base.specs.declared.names.CpuId.{CpuId}
use Rattle.linux_lines.specs.declared.events.Place.{Place}
use Rattle.linux_lines.specs.declared.events.Exchange.{Exchange}
use Rattle.linux_seen.specs.declared.rules.Rule.{Rule}
use Rattle.linux_seen.specs.declared.rules.Rule.TheVariants as rules
use Rattle.linux_seen.specs.declared.seen.Spot.{Spot}
use Rattle.linux_seen.specs.declared.seen.Run.TheVariants as runs
use Rattle.linux_seen.specs.declared.seen.Word.{Word}
use Rattle.linux_seen.specs.declared.seen.Late.{Late}
use Rattle.linux_seen.specs.declared.seen.GroupSeen.{GroupSeen}
use Rattle.linux_seen.specs.declared.seen.CpuSeen.{CpuSeen}
use Rattle.linux_seen.specs.Seen.{Sight, cpu_at, group_at, put_cpu, put_group}
use Rattle.linux_seen.specs.Words.{state_of, word_after}
use Rattle.linux_seen.specs.Tree.{bit_fits, cpus_free, groups_free, is_below, node_fits}
use Rattle.linux_seen.specs.Tree.{parent_fits, spot_fits}
use Rattle.linux_rules.specs.Orders.{Waiting, is_next, is_on, taken}
use Rattle.linux_rules.specs.Queues.{event_after, first_begun}
use Rattle.linux_seen.specs.Walks.{allows, came_from, walk_after}

-- with this group as it is seen now
abbrev pub with_group : Sight → GroupSeen → Sight
with_group s g = record s { groups = put_group s.groups g }

-- with this CPU as it is seen now
abbrev pub with_cpu : Sight → CpuSeen → Sight
with_cpu s c = record s { cpus = put_cpu s.cpus c }

-- ---- the rules

-- the exchange's child is the one from which its walk comes
abbrev pub bit_from : Option ℕ → Sight → CpuId → Exchange → Bool
bit_from None s cpu e = true
bit_from (Some from) s cpu e =
    if from == 0
    then bit_fits (cpu_at s cpu).bit e.bit && cpus_free s.cpus e.place.group e.bit cpu
    else bit_fits (group_at s from).bit e.bit && groups_free s.groups e.place.group e.bit from

-- the child has the number that it was seen with, and no other has it
abbrev pub bit_is_right : Sight → CpuId → Exchange → Bool
bit_is_right s cpu e = bit_from (came_from (cpu_at s cpu).walk e) s cpu e

-- the rule that the place of an exchange breaks
abbrev pub place_fault : Sight → Exchange → Option Rule
place_fault s e =
    if not (spot_fits s e.place) || not (parent_fits (group_at s e.place.group).parent e.parent)
    || not (is_below e.place.level (group_at s e.parent).spot)
    then Some rules.Tree
    else if not (node_fits e.place.node (group_at s e.parent).spot) then Some rules.Node
    else None

-- the first of two faults
abbrev pub fault_or : Option Rule → Option Rule → Option Rule
fault_or None later = later
fault_or (Some rule) later = Some rule

-- what an exchange breaks by its own line
abbrev pub exchange_fault : Sight → CpuId → Exchange → Option Rule
exchange_fault s cpu e =
    if is_none (state_of (word_after e)) then Some rules.Group
    else fault_or (place_fault s e)
    (if not (allows (cpu_at s cpu) e) then Some rules.Walk
    else if not (bit_is_right s cpu e) then Some rules.Tree
    else None)

-- an exchange with its line, and the number of its CPU's line before
abbrev pub dated : Sight → ℕ → CpuId → Exchange → Late
dated s line cpu e = record {
  line = line;
  before = (cpu_at s cpu).last;
  cpu = cpu;
  exchange = e;
}

-- the word before, where the exchange may be made on it
abbrev pub word_if : Option Word → List CpuSeen → CpuId → ℕ → List Late → Late → Option Word
word_if None cs own group ls a = None
word_if (Some word) cs own group ls a =
    if is_next cs own group word ls a then Some word else None

-- the word on which an exchange is made, where it is known
unfoldable pub word_seen : Sight → ℕ → CpuId → Exchange → Option Word
word_seen s line cpu e =
    word_if (group_at s e.place.group).word s.cpus cpu e.place.group s.late (dated s line cpu e)

-- ---- what is known afterwards

-- the level and node of a place
abbrev pub spot_of : Place → Spot
spot_of place = record { level = place.level; node = place.node }

-- a group after an exchange, of this word, while an exchange on it is late or not
abbrev pub group_after : GroupSeen → Exchange → Word → Bool → GroupSeen
group_after g e word late =
    record g {
      spot = Some (spot_of e.place);
      parent = Some e.parent;
      word = Some word;
      late = late;
      event = event_after e g.event;
    }

-- its child group after it
abbrev pub child_after : GroupSeen → Exchange → GroupSeen
child_after h e = record h { parent = Some e.place.group; bit = Some e.bit; told = true }

-- the CPU at its leaf after it
abbrev pub told_by : CpuSeen → Option ℕ → Exchange → CpuSeen
told_by c None e = c
told_by c (Some from) e =
    if from == 0 then record c { leaf = Some e.place.group; bit = Some e.bit; told = true } else c

-- the group at which a walk of deactivation has to end, since a migrator is left
abbrev pub left_by : Exchange → Option ℕ
left_by e = if not e.joins && not (e.migrator == 0) then Some e.place.group else None

-- the CPU that made it, after it
unfoldable pub cpu_after : CpuSeen → ℕ → Option Word → Exchange → CpuSeen
cpu_after c line before e =
    record (told_by c (came_from c.walk e) e) {
      walk = walk_after c.walk before e;
      last = line;
      run = runs.Own;
      first = first_begun e c.first;
      left = left_by e;
      slept = false;
    }

-- what an exchange teaches of its child
unfoldable pub learned_child : Sight → Option ℕ → Exchange → Sight
learned_child s None e = s
learned_child s (Some from) e =
    if from == 0 then s else with_group s (child_after (group_at s from) e)

-- the word of its group and the late exchanges after it
abbrev pub waiting_after : Sight → ℕ → CpuId → Exchange → Waiting
waiting_after s line cpu e =
    taken (group_at s e.place.group).word s.cpus cpu e.place.group s.late (dated s line cpu e)

-- with these late exchanges
abbrev pub with_late : Sight → List Late → Sight
with_late s ls = record s { late = ls }

-- .. and its group of this word
unfoldable pub with_word : Sight → Exchange → Word → Sight
with_word s e word =
    with_group s
    (group_after (group_at s e.place.group) e word (list_any (is_on e.place.group) s.late))

-- .. of its group
abbrev pub learned_group : Sight → ℕ → CpuId → Exchange → Sight
learned_group s line cpu e =
    with_word (with_late s (waiting_after s line cpu e).late) e (waiting_after s line cpu e).word

-- .. of its walk
unfoldable pub learned_walk : Sight → ℕ → CpuId → Option Word → Exchange → Sight
learned_walk s line cpu before e = with_cpu s (cpu_after (cpu_at s cpu) line before e)

-- from where its walk comes
unfoldable pub source_seen : Sight → CpuId → Exchange → Option ℕ
source_seen s cpu e = came_from (cpu_at s cpu).walk e

-- what an exchange shows of its group, of its CPU, and of the child from which it came
abbrev pub learned_exchange : Sight → ℕ → CpuId → Exchange → Sight
learned_exchange s line cpu e =
    learned_child (learned_walk (learned_group s line cpu e) line cpu (word_seen s line cpu e) e)
    (source_seen s cpu e) e

-- WHAT IS SHOWN behind a misfit
use Rattle.std.specs.Prelude.{ℕ, ◌==◌, List, [], ◌++◌, codes, find, Option, Some, None}
use Rattle.std.specs.Prelude.{Result, Ok, Err, if◌then◌else◌}
use Rattle.tm_base.specs.declared.names.CpuId.{CpuId}
use Rattle.linux_lines.specs.declared.faults.LineFault.{LineFault}
use Rattle.linux_lines.specs.declared.events.Line.{Line}
use Rattle.linux_lines.specs.declared.events.Line.TheVariants.{Remark, Loss, Foreign, Told, OfTimer}
use Rattle.linux_lines.specs.declared.events.Update.{Update}
use Rattle.linux_lines.specs.declared.events.Happening.{Happening}
use Rattle.linux_lines.specs.declared.events.Happening.TheVariants.{GroupMade, GroupJoined}
use Rattle.linux_lines.specs.declared.events.Happening.TheVariants.{CpuJoined, Exchanged, CpuTold}
use Rattle.linux_lines.specs.declared.events.Happening.TheVariants.{Updated, Handling}
use Rattle.linux_lines.specs.Lines.{line_of}
use Rattle.linux_seen.specs.declared.rules.Rule.{Rule}
use Rattle.linux_seen.specs.declared.rules.Rule.TheVariants as rules
use Rattle.linux_seen.specs.declared.seen.Run.{Run}
use Rattle.linux_seen.specs.declared.seen.CpuSeen.{CpuSeen}
use Rattle.linux_seen.specs.declared.seen.GroupSeen.{GroupSeen}
use Rattle.linux_seen.specs.declared.whom.Whom.{Whom}
use Rattle.linux_seen.specs.Seen.{Sight, cpu_at, group_at, timed}
use Rattle.linux_rules.specs.declared.judge.Course.{Course}
use Rattle.linux_rules.specs.declared.judge.Misfit.{Misfit}
use Rattle.linux_rules.specs.Firsts.{cpu_sooner, group_sooner}
use Rattle.linux_rules.specs.Judge.{learned}
use Rattle.linux_shown.specs.Pieces.{nanos_text}
use Rattle.linux_shown.specs.Before.{known_before, line_at}
use Rattle.linux_shown.specs.Facts.{edge_facts, event_fact, event_facts, found_facts}
use Rattle.linux_shown.specs.Facts.{group_event_fact, places_facts, state_fact, state_facts}
use Rattle.linux_shown.specs.Facts.{told_facts, walk_fact, word_fact, word_facts}
use Rattle.linux_shown.specs.Timers.{timer_facts, timer_wanted}
use Rattle.linux_shown.specs.Wanted.{plain_wanted, rule_wanted}

-- ---- the event that comes first

-- the event of another CPU of the leaf, or else of another group below the group
abbrev pub sooner_fact : Option CpuSeen → Option GroupSeen → List ℕ
sooner_fact (Some c) group = event_fact c
sooner_fact None None = []
sooner_fact None (Some g) = group_event_fact g

-- .. that is to come, and comes before the group's cached first
abbrev pub sooner_by : Option ℕ → Sight → Run → CpuId → Update → List ℕ
sooner_by None s run own u = []
sooner_by (Some now) s run own u =
    sooner_fact (find (cpu_sooner run own u now) s.cpus) (find (group_sooner u now) s.groups)

-- .. at an update by this CPU
unfoldable pub sooner_facts : Sight → CpuId → Happening → List ℕ
sooner_facts s own (Updated u) = sooner_by s.clock s (cpu_at s own).run own u
sooner_facts s own (GroupMade place) = []
sooner_facts s own (GroupJoined child j) = []
sooner_facts s own (CpuJoined joined j) = []
sooner_facts s own (Exchanged e) = []
sooner_facts s own (CpuTold t) = []
sooner_facts s own (Handling group) = []

-- ---- the child of an event

-- whether the CPU, or the child group, of an update is active
abbrev pub child_facts : Sight → CpuId → Update → List ℕ
child_facts s own u =
    if u.child == 0 then state_fact (cpu_at s own) else word_fact (group_at s u.child)

-- what was known of an event: that of the CPU which tells one, or whether an update's child sleeps
unfoldable pub child_event_facts : Sight → CpuId → Happening → List ℕ
child_event_facts s own (CpuTold t) = event_fact (cpu_at s t.cpu)
child_event_facts s own (Updated u) = child_facts s own u
child_event_facts s own (GroupMade place) = []
child_event_facts s own (GroupJoined child j) = []
child_event_facts s own (CpuJoined joined j) = []
child_event_facts s own (Exchanged e) = []
child_event_facts s own (Handling group) = []

-- ---- a line

-- WHAT WAS KNOWN before the line of this CPU, as far as the rule speaks of it
unfoldable pub before_facts : Rule → Sight → Whom → CpuId → Happening → List ℕ
before_facts rules.Group s w own h = word_facts w.group s
before_facts rules.Exchange s w own h = word_facts w.group s
before_facts rules.Order s w own h = word_facts w.group s
before_facts rules.Tree s w own h = places_facts w s
before_facts rules.Node s w own h = places_facts w s
before_facts rules.Walk s w own h = walk_fact (cpu_at s own)
before_facts rules.Cpu s w own h = state_facts w.cpu s
before_facts rules.Event s w own h = child_event_facts s own h
before_facts rules.First s w own h = sooner_facts s own h
before_facts rules.Remote s w own h = event_facts w.cpu s
before_facts rules.Wakeup s w own h = found_facts w.cpu s
before_facts rules.Rest s w own h = []
before_facts rules.Told s w own h = []
before_facts rules.Timer s w own h = []

-- .. and what the rule wanted
unfoldable pub before_shown : Sight → Misfit → CpuId → Happening → List ℕ
before_shown s m own h =
    before_facts m.rule s m.whom own h ++ rule_wanted m.rule s own h

-- the rules on rests speak of what is known with the line, the others of what was known before it
unfoldable pub shown_by : Rule → Sight → (after : Sight) → Misfit → CpuId → Happening → List ℕ
shown_by rules.Rest s after m own h =
    edge_facts m.whom.cpu m.whom.group after ++ plain_wanted rules.Rest
shown_by rules.Told s after m own h = told_facts m.whom.cpu after ++ plain_wanted rules.Told
shown_by rules.Group s after m own h = before_shown s m own h
shown_by rules.Exchange s after m own h = before_shown s m own h
shown_by rules.Order s after m own h = before_shown s m own h
shown_by rules.Tree s after m own h = before_shown s m own h
shown_by rules.Node s after m own h = before_shown s m own h
shown_by rules.Walk s after m own h = before_shown s m own h
shown_by rules.Cpu s after m own h = before_shown s m own h
shown_by rules.Event s after m own h = before_shown s m own h
shown_by rules.First s after m own h = before_shown s m own h
shown_by rules.Remote s after m own h = before_shown s m own h
shown_by rules.Wakeup s after m own h = before_shown s m own h
shown_by rules.Timer s after m own h = before_shown s m own h

-- what is shown of an event of timer migration, by what was known once its time had come
unfoldable pub told_shown : Sight → Misfit → CpuId → Happening → List ℕ
told_shown s m own h = shown_by m.rule s (learned s m.line own h) m own h

-- .. of a line
unfoldable pub line_shown : Course → Misfit → Line → List ℕ
line_shown k m (Told own at h) = told_shown (timed k.seen at) m own h
line_shown k m (OfTimer own at e) = timer_facts k.timers e ++ timer_wanted e
line_shown k m Remark = []
line_shown k m Loss = []
line_shown k m (Foreign own odd) = []

-- the time at the head of a line
unfoldable pub time_at : Line → Option ℕ
time_at (Told own at h) = at
time_at (OfTimer own at e) = at
time_at Remark = None
time_at Loss = None
time_at (Foreign own odd) = None

-- that time, where there is one
unfoldable pub time_text : Option ℕ → List ℕ
time_text None = codes "  time: none\n"
time_text (Some at) = nanos_text (codes "  time: ") at ++ codes "\n"

-- what is shown of a line, where it is known what was before it
unfoldable pub said_shown : Option Course → Misfit → Line → List ℕ
said_shown None m said = time_text (time_at said)
said_shown (Some k) m said = time_text (time_at said) ++ line_shown k m said

-- .. if it is one
unfoldable pub read_shown : Option Course → Misfit → Result Line LineFault → List ℕ
read_shown k m (Err fault) = []
read_shown k m (Ok said) = said_shown k m said

-- the line as it stands in the trace
unfoldable pub text_shown : List ℕ → List ℕ
text_shown text = codes "  line: " ++ text ++ codes "\n"

-- WHAT IS SHOWN behind a misfit of a trace of these lines: its line, the time, what was known
-- before it, and what the rule wanted
unfoldable pub shown_text : List (List ℕ) → Misfit → List ℕ
shown_text texts m =
    text_shown (line_at m.line texts)
    ++ read_shown (known_before m.line texts) m (line_of (line_at m.line texts))

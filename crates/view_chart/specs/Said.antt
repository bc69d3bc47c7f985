-- what the lines of a report say of CPUs and expiries, and of who answers
use Rattle.std.specs.Prelude.{ℕ, nat_lt, Option, Some, None, if◌then◌else◌}
use Rattle.tm_report.specs.declared.lines.Line.{Line}
use Rattle.tm_report.specs.declared.lines.Line.TheVariants as lines
use Rattle.view_chart.specs.declared.said.Answer.{Answer}
use Rattle.view_chart.specs.declared.said.Change.{Change}
use Rattle.view_chart.specs.declared.said.Run.{Run}
use Rattle.view_chart.specs.declared.said.State.TheVariants as states

-- the jiffy of a line
unfoldable pub line_jiffy : Line → Option ℕ
line_jiffy (lines.Arm now cpu timer class wheel) = Some now
line_jiffy (lines.Run now runner timer home wheel reply) = Some now
line_jiffy (lines.Cancel now cpu timer home) = Some now
line_jiffy (lines.NotQueued now cpu timer) = Some now
line_jiffy (lines.Idle now cpu until) = Some now
line_jiffy (lines.Stay now cpu first) = Some now
line_jiffy (lines.Wake now cpu) = Some now
line_jiffy (lines.Offline now cpu) = Some now
line_jiffy (lines.Handed now cpu to) = Some now
line_jiffy (lines.Online now cpu) = Some now
line_jiffy (lines.Control now cpu) = Some now
line_jiffy (lines.Moved now timer from to wheel) = Some now
line_jiffy (lines.Cover now cpu wheel cover) = Some now
line_jiffy (lines.Refused now cpu line number) = Some now
line_jiffy (lines.RefusedQueued now cpu line number holder) = Some now
line_jiffy (lines.Left timer cpu class wheel) = None
line_jiffy (lines.End now) = Some now
line_jiffy (lines.Why steps cpu timer shown) = None
line_jiffy (lines.Yes steps) = None
line_jiffy (lines.No index) = None
line_jiffy (lines.Device now until) = Some now

-- WHAT A CPU BECOMES by a line. One that gets the timers of a CPU that went offline, or its duty,
-- is made active for it
unfoldable pub change_in : Line → Option Change
change_in (lines.Arm now cpu timer class wheel) = None
change_in (lines.Run now runner timer home wheel reply) = None
change_in (lines.Cancel now cpu timer home) = None
change_in (lines.NotQueued now cpu timer) = None
change_in (lines.Idle now cpu until) = Some (record { cpu = cpu; state = states.Asleep until })
change_in (lines.Stay now cpu first) = None
change_in (lines.Wake now cpu) = Some (record { cpu = cpu; state = states.Awake })
change_in (lines.Offline now cpu) = Some (record { cpu = cpu; state = states.Offline })
change_in (lines.Handed now cpu to) = Some (record { cpu = to; state = states.Awake })
change_in (lines.Online now cpu) = Some (record { cpu = cpu; state = states.Awake })
change_in (lines.Control now cpu) = Some (record { cpu = cpu; state = states.Awake })
change_in (lines.Moved now timer from to wheel) = None
change_in (lines.Cover now cpu wheel cover) = None
change_in (lines.Refused now cpu line number) = None
change_in (lines.RefusedQueued now cpu line number holder) = None
change_in (lines.Left timer cpu class wheel) = None
change_in (lines.End now) = None
change_in (lines.Why steps cpu timer shown) = None
change_in (lines.Yes steps) = None
change_in (lines.No index) = None
change_in (lines.Device now until) = None

-- THE TIMER that a line says was run
unfoldable pub run_in : Line → Option Run
run_in (lines.Arm now cpu timer class wheel) = None
run_in (lines.Run now runner timer home wheel reply) =
    Some (record { at = now; home = home; runner = runner; timer = timer })
run_in (lines.Cancel now cpu timer home) = None
run_in (lines.NotQueued now cpu timer) = None
run_in (lines.Idle now cpu until) = None
run_in (lines.Stay now cpu first) = None
run_in (lines.Wake now cpu) = None
run_in (lines.Offline now cpu) = None
run_in (lines.Handed now cpu to) = None
run_in (lines.Online now cpu) = None
run_in (lines.Control now cpu) = None
run_in (lines.Moved now timer from to wheel) = None
run_in (lines.Cover now cpu wheel cover) = None
run_in (lines.Refused now cpu line number) = None
run_in (lines.RefusedQueued now cpu line number holder) = None
run_in (lines.Left timer cpu class wheel) = None
run_in (lines.End now) = None
run_in (lines.Why steps cpu timer shown) = None
run_in (lines.Yes steps) = None
run_in (lines.No index) = None
run_in (lines.Device now until) = None

-- WHO ANSWERS for the first timer of an idle CPU, if a line tells it
unfoldable pub answer_in : Line → Option Answer
answer_in (lines.Arm now cpu timer class wheel) = None
answer_in (lines.Run now runner timer home wheel reply) = None
answer_in (lines.Cancel now cpu timer home) = None
answer_in (lines.NotQueued now cpu timer) = None
answer_in (lines.Idle now cpu until) = None
answer_in (lines.Stay now cpu first) = None
answer_in (lines.Wake now cpu) = None
answer_in (lines.Offline now cpu) = None
answer_in (lines.Handed now cpu to) = None
answer_in (lines.Online now cpu) = None
answer_in (lines.Control now cpu) = None
answer_in (lines.Moved now timer from to wheel) = None
answer_in (lines.Cover now cpu wheel cover) =
    Some (record { at = now; cpu = cpu; wheel = wheel; cover = cover })
answer_in (lines.Refused now cpu line number) = None
answer_in (lines.RefusedQueued now cpu line number holder) = None
answer_in (lines.Left timer cpu class wheel) = None
answer_in (lines.End now) = None
answer_in (lines.Why steps cpu timer shown) = None
answer_in (lines.Yes steps) = None
answer_in (lines.No index) = None
answer_in (lines.Device now until) = None

-- the higher of two CPUs
abbrev pub higher_cpu : (c d : ℕ) → ℕ
higher_cpu c d = if nat_lt c d then d else c

-- the highest CPU that a line names by what it does, 0 where it names none
unfoldable pub cpu_in : Line → ℕ
cpu_in (lines.Arm now cpu timer class wheel) = cpu.0
cpu_in (lines.Run now runner timer home wheel reply) = higher_cpu runner.0 home.0
cpu_in (lines.Cancel now cpu timer home) = higher_cpu cpu.0 home.0
cpu_in (lines.NotQueued now cpu timer) = cpu.0
cpu_in (lines.Idle now cpu until) = cpu.0
cpu_in (lines.Stay now cpu first) = cpu.0
cpu_in (lines.Wake now cpu) = cpu.0
cpu_in (lines.Offline now cpu) = cpu.0
cpu_in (lines.Handed now cpu to) = higher_cpu cpu.0 to.0
cpu_in (lines.Online now cpu) = cpu.0
cpu_in (lines.Control now cpu) = cpu.0
cpu_in (lines.Moved now timer from to wheel) = higher_cpu from.0 to.0
cpu_in (lines.Cover now cpu wheel cover) = cpu.0
cpu_in (lines.Refused now cpu line number) = cpu.0
cpu_in (lines.RefusedQueued now cpu line number holder) = higher_cpu cpu.0 holder.0
cpu_in (lines.Left timer cpu class wheel) = cpu.0
cpu_in (lines.End now) = 0
cpu_in (lines.Why steps cpu timer shown) = cpu.0
cpu_in (lines.Yes steps) = 0
cpu_in (lines.No index) = 0
cpu_in (lines.Device now until) = 0

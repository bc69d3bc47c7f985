-- the lines that tell what calls answered
use Rattle.std.specs.Prelude.{ℕ, Option, Some, None}
use Rattle.tm_base.specs.declared.names.CpuId.{CpuId}
use Rattle.tm_base.specs.declared.names.TimerId.{TimerId}
use Rattle.tm_report.specs.declared.lines.Line.{Line}
use Rattle.tm_report.specs.declared.lines.Line.TheVariants as lines
use Rattle.tm_report.specs.declared.lines.ShownReply.{ShownReply}
use Rattle.tm_report.specs.declared.lines.ShownReply.TheVariants as shown
use Rattle.idle_wakeup.specs.declared.idling.IdleAnswer.{IdleAnswer}
use Rattle.idle_wakeup.specs.declared.idling.IdleAnswer.TheVariants as answers
use Rattle.shared_acts.specs.declared.runs.Ran.{Ran}
use Rattle.shared_acts.specs.declared.runs.RanReply.{RanReply}
use Rattle.shared_acts.specs.declared.runs.RanReply.TheVariants as ran

-- what a line shows of what became of a timer
abbrev pub reply_shown_of : RanReply → ShownReply
reply_shown_of ran.Done = shown.Done
reply_shown_of (ran.Mark m) = shown.Mark m
reply_shown_of (ran.Again class wheel) = shown.Again class wheel
reply_shown_of (ran.Skip cpu) = shown.Skip cpu

-- the line of a timer that was run
abbrev pub ran_line : (now : ℕ) → (runner : CpuId) → Ran → Line
ran_line now runner x = lines.Run now runner x.timer x.home x.wheel (reply_shown_of x.reply)

-- the line of a cancelling (no public clause cites it)
abbrev pub cancel_line : Option CpuId → (now : ℕ) → CpuId → TimerId → Line
cancel_line None now cpu timer = lines.NotQueued now cpu timer
cancel_line (Some home) now cpu timer = lines.Cancel now cpu timer home

-- the line of a CPU that was to go idle (no public clause cites it)
abbrev pub idle_line : IdleAnswer → (now : ℕ) → CpuId → Line
idle_line (answers.Until until) now cpu = lines.Idle now cpu until
idle_line (answers.Stay first) now cpu = lines.Stay now cpu first

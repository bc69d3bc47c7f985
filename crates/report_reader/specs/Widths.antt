-- The lines that there are: each number has the width of its field.
use Rattle.std.specs.Prelude.{ℕ, ◌<◌, ◌^◌}
use Rattle.tm_base.specs.declared.names.CpuId.{CpuId}
use Rattle.tm_base.specs.declared.names.TimerId.{TimerId}
use Rattle.tm_report.specs.declared.lines.Line.{Line}
use Rattle.tm_report.specs.declared.lines.Line.TheVariants as line
use Rattle.tm_report.specs.declared.lines.ShownReply.{ShownReply}
use Rattle.tm_report.specs.declared.lines.ShownReply.TheVariants as reply
use Rattle.tm_report.specs.declared.lines.ShownCover.{ShownCover}
use Rattle.tm_report.specs.declared.lines.ShownCover.TheVariants as cover
use Rattle.tm_report.specs.declared.lines.ShownReason.{ShownReason}
use Rattle.tm_report.specs.declared.lines.ShownReason.TheVariants as reason

-- a time of 64 bits, in jiffies
abbrev pub FitsTime : ℕ → Type 0
FitsTime at = at < 2 ^ 64

-- a count or a place of 32 bits
abbrev pub FitsCount : ℕ → Type 0
FitsCount n = n < 2 ^ 32

-- a number of 8 bits
abbrev pub FitsByte : ℕ → Type 0
FitsByte n = n < 2 ^ 8

-- a CPU
abbrev pub FitsCpu : CpuId → Type 0
FitsCpu cpu = cpu.0 < 2 ^ 16

-- a timer
abbrev pub FitsTimer : TimerId → Type 0
FitsTimer timer = timer.0 < 2 ^ 16

-- a group, by its level and its place there
abbrev pub FitsGroup : ℕ → ℕ → Type 0
FitsGroup level place = FitsByte level × (place < 2 ^ 16)

-- what a job answered
abbrev pub FitsReply : ShownReply → Type 0
FitsReply reply.Done = Unit {0}
FitsReply (reply.Mark number) = FitsCount number
FitsReply (reply.Again class wheel) = FitsTime wheel
FitsReply (reply.Skip cpu) = FitsCpu cpu

-- what answers for an idle CPU
abbrev pub FitsCover : ShownCover → Type 0
FitsCover (cover.Migrator level place cpu) = FitsGroup level place × FitsCpu cpu
FitsCover (cover.Wake cpu at) = FitsCpu cpu × FitsTime at

-- who answers in the middle of a list of steps
abbrev pub FitsReason : ShownReason → Type 0
FitsReason (reason.Held level place cpu) = FitsGroup level place × FitsCpu cpu
FitsReason (reason.Woken cpu at) = FitsCpu cpu × FitsTime at
FitsReason (reason.Carried number) = FitsByte number
FitsReason reason.Nothing = Unit {0}

-- a line
unfoldable pub FitsWidths : Line → Type 0
FitsWidths (line.Arm now cpu timer class wheel) =
    FitsTime now × FitsCpu cpu × FitsTimer timer × FitsTime wheel
FitsWidths (line.Run now runner timer home wheel shown) =
    FitsTime now × FitsCpu runner × FitsTimer timer × FitsCpu home × FitsTime wheel
    × FitsReply shown
FitsWidths (line.Cancel now cpu timer home) =
    FitsTime now × FitsCpu cpu × FitsTimer timer × FitsCpu home
FitsWidths (line.NotQueued now cpu timer) = FitsTime now × FitsCpu cpu × FitsTimer timer
FitsWidths (line.Idle now cpu until) = FitsTime now × FitsCpu cpu × FitsTime until
FitsWidths (line.Stay now cpu first) = FitsTime now × FitsCpu cpu × FitsTime first
FitsWidths (line.Wake now cpu) = FitsTime now × FitsCpu cpu
FitsWidths (line.Offline now cpu) = FitsTime now × FitsCpu cpu
FitsWidths (line.Handed now cpu to) = FitsTime now × FitsCpu cpu × FitsCpu to
FitsWidths (line.Online now cpu) = FitsTime now × FitsCpu cpu
FitsWidths (line.Control now cpu) = FitsTime now × FitsCpu cpu
FitsWidths (line.Moved now timer from to wheel) =
    FitsTime now × FitsTimer timer × FitsCpu from × FitsCpu to × FitsTime wheel
FitsWidths (line.Cover now cpu wheel shown) =
    FitsTime now × FitsCpu cpu × FitsTime wheel × FitsCover shown
FitsWidths (line.Refused now cpu place number) =
    FitsTime now × FitsCpu cpu × FitsCount place × FitsByte number
FitsWidths (line.RefusedQueued now cpu place number holder) =
    FitsTime now × FitsCpu cpu × FitsCount place × FitsByte number × FitsCpu holder
FitsWidths (line.Left timer cpu class wheel) = FitsTimer timer × FitsCpu cpu × FitsTime wheel
FitsWidths (line.End now) = FitsTime now
FitsWidths (line.Why steps cpu timer shown) =
    FitsCount steps × FitsCpu cpu × FitsTimer timer × FitsReason shown
FitsWidths (line.Yes steps) = FitsCount steps
FitsWidths (line.No index) = FitsCount index
FitsWidths (line.Device now until) = FitsTime now × FitsTime until

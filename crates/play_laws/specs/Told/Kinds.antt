-- kinds of lines of a report
use Rattle.std.specs.Prelude.{Bool, true, false}
use Rattle.tm_report.specs.declared.lines.Line.{Line}
use Rattle.tm_report.specs.declared.lines.Line.TheVariants as lines

-- whether it tells who answers for an idle CPU's first global timer
abbrev pub is_cover : Line → Bool
is_cover (lines.Cover now cpu wheel cover) = true
is_cover line = false

-- whether it tells that a timer is still queued at the end
abbrev pub is_left : Line → Bool
is_left (lines.Left timer cpu class wheel) = true
is_left line = false

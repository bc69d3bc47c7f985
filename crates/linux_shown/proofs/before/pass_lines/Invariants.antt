use Rattle.std.proofs.Common.{◌≡◌}
use Rattle.text_words.specs.Words.{lines_of}
use Rattle.linux_shown.specs.Before.{course_behind}
use Rattle.linux_shown.proofs.before.pass_lines.Given as goal

abbrev pub invariant-loop-left : goal.invariant-loop-left
invariant-loop-left l =
    course_behind l.left l.course (lines_of l.rest)
    ≡ course_behind l.count l.fn.course (lines_of l.fn.bytes)

abbrev pub decreases-loop-left : goal.decreases-loop-left
decreases-loop-left l = l.left

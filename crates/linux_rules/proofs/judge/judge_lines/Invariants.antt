use Rattle.std.proofs.Common.{◌≡◌, length}
use Rattle.text_words.specs.Words.{lines_of}
use Rattle.linux_rules.specs.Judge.{judged, start_behind}
use Rattle.linux_rules.proofs.judge.judge_lines.Given as goal

abbrev pub invariant-loop-text : goal.invariant-loop-text
invariant-loop-text l =
    judged l.course (lines_of l.rest) ≡ judged (start_behind l.lost) (lines_of l.fn.bytes)

abbrev pub decreases-loop-text : goal.decreases-loop-text
decreases-loop-text l = length l.rest

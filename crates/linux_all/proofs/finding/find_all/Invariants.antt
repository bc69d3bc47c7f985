use Rattle.std.proofs.Common.{◌≡◌, [], length}
use Rattle.text_words.specs.Words.{lines_of}
use Rattle.linux_rules.specs.Judge.{start_behind}
use Rattle.linux_all.specs.All.{all_of}
use Rattle.linux_all.proofs.finding.find_all.Given as goal

abbrev pub invariant-loop-text : goal.invariant-loop-text
invariant-loop-text l =
    all_of l.course l.misfits.items (lines_of l.rest)
    ≡ all_of (start_behind l.lost) [] (lines_of l.fn.bytes)

abbrev pub decreases-loop-text : goal.decreases-loop-text
decreases-loop-text l = length l.rest

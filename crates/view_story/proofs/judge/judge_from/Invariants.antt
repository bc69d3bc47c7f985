use Rattle.std.proofs.Common.{◌≡◌, drop}
use Rattle.view_story.specs.Judge.{story_judged, start}
use Rattle.view_story.proofs.judge.judge_from.Given as goal

abbrev pub invariant-loop-line : goal.invariant-loop-line
invariant-loop-line l =
    story_judged l.fn.script l.seen l.number (drop l.line-index l.lines)
    ≡ story_judged l.fn.script (start l.fn.script l.fn.play) 0 l.lines

use Rattle.std.proofs.Common.{◌≡◌}
use Rattle.view_story.specs.Judge.{fresh_timers}
use Rattle.view_story.proofs.judge.fresh_timers.Given as goal

abbrev pub invariant-loop-number : goal.invariant-loop-number
invariant-loop-number l = l.timers.items ≡ fresh_timers l.number

use Rattle.std.proofs.Common.{◌≡◌}
use Rattle.view_story.specs.Judge.{fresh_cpus}
use Rattle.view_story.proofs.judge.fresh_cpus.Given as goal

abbrev pub invariant-loop-number : goal.invariant-loop-number
invariant-loop-number l = l.cpus.items ≡ fresh_cpus l.number

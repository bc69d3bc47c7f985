use Rattle.std.proofs.Common.{◌≡◌, drop}
use Rattle.linux_told.specs.Told.{counted_answers}
use Rattle.linux_told.proofs.told.counted_answers.Given as goal

abbrev pub invariant-loop-cpu : goal.invariant-loop-cpu
invariant-loop-cpu l =
    counted_answers l.fn.seen l.counts (drop l.cpu-index l.fn.seen.cpus)
    ≡ counted_answers l.fn.seen l.fn.answers l.fn.seen.cpus

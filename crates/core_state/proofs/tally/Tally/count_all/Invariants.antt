use Rattle.core_state.specs.Tally.{TalliesFirst}
use Rattle.core_state.proofs.tally.Tally.count_all.Given as goal

abbrev pub invariant-loop-cpu : goal.invariant-loop-cpu
invariant-loop-cpu g l = TalliesFirst l.tree l.cpus.items l.cpu l.self

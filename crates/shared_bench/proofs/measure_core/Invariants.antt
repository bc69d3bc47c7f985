use Rattle.shared_bench.proofs.measure_core.Given as goal

abbrev pub ghosts-begin_and_finish : goal.ghosts-begin_and_finish
ghosts-begin_and_finish a = record { table = a.ready.table; opening = a.ready.core }

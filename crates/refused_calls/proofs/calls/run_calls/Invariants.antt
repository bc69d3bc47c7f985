use Rattle.refused_calls.proofs.calls.run_calls.Given as goal

abbrev pub ghosts-end_at_once : goal.ghosts-end_at_once
ghosts-end_at_once g a = record { table = a.ready.table; opening = a.ready.core }

abbrev pub ghosts-calls_over : goal.ghosts-calls_over
ghosts-calls_over g a = record { table = a.ready.table; opening = a.ready.core }

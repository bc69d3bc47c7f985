use Rattle.walk_rows.proofs.by_steps.run_by_steps.Given as goal

abbrev pub ghosts-run_over : goal.ghosts-run_over
ghosts-run_over g a = record { table = a.ready.table; opening = a.ready.core }

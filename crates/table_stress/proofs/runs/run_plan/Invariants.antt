use Rattle.table_stress.proofs.runs.run_plan.Given as goal

abbrev pub ghosts-run_over : goal.ghosts-run_over
ghosts-run_over g a = record { table = a.ready.table; opening = a.ready.core }

use Rattle.run_rounds.proofs.rounds.round.Given as goal

abbrev pub ghosts-round_over : goal.ghosts-round_over
ghosts-round_over g a = record { table = a.ready.table; opening = a.ready.core }

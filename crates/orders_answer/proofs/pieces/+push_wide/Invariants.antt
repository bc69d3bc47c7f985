use Rattle.orders_answer.proofs.pieces.+push_wide.Given as goal

abbrev pub decreases-push_wide : goal.decreases-push_wide
decreases-push_wide l = l.n

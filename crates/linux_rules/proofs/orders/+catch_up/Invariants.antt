use Rattle.linux_rules.proofs.orders.+catch_up.Given as goal

abbrev pub decreases-catch_up : goal.decreases-catch_up
decreases-catch_up l = l.rounds

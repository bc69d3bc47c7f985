use Rattle.linux_told.proofs.told.+climb.Given as goal

abbrev pub decreases-climb : goal.decreases-climb
decreases-climb l = l.levels

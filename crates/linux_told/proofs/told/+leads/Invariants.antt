use Rattle.linux_told.proofs.told.+leads.Given as goal

abbrev pub decreases-leads : goal.decreases-leads
decreases-leads l = l.levels

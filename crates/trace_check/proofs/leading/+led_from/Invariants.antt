use Rattle.trace_check.proofs.leading.+led_from.Given as goal

abbrev pub decreases-led_from : goal.decreases-led_from
decreases-led_from g l = l.levels

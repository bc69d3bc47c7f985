use Rattle.core_machine.proofs.answers.above.+led_from.Given as goal

abbrev pub decreases-led_from : goal.decreases-led_from
decreases-led_from g l = l.levels

use Rattle.orders_world.proofs.leading.+led_from.Given as goal

abbrev pub decreases-led_from : goal.decreases-led_from
decreases-led_from l = l.levels

use Rattle.std.proofs.Common.{refl, sym}
use Rattle.orders_world.proofs.answering.held_at.Goals as goal

pub returns-in-Some-led_to-clause-held : goal.returns-in-Some-led_to-clause-held
returns-in-Some-led_to-clause-held c = record {
  held = record {
    level = c.args.level;
    in_group = c.in-Some.group.0;
    runner = c.in-Some-led_to.runner.0;
    on_path = sym c.in-Some.ensures;
    told = c.is_told.ensures.0 c.if-not-is_told.false;
    leads = c.in-Some-led_to.ensures.leads;
  };
  level_is = refl;
  group_is = refl;
  runner_is = refl;
}

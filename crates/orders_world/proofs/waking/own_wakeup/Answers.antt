use Rattle.std.proofs.Common.{refl, sym, ◌∙◌, arith}
use Rattle.orders_world.proofs.waking.own_wakeup.Goals as goal

pub returns-clause-wakes : goal.returns-clause-wakes
returns-clause-wakes c =
    let late = c.if-at-wheel.false in
    record {
      own = record {
        at = c.in-Some.at;
        keeps = sym c.kept_wakeup.ensures ∙ c.in-Some.is;
        in_time = omega (arith, late);
      };
      waker_is = refl;
      time_is = refl;
    }

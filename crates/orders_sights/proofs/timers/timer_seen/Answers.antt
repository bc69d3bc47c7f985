use Rattle.std.proofs.Common.{refl}
use Rattle.orders_sights.proofs.timers.timer_seen.Goals as goal

pub returns-clause-seen : goal.returns-clause-seen
returns-clause-seen c = record {
  item = c.in-Some.item;
  waits = c.in-Some.ensures.waits;
  timer_is = refl;
  cpu_is = refl;
  by = c.answerer.ensures;
}

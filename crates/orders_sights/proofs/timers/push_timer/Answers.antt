use Rattle.std.proofs.Common.{inl, inr, refl}
use Rattle.orders_sights.proofs.timers.push_timer.Goals as goal

pub returns-in_default : goal.returns-in_default
returns-in_default c = inl (c.in_default.ensures.passes, refl)

pub returns : goal.returns
returns c = inr (c.in-Some.seen, c.in-Some.ensures.seen, c.in_ok-push.ensures.items)

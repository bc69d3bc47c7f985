use Rattle.std.proofs.Common.{◌≡◌, ◌-◌, None, subst, sym, arith}
use Rattle.timer_queue.specs.declared.key.Key.{Key}
use Rattle.timer_queue.specs.Queues.{HasMoment, NotAfter, entry}
use Rattle.timer_queue.proofs.Keeps.{latest_from}
use Rattle.timer_queue.proofs.Calls.{has_moment, none_queued}
use Rattle.timer_queue.proofs.queue.TimerQueue.next_expiry.Goals as goal

pub returns-in_default-clause-none : goal.returns-in_default-clause-none
returns-in_default-clause-none g c =
    subst (λ q. (key : Key) → entry q key ≡ None) c.self.view_is
    (none_queued c.self.inside.wheel c.self.inside.timers c.self.inside.issued c.self.invariant (sym c.in_default.ensures.least))

pub returns-clause-some : goal.returns-clause-some
returns-clause-some g c =
    subst (λ q. HasMoment q (c.in-Some.first - 1)) c.self.view_is
    (has_moment c.self.inside.wheel c.self.inside.timers c.self.inside.issued c.in-Some.first c.self.invariant (sym c.in-Some.ensures.least))

pub returns-clause-in_time : goal.returns-clause-in_time
returns-clause-in_time g c =
    subst (λ q. NotAfter q (c.in-Some.first - 1)) c.self.view_is
    (λ key a there.
    let late = latest_from c.self.inside.wheel c.self.inside.timers c.self.inside.issued c.in-Some.first key a c.self.invariant c.in-Some.ensures.bounds there in
    omega (arith, late))

use Rattle.std.proofs.Common.{◌+◌, ◌≤◌, ap, subst, sym, arith}
use Rattle.slab.specs.Slab.{Slab}
use Rattle.timer_queue.specs.declared.timer.Timer.{Timer}
use Rattle.timer_queue.specs.Queues.{count}
use Rattle.timer_queue.specs.Kept.{KeepsQueue}
use Rattle.timer_queue.proofs.Calls.{keeps_reserved, keeps_roomier, roomy}
use Rattle.timer_queue.proofs.queue.TimerQueue.reserve.Goals as goal

pub invariant_of-self : goal.invariant_of-self
invariant_of-self g c = keeps_roomier c.self.inside.wheel c.self.inside.timers c.reserve.new.self c.self.inside.issued c.self.invariant c.reserve.ensures.rest_kept c.reserve.ensures.capacity

pub invariant_of-self-then-capacity-gt-MOST_TIMERS : goal.invariant_of-self-then-capacity-gt-MOST_TIMERS
invariant_of-self-then-capacity-gt-MOST_TIMERS g c = keeps_roomier c.self.inside.wheel c.self.inside.timers c.reserve.new.self c.self.inside.issued c.self.invariant c.reserve.ensures.rest_kept c.reserve.ensures.capacity

pub returns-then-capacity-gt-MOST_TIMERS-clause-enough : goal.returns-then-capacity-gt-MOST_TIMERS-clause-enough
returns-then-capacity-gt-MOST_TIMERS-clause-enough g c = λ some low.
    let room = roomy c.self.inside.wheel c.self.inside.timers c.self.inside.issued c.args.more c.self.invariant some (subst (λ q. count q + c.args.more ≤ q.room) (sym c.self.view_is) low) in
    let same = ap (λ (s : Slab (Timer g.row.T.Denot)). s.capacity) (c.reserve.ensures.had_room room.room) in
    let few = room.slots in
    let is = c.capacity.ensures.value in
    let many = c.if-capacity-gt-MOST_TIMERS.true in
    absurd (omega (arith, same, few, is, many))

pub invariant_of-self-in_err-reserve-2 : goal.invariant_of-self-in_err-reserve-2
invariant_of-self-in_err-reserve-2 g c =
    subst (λ w. KeepsQueue w c.reserve.new.self c.self.inside.issued) (sym c.in_err-reserve-2.ensures.err) (keeps_roomier c.self.inside.wheel c.self.inside.timers c.reserve.new.self c.self.inside.issued c.self.invariant c.reserve.ensures.rest_kept c.reserve.ensures.capacity)

pub invariant_of-self-2 : goal.invariant_of-self-2
invariant_of-self-2 g c =
    keeps_reserved c.self.inside.wheel c.reserve-2.new.self c.reserve.new.self c.self.inside.issued c.args.more (keeps_roomier c.self.inside.wheel c.self.inside.timers c.reserve.new.self c.self.inside.issued c.self.invariant c.reserve.ensures.rest_kept c.reserve.ensures.capacity)
    c.in_ok-reserve-2.ensures.ok c.in_ok-reserve.ensures.room

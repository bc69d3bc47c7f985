use Rattle.std.proofs.Common.{◌+◌, ap, subst, ◌∙◌, sym, arith}
use Rattle.wheel_core.specs.PlainBase.{NoneBehind, RoomyBase, forwarded, on_plain}
use Rattle.timer_queue.specs.Kept.{queue_of}
use Rattle.timer_queue.specs.Turns.{GoesOut, PutsAnew, Rests}
use Rattle.timer_queue.proofs.Keeps.{tied_none}
use Rattle.timer_queue.proofs.Turns.{anew_keeps, goes_out, puts_anew, rests, rests_keeps, took}
use Rattle.timer_queue.proofs.queue.TimerQueue.turn.Goals as goal

pub invariant_of-self : goal.invariant_of-self
invariant_of-self g c =
    let until = c.saturating_add.ensures in
    let ahead = c.min.ensures in
    rests_keeps (c.min.result + 1) c.saturating_add.result c.self.inside.issued c.self.inside.wheel c.forward.new.self c.self.inside.timers
    c.self.invariant c.in_default.ensures.due (omega (arith, until, ahead, c.ranges.now.fits)) (omega (arith, ahead))
    (c.forward.ensures.base ∙ ap (on_plain (forwarded (c.min.result + 1))) c.in_default.ensures.none) (c.forward.ensures.none_behind (subst (λ (b : RoomyBase). NoneBehind b.plain) (sym c.in_default.ensures.none) c.self.invariant.behind))

pub returns-in_default : goal.returns-in_default
returns-in_default g c =
    let until = c.saturating_add.ensures in
    let ahead = c.min.ensures in
    subst (λ q. Rests c.args.now q (queue_of c.forward.new.self c.self.inside.timers c.self.inside.issued)) c.self.view_is
    (rests c.args.now (c.min.result + 1) c.saturating_add.result c.self.inside.issued c.self.inside.wheel c.forward.new.self c.self.inside.timers
    c.self.invariant c.in_default.ensures.due (omega (arith, ahead)) (omega (arith, until, c.ranges.now.fits)) (omega (arith, until))
    (c.forward.ensures.base ∙ ap (on_plain (forwarded (c.min.result + 1))) c.in_default.ensures.none))

pub file-requires-clause-wheel_room : goal.file-requires-clause-wheel_room
file-requires-clause-wheel_room g c =
    let took = took c.saturating_add.result c.self.inside.wheel c.take_next.new.self c.settle.new.wheel c.self.inside.timers c.remove-timer.new.self
    c.self.inside.issued c.in-Some.item c.remove-timer.result c.self.invariant c.in-Some.ensures.due c.take_next.ensures.base c.in-Some.ensures.item
    c.settle.ensures.items c.settle.ensures.capacity c.settle.ensures.behind c.settle.ensures.clock c.settle.ensures.from
    c.remove-timer.ensures.value c.remove-timer.ensures.updates c.remove-timer.ensures.len c.remove-timer.ensures.capacity in
    took.free

pub file-requires-clause-vacant : goal.file-requires-clause-vacant
file-requires-clause-vacant g c =
    let took = took c.saturating_add.result c.self.inside.wheel c.take_next.new.self c.settle.new.wheel c.self.inside.timers c.remove-timer.new.self
    c.self.inside.issued c.in-Some.item c.remove-timer.result c.self.invariant c.in-Some.ensures.due c.take_next.ensures.base c.in-Some.ensures.item
    c.settle.ensures.items c.settle.ensures.capacity c.settle.ensures.behind c.settle.ensures.clock c.settle.ensures.from
    c.remove-timer.ensures.value c.remove-timer.ensures.updates c.remove-timer.ensures.len c.remove-timer.ensures.capacity in
    λ slot none. tied_none _ _ (took.keeps.tied slot) none

pub file-requires-clause-expires : goal.file-requires-clause-expires
file-requires-clause-expires g c =
    let took = took c.saturating_add.result c.self.inside.wheel c.take_next.new.self c.settle.new.wheel c.self.inside.timers c.remove-timer.new.self
    c.self.inside.issued c.in-Some.item c.remove-timer.result c.self.invariant c.in-Some.ensures.due c.take_next.ensures.base c.in-Some.ensures.item
    c.settle.ensures.items c.settle.ensures.capacity c.settle.ensures.behind c.settle.ensures.clock c.settle.ensures.from
    c.remove-timer.ensures.value c.remove-timer.ensures.updates c.remove-timer.ensures.len c.remove-timer.ensures.capacity in
    took.own.expires

pub file-requires-clause-clock : goal.file-requires-clause-clock
file-requires-clause-clock g c =
    let took = took c.saturating_add.result c.self.inside.wheel c.take_next.new.self c.settle.new.wheel c.self.inside.timers c.remove-timer.new.self
    c.self.inside.issued c.in-Some.item c.remove-timer.result c.self.invariant c.in-Some.ensures.due c.take_next.ensures.base c.in-Some.ensures.item
    c.settle.ensures.items c.settle.ensures.capacity c.settle.ensures.behind c.settle.ensures.clock c.settle.ensures.from
    c.remove-timer.ensures.value c.remove-timer.ensures.updates c.remove-timer.ensures.len c.remove-timer.ensures.capacity in
    let near = took.near in
    let asked = took.tied.expires in
    let expires = took.own.expires in
    omega (arith, near, asked, expires, c.if-item.true)

pub file-requires-clause-started : goal.file-requires-clause-started
file-requires-clause-started g c =
    let took = took c.saturating_add.result c.self.inside.wheel c.take_next.new.self c.settle.new.wheel c.self.inside.timers c.remove-timer.new.self
    c.self.inside.issued c.in-Some.item c.remove-timer.result c.self.invariant c.in-Some.ensures.due c.take_next.ensures.base c.in-Some.ensures.item
    c.settle.ensures.items c.settle.ensures.capacity c.settle.ensures.behind c.settle.ensures.clock c.settle.ensures.from
    c.remove-timer.ensures.value c.remove-timer.ensures.updates c.remove-timer.ensures.len c.remove-timer.ensures.capacity in
    took.keeps.started

pub invariant_of-self-then-item : goal.invariant_of-self-then-item
invariant_of-self-then-item g c =
    let took = took c.saturating_add.result c.self.inside.wheel c.take_next.new.self c.settle.new.wheel c.self.inside.timers c.remove-timer.new.self
    c.self.inside.issued c.in-Some.item c.remove-timer.result c.self.invariant c.in-Some.ensures.due c.take_next.ensures.base c.in-Some.ensures.item
    c.settle.ensures.items c.settle.ensures.capacity c.settle.ensures.behind c.settle.ensures.clock c.settle.ensures.from
    c.remove-timer.ensures.value c.remove-timer.ensures.updates c.remove-timer.ensures.len c.remove-timer.ensures.capacity in
    anew_keeps c.saturating_add.result c.file.result c.self.inside.wheel c.settle.new.wheel c.file.new.wheel c.self.inside.timers c.remove-timer.new.self
    c.file.new.timers c.self.inside.issued c.in-Some.item c.remove-timer.result took c.if-item.true c.file.ensures.was_vacant c.file.ensures.wheel
    c.file.ensures.behind c.file.ensures.updates c.file.ensures.len c.file.ensures.capacity

pub returns-then-item : goal.returns-then-item
returns-then-item g c =
    let took = took c.saturating_add.result c.self.inside.wheel c.take_next.new.self c.settle.new.wheel c.self.inside.timers c.remove-timer.new.self
    c.self.inside.issued c.in-Some.item c.remove-timer.result c.self.invariant c.in-Some.ensures.due c.take_next.ensures.base c.in-Some.ensures.item
    c.settle.ensures.items c.settle.ensures.capacity c.settle.ensures.behind c.settle.ensures.clock c.settle.ensures.from
    c.remove-timer.ensures.value c.remove-timer.ensures.updates c.remove-timer.ensures.len c.remove-timer.ensures.capacity in
    let until = c.saturating_add.ensures in
    subst (λ q. PutsAnew c.args.now q (queue_of c.file.new.wheel c.file.new.timers c.self.inside.issued)) c.self.view_is
    (puts_anew c.args.now c.saturating_add.result c.file.result c.self.inside.wheel c.settle.new.wheel c.file.new.wheel c.self.inside.timers
    c.remove-timer.new.self c.file.new.timers c.self.inside.issued c.in-Some.item c.remove-timer.result took c.if-item.true (omega (arith, until))
    (c.file.ensures.slot ∙ c.remove-timer.ensures.key_is_next) c.file.ensures.wheel c.file.ensures.updates c.file.ensures.len c.file.ensures.capacity)

pub invariant_of-self-else-item : goal.invariant_of-self-else-item
invariant_of-self-else-item g c =
    let took = took c.saturating_add.result c.self.inside.wheel c.take_next.new.self c.settle.new.wheel c.self.inside.timers c.remove-timer.new.self
    c.self.inside.issued c.in-Some.item c.remove-timer.result c.self.invariant c.in-Some.ensures.due c.take_next.ensures.base c.in-Some.ensures.item
    c.settle.ensures.items c.settle.ensures.capacity c.settle.ensures.behind c.settle.ensures.clock c.settle.ensures.from
    c.remove-timer.ensures.value c.remove-timer.ensures.updates c.remove-timer.ensures.len c.remove-timer.ensures.capacity in
    took.keeps

pub returns : goal.returns
returns g c =
    let took = took c.saturating_add.result c.self.inside.wheel c.take_next.new.self c.settle.new.wheel c.self.inside.timers c.remove-timer.new.self
    c.self.inside.issued c.in-Some.item c.remove-timer.result c.self.invariant c.in-Some.ensures.due c.take_next.ensures.base c.in-Some.ensures.item
    c.settle.ensures.items c.settle.ensures.capacity c.settle.ensures.behind c.settle.ensures.clock c.settle.ensures.from
    c.remove-timer.ensures.value c.remove-timer.ensures.updates c.remove-timer.ensures.len c.remove-timer.ensures.capacity in
    let until = c.saturating_add.ensures in
    subst (λ q. GoesOut c.args.now q (queue_of c.settle.new.wheel c.remove-timer.new.self c.self.inside.issued)
    (record { slot = c.in-Some.item.id; number = c.remove-timer.result.number }) c.remove-timer.result.expires c.remove-timer.result.value) c.self.view_is
    (goes_out c.args.now c.saturating_add.result c.self.inside.wheel c.settle.new.wheel c.self.inside.timers c.remove-timer.new.self
    c.self.inside.issued c.in-Some.item c.remove-timer.result took c.if-item.false (omega (arith, until)))

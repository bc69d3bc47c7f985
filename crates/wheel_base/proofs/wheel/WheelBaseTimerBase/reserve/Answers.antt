use Rattle.std.proofs.Common.{arith}
use Rattle.wheel_base.proofs.Moving.{keeps_moved}
use Rattle.wheel_base.proofs.wheel.WheelBaseTimerBase.reserve.Goals as goal

pub invariant_of-self-2 : goal.invariant_of-self-2
invariant_of-self-2 c =
    let at = c.self.inside in
    let moved = c.in_ok-grow.ensures in
    keeps_moved at.store c.grow.new.store at.clock at.first at.capacity c.in_ok-wanted.wanted c.self.invariant moved.items
    (omega (arith, c.if-wanted-room.false, c.room.ensures))
    (omega (arith, moved.room, c.roomier-room.ensures)) moved.fits

use Rattle.std.proofs.Common.{arith}
use Rattle.orders_world.specs.Seeking.{GoesThrough}
use Rattle.orders_world.proofs.Scans.{one_more}
use Rattle.orders_world.proofs.TopLaws.{told_event, told_to}
use Rattle.orders_world.proofs.telling.is_told.Goals as goal

pub loop-below-preserved : goal.loop-below-preserved
loop-below-preserved c =
    one_more (GoesThrough c.args.world.now c.args.cpu.0 c.args.wheel) c.loop-below.below
    c.loop-below.invariant
    (c.goes_through.ensures.0 c.if-not-goes_through.false)

pub returns : goal.returns
returns c =
    let w = c.args.world.now in
    let high = c.loop-below-test.false in (
      λ event.
          told_to w c.args.cpu.0 c.args.wheel c.args.level c.loop-below.below
          (omega (arith, high)) c.loop-below.invariant (c.has_event.ensures.0 event),
      λ told. c.has_event.ensures.1 (told_event w c.args.cpu.0 c.args.wheel c.args.level told),
    )

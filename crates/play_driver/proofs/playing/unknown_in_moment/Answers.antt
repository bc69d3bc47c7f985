use Rattle.play_driver.proofs.Unknown.{op_end, op_found, op_next}
use Rattle.play_driver.proofs.playing.unknown_in_moment.Goals as goal

pub returns-in-Some : goal.returns-in-Some
returns-in-Some g c =
    op_found _ _ _ _ _ _ c.as_slice-op-items.ensures c.loop-op-test.true c.loop-op.invariant c.in-Some.ensures

pub loop-op-preserved : goal.loop-op-preserved
loop-op-preserved g c =
    op_next _ _ _ _ _ c.as_slice-op-items.ensures c.loop-op-test.true c.loop-op.invariant c.in_default.ensures

pub returns : goal.returns
returns g c = op_end _ _ _ _ c.as_slice-op-items.ensures c.loop-op-test.false c.loop-op.invariant

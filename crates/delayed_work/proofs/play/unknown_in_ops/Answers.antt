use Rattle.std.proofs.Common.{refl}
use Rattle.delayed_work.proofs.Unknown.{op_end, op_found, op_next}
use Rattle.delayed_work.proofs.play.unknown_in_ops.Goals as goal

pub returns-in-Some : goal.returns-in-Some
returns-in-Some c = op_found _ _ _ _ _ _ refl c.loop-op-test.true c.loop-op.invariant c.in-Some.ensures

pub loop-op-preserved : goal.loop-op-preserved
loop-op-preserved c = op_next _ _ _ _ _ refl c.loop-op-test.true c.loop-op.invariant c.in_default.ensures

pub returns : goal.returns
returns c = op_end _ _ _ _ refl c.loop-op-test.false c.loop-op.invariant

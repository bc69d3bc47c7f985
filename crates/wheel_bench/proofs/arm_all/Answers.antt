use Rattle.std.proofs.Common.{refl}
use Rattle.wheel_bench.proofs.Arms.{armed_none, armed_more}
use Rattle.wheel_bench.proofs.arm_all.Goals as goal

pub loop-i-init : goal.loop-i-init
loop-i-init c = armed_none _ c.requires.empty c.requires.clock

pub loop-i-preserved : goal.loop-i-preserved
loop-i-preserved c =
    armed_more c.loop-i.base c.add.new.self c.loop-i.i c.args.base.now.capacity c.loop-i.i _ _ _ c.loop-i.invariant refl
    c.add.ensures.base c.add.ensures.none_behind

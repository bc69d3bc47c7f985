use Rattle.std.proofs.Common.{◌∙◌}
use Rattle.tm_generate.specs.Generated.{x_after}
use Rattle.tm_generate.proofs.Drawing.{armings_more, draws_more}
use Rattle.tm_generate.proofs.generated.armings.Goals as goal

pub loop-i-init : goal.loop-i-init
unfolding x_after
loop-i-init c = record { ops = c.new-ops.ensures; x = c.requires.start }

pub loop-i-preserved : goal.loop-i-preserved
loop-i-preserved c =
    record {
      ops = c.in_ok-push.ensures.ok ∙ armings_more c.args.number c.args.cpus c.loop-i.i c.loop-i.draws.x c.loop-i.ops c.arming.result c.loop-i.invariant.ops c.loop-i.invariant.x c.arming.ensures.op;
      x = draws_more c.args.number c.loop-i.i c.loop-i.draws.x c.arming.new.draws.x c.loop-i.invariant.x c.arming.ensures.x;
    }

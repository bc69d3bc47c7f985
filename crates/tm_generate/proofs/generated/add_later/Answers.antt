use Rattle.std.proofs.Common.{◌+◌, ◌*◌, [], ◌∷◌, ◌++◌, ap, ◌∙◌}
use Rattle.tm_generate.proofs.Drawing.{later_more, later_draws}
use Rattle.tm_generate.proofs.generated.add_later.Goals as goal

pub loop-j-preserved : goal.loop-j-preserved
loop-j-preserved c =
    let ops = c.in_ok-push.ensures.ok ∙ ap (λ os. os ++ c.later_op.result ∷ []) c.new-ops.ensures in
    record {
      list =
          later_more c.args.number c.args.cpus c.args.timers c.loop-j.j c.loop-j.draws.x c.args.list.now c.loop-j.list c.push-in-loop-j.new.self c.later_op.result c.loop-j.invariant.list c.loop-j.invariant.x c.later_op.ensures.op
          (c.in_ok-push-2.ensures.ok ∙ (λ i. c.loop-j.list ++ record { at = 5 * (c.from.ensures i + 1); ops = ops i } ∷ []));
      x = later_draws c.args.number c.args.timers c.loop-j.j c.loop-j.draws.x c.later_op.new.draws.x c.loop-j.invariant.x c.later_op.ensures.x;
    }

use Rattle.std.proofs.Common.{refl, sym, ◌∙◌}
use Rattle.step_laws.proofs.Lists.{one_more}
use Rattle.step_laws.proofs.running.make_each.Goals as goal

pub loop-index-preserved : goal.loop-index-preserved
loop-index-preserved g c =
    one_more c.apply.result c.args.steps.now c.loop-index.index _ c.args.core.now c.loop-index.core
    c.apply.new.core c.loop-index-test.true c.loop-index.invariant (c.if-not-enabled.ensures.0 refl)
    (sym c.is_err.ensures.value ∙ c.if-is_err.false) c.apply.ensures.ok

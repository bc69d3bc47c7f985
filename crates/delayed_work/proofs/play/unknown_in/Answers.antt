use Rattle.std.proofs.Common.{ap, refl, ◌∙◌}
use Rattle.delayed_work.specs.Play.{unknown_in_work_ops}
use Rattle.delayed_work.proofs.Unknown.{moment_end, moment_found, moment_next}
use Rattle.delayed_work.proofs.play.unknown_in.Goals as goal

pub returns-in-Some : goal.returns-in-Some
returns-in-Some c =
    moment_found _ _ c.moment-item.result _ _ _ refl c.loop-moment-test.true c.loop-moment.invariant
    (c.in-Some.ensures ∙ ap (unknown_in_work_ops c.args.table) c.as_slice.ensures ∙ ap (λ m. unknown_in_work_ops c.args.table m.ops) c.moment-item.is)

pub loop-moment-preserved : goal.loop-moment-preserved
loop-moment-preserved c =
    moment_next _ _ c.moment-item.result _ _ refl c.loop-moment-test.true c.loop-moment.invariant
    (c.in_default.ensures ∙ ap (unknown_in_work_ops c.args.table) c.as_slice.ensures ∙ ap (λ m. unknown_in_work_ops c.args.table m.ops) c.moment-item.is)

pub returns : goal.returns
returns c = moment_end _ _ _ _ refl c.loop-moment-test.false c.loop-moment.invariant

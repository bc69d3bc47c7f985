use Rattle.std.proofs.Common.{ap, ◌∙◌}
use Rattle.play_rules.specs.Jobs.{unknown_in_ops}
use Rattle.play_driver.proofs.Unknown.{moment_end, moment_found, moment_next}
use Rattle.play_driver.proofs.playing.first_unknown_job.Goals as goal

pub returns-in-Some : goal.returns-in-Some
returns-in-Some g c =
    moment_found _ _ c.moment-item.result _ _ _ c.as_slice-moment-items.ensures c.loop-moment-test.true c.loop-moment.invariant
    (c.in-Some.ensures ∙ ap (λ m. unknown_in_ops (g.J.Jobs.count c.args.jobs.now) m.ops) c.moment-item.is)

pub loop-moment-preserved : goal.loop-moment-preserved
loop-moment-preserved g c =
    moment_next _ _ c.moment-item.result _ _ c.as_slice-moment-items.ensures c.loop-moment-test.true c.loop-moment.invariant
    (c.in_default.ensures ∙ ap (λ m. unknown_in_ops (g.J.Jobs.count c.args.jobs.now) m.ops) c.moment-item.is)

pub returns : goal.returns
returns g c = moment_end _ _ _ _ c.as_slice-moment-items.ensures c.loop-moment-test.false c.loop-moment.invariant

use Rattle.step_laws.proofs.Sizes.{made_stays}
use Rattle.step_laws.proofs.running.run_steps.Goals as goal

pub returns-clause-stays : goal.returns-clause-stays
returns-clause-stays g c =
    made_stays c.law_sizes.ensures c.make_each-made.result c.args.steps.now c.args.core.now _
    c.make_each-made.ensures.whole c.make_each-made.ensures.stops

pub returns-clause-answered : goal.returns-clause-answered
returns-clause-answered g c = c.law_answered.ensures _ c.law_lawful.ensures

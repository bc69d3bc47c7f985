use Rattle.step_laws.proofs.laws.law_covered.Goals as goal

pub returns : goal.returns
returns g c = c.law_covered.ensures c.args.core.now c.law_lawful.ensures

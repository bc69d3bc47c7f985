use Rattle.run_laws.proofs.Turns.{broken_bounded, moments_bounded, story_unspent}
use Rattle.run_laws.proofs.law_story_work.Goals as goal

pub returns-clause-moments : goal.returns-clause-moments
returns-clause-moments c = moments_bounded c.law_start.ensures

pub returns-clause-broken_off : goal.returns-clause-broken_off
returns-clause-broken_off c = broken_bounded c.law_start.ensures

pub returns-clause-unspent : goal.returns-clause-unspent
returns-clause-unspent c = story_unspent c.law_start.ensures

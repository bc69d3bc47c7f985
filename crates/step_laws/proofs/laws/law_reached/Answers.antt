use Rattle.step_laws.proofs.Reaching.{each_reached}
use Rattle.step_laws.proofs.laws.law_reached.Goals as goal

pub returns : goal.returns
returns c =
    each_reached c.law_start.ensures c.law_replay.ensures.starts c.law_height.ensures.starts
    c.law_stay.ensures

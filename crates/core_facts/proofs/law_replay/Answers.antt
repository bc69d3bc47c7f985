use Rattle.core_facts.proofs.PlayedRead.{each_adds, stays_played}
use Rattle.core_facts.specs.Played.{EachAddsReplay}
use Rattle.core_facts.proofs.law_replay.Goals as goal

pub returns-clause-adds : goal.returns-clause-adds
returns-clause-adds c =
    each_adds c.law_frame.ensures c.law_calls.ensures.cancelling c.law_calls.ensures.handing_out
    c.law_calls.ensures.moving_out

pub returns-clause-stays : goal.returns-clause-stays
returns-clause-stays c =
    let adds : EachAddsReplay = returns-clause-adds c in
    stays_played adds c.law_bases.ensures.replays_on

use Rattle.shared_acts.proofs.Handing.{hands}
use Rattle.shared_acts.proofs.draining.hand_one.Goals as goal

pub returns : goal.returns
returns g c =
    let may = c.requires.may in
    let step = c.drain_step.ensures in
    hands g.N.RunName.opening c.args.class c.args.part.now c.drain_step.new.part may.pass
    may.brought c.args.now c.requires.now c.law.ensures.opening step.part c.drain_step.result
    step.item c.law.ensures.fits step.due step.one_fewer step.none_behind
    (step.keeps may.pass may.brought)

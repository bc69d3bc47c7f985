use Rattle.walk_rows.proofs.Driving.{at_home}
use Rattle.walk_rows.proofs.by_steps.end_walk.Goals as goal

pub go_on-requires : goal.go_on-requires
go_on-requires g c =
    at_home c.args.part.now.box.cpu c.loop.part
    (c.loop.invariant c.args.part.now.box.cpu c.requires)

pub loop-preserved : goal.loop-preserved
loop-preserved g c = λ cpu d. c.go_on.ensures cpu (c.loop.invariant cpu d)

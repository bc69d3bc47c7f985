use Rattle.std.proofs.Common.{subst}
use Rattle.core_world.specs.World.{World}
use Rattle.shared_walks.specs.Walks.{HasStepped}
use Rattle.shared_walks.proofs.Retrying.{begins, made_in_the_end, still_goes, tried_more}
use Rattle.shared_walks.proofs.stepping.make_step.Goals as goal

pub loop-init : goal.loop-init
loop-init g c k has = begins k.stage c.args.part.now

pub walk_step-requires : goal.walk_step-requires
walk_step-requires g c = still_goes c.args.part.now c.loop.part c.requires c.loop.invariant

pub loop-preserved : goal.loop-preserved
loop-preserved g c =
    let o : World = g.N.RunName.opening in
    let new = c.walk_step.new.part in
    tried_more o c.args.part.now c.loop.part new c.loop.invariant
    (subst (λ made. HasStepped o made c.loop.part new) c.if-walk_step.false c.walk_step.ensures)

pub returns-then-walk_step : goal.returns-then-walk_step
returns-then-walk_step g c =
    let o : World = g.N.RunName.opening in
    let new = c.walk_step.new.part in
    made_in_the_end o c.args.part.now c.loop.part new c.loop.invariant
    (subst (λ made. HasStepped o made c.loop.part new) c.if-walk_step.true c.walk_step.ensures)

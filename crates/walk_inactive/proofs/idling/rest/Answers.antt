use Rattle.walk_inactive.proofs.Resting.{idle_finishes, idle_rests, idle_sets_out, idle_walk}
use Rattle.walk_inactive.proofs.idling.rest.Goals as goal

pub tell-requires : goal.tell-requires
tell-requires g c =
    let old = c.args.part.now in
    let mid = c.idle_step.new.part in (
      idle_walk old mid mid mid c.requires c.idle_step.ensures,
      idle_sets_out old mid mid mid c.requires c.idle_step.ensures,
    )

pub finish_step-requires : goal.finish_step-requires
finish_step-requires g c =
    idle_finishes c.args.part.now c.idle_step.new.part c.tell.new.part c.tell.new.part c.requires
    c.idle_step.ensures c.tell.ensures

pub returns : goal.returns
returns g c =
    idle_rests c.args.part.now c.idle_step.new.part c.tell.new.part c.finish_step.new.part
    c.requires c.idle_step.ensures c.tell.ensures c.finish_step.ensures

use Rattle.walk_inactive.proofs.Retelling.{retell_ends, retell_finishes, retell_sets_out}
use Rattle.walk_inactive.proofs.Retelling.{retell_walk}
use Rattle.walk_inactive.proofs.carrying.retell.Goals as goal

pub tell-requires : goal.tell-requires
tell-requires g c =
    let old = c.args.part.now in
    let mid = c.retell_step.new.part in (
      retell_walk old mid mid mid c.requires c.retell_step.ensures,
      retell_sets_out old mid mid mid c.requires c.retell_step.ensures,
    )

pub finish_step-requires : goal.finish_step-requires
finish_step-requires g c =
    retell_finishes c.args.part.now c.retell_step.new.part c.tell.new.part c.tell.new.part
    c.requires c.retell_step.ensures c.tell.ensures

pub returns : goal.returns
returns g c =
    retell_ends c.args.part.now c.retell_step.new.part c.tell.new.part c.finish_step.new.part
    c.requires c.retell_step.ensures c.tell.ensures c.finish_step.ensures

use Rattle.walk_inactive.proofs.Retelling.{carry_ends, carry_finishes, carry_sets_out}
use Rattle.walk_inactive.proofs.Retelling.{carry_walk}
use Rattle.walk_inactive.proofs.carrying.carry_for.Goals as goal

pub tell-requires : goal.tell-requires
tell-requires g c =
    let old = c.args.part.now in
    let mid = c.carry_step.new.part in (
      carry_walk old mid mid mid c.requires c.carry_step.ensures,
      carry_sets_out old mid mid mid c.requires c.carry_step.ensures,
    )

pub finish_step-requires : goal.finish_step-requires
finish_step-requires g c =
    carry_finishes c.args.part.now c.carry_step.new.part c.tell.new.part c.tell.new.part
    c.requires c.carry_step.ensures c.tell.ensures

pub returns : goal.returns
returns g c =
    carry_ends c.args.part.now c.carry_step.new.part c.tell.new.part c.finish_step.new.part
    c.requires c.carry_step.ensures c.tell.ensures c.finish_step.ensures

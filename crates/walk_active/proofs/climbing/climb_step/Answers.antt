use Rattle.walk_active.proofs.Rising.{climbs_on, goes_on}
use Rattle.walk_active.proofs.climbing.climb_step.Goals as goal

pub make_step-requires : goal.make_step-requires
make_step-requires g c =
    goes_on c.args.part.now c.args.walk c.law.ensures.fits c.requires.walk c.requires.climbs

pub returns : goal.returns
returns g c =
    climbs_on g.N.RunName.opening c.args.part.now c.make_step.new.part c.args.walk
    c.law.ensures.fits c.requires.walk c.requires.climbs c.requires.looked c.make_step.ensures

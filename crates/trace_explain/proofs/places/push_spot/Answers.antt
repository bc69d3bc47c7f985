use Rattle.std.proofs.Common.{refl}
use Rattle.trace_explain.proofs.Spots.{is_there}
use Rattle.trace_explain.proofs.places.push_spot.Goals as goal

pub push_group-requires : goal.push_group-requires
push_group-requires g c =
    c.group_on-group.ensures.in_range
    (is_there c.args.core.now
    (c.law_place.ensures c.args.core.now c.kept.ensures.fits.lawful) c.args.cpu.0 c.args.walk
    c.requires.walk c.args.walk.stage refl c.in-Some.level c.in-Some.ensures)

use Rattle.std.proofs.Common.{◌∙◌, sym}
use Rattle.walk_active.proofs.Ending.{has_arrived}
use Rattle.walk_active.proofs.climbing.climb.Goals as goal

pub climb_step-requires : goal.climb_step-requires
climb_step-requires g c =
    let has = sym c.walk.ensures ∙ c.in-Some.is in
    record {
      walk = has;
      climbs = c.loop-walk.invariant.climbs c.in-Some.walk has;
      looked = c.loop-walk.invariant.looked;
    }

pub loop-walk-preserved : goal.loop-walk-preserved
loop-walk-preserved g c = record {
  climbs = c.climb_step.ensures.climbs;
  looked = c.climb_step.ensures.looked;
  same = c.climb_step.ensures.same ∙ c.loop-walk.invariant.same;
}

pub returns : goal.returns
returns g c =
    let none = sym c.walk.ensures ∙ c.in_default.is in
    sym (has_arrived c.loop-walk.part none) ∙ c.loop-walk.invariant.same

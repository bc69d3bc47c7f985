-- for crates above: what follows of a world that fits
use Rattle.core_parts.specs.core_world.World.{World, scene_of}
use Rattle.core_facts.specs.Invariant.{WalksFit}
use Rattle.core_state.specs.Kept.{WorldFits}

pub walks_fit : (w : World) → WorldFits w → WalksFit w.tree (scene_of w)
walks_fit w fits = record {
  placed = fits.lawful.placed;
  flags = fits.lawful.flags;
  walkers = fits.lawful.walkers;
}

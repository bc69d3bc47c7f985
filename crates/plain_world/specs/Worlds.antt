-- a world with another group, and after an exchange (no public clause cites it)
use Rattle.std.specs.Prelude.{ℕ, Bool, slice_set}
use Rattle.walk_rules.specs.Scene.{Group}
use Rattle.core_world.specs.World.{World, stale_if}

-- the world with another group in the place of one
abbrev pub with_group : World → (g : ℕ) → Group → World
with_group w g x = record w { groups = slice_set w.groups g x }

-- the world where the readings of a group's word are stale, if it was exchanged
abbrev pub with_stale : World → (exchanges : Bool) → (g : ℕ) → World
with_stale w exchanges g = record w { cpus = stale_if w.tree exchanges g w.cpus }

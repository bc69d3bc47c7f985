-- how migrators are followed; no public clause speaks of this
use Rattle.std.specs.Prelude.{◌≡◌, ℕ, ◌<◌, Some, length}
use Rattle.tm_base.specs.declared.names.Child.{Child}
use Rattle.tm_base.specs.declared.names.Child.TheVariants as sorts
use Rattle.tree_plan.specs.Paths.{child_at}
use Rattle.core_world.specs.World.{World, group_of}

-- a child of the tree is there
abbrev pub IsChildInWorld : World → Child → Type 0
IsChildInWorld w (sorts.Cpu d) = d.0 < length w.cpus
IsChildInWorld w (sorts.Group g) = g.0 < length w.groups

-- the child is the migrator of group g
pub record IsMigrator (w : World) (g : ℕ) (m : Child) : Type 0 where
  pub number : ℕ
  pub named : (group_of w g).migrator ≡ Some number
  pub child : child_at w.tree g number ≡ Some m

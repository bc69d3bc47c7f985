-- what a mark says of the CPU that set it and of the marked one
use Rattle.std.specs.Prelude.{◌≡◌, ◌≢◌, ℕ, ◌<◌, true, false, Some, length}
use Rattle.tm_base.specs.declared.names.CpuId.{CpuId}
use Rattle.tree_plan.specs.Paths.{is_placed_in}
use Rattle.walk_rules.specs.declared.walk.Walk.{Walk}
use Rattle.walk_rules.specs.declared.walk.WalkKind.TheVariants as kinds
use Rattle.walk_rules.specs.Hierarchy.{HasGroup}
use Rattle.core_world.specs.Enabled.{MarksNobody}
use Rattle.core_world.specs.Lawful.{IsLawful}
use Rattle.core_world.specs.World.{World, cpu_of}

-- CPU c is marked by CPU b: b is a placed online CPU inside its interrupt, and makes no Reeval
-- walk; c has a group
pub record MarkIs (w : World) (c b : ℕ) : Type 0 where
  pub in_range : b < length w.cpus
  pub placed : is_placed_in w.tree b ≡ true
  pub online : (cpu_of w b).online ≡ true
  pub inside : (cpu_of w b).inside ≡ true
  pub goes_on : (k : Walk) → (cpu_of w b).walk ≡ Some k → k.kind ≢ kinds.Reeval
  pub has_group : HasGroup w.tree c

-- marks, the CPUs that set them and the walks made for them fit
pub record MarksFit (w : World) : Type 0 where
  pub mark : (c b : ℕ) → (cpu_of w c).mark ≡ Some b → MarkIs w c b
  -- a Remote walk is made by the CPU that set the mark
  pub remote : (c : ℕ) (k : Walk) (by : CpuId) → (cpu_of w c).walk ≡ Some k →
      k.kind ≡ kinds.Remote by → (cpu_of w c).mark ≡ Some by.0
  -- a CPU outside its interrupt, and one that ends it by a Reeval walk, has marked nobody
  pub outside : (b : ℕ) → (cpu_of w b).inside ≡ false → MarksNobody w b
  pub ending : (b : ℕ) (k : Walk) → (cpu_of w b).walk ≡ Some k → k.kind ≡ kinds.Reeval →
      MarksNobody w b

-- in every lawful world marks fit
abbrev pub EachMarkFits : Type 0
EachMarkFits = (w : World) → IsLawful w → MarksFit w

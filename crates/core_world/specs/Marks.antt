-- marks, and bookkeeping that each step keeps by itself: part 9b and 9c of the invariant,
-- SomePlaced, Marked and Found
use Rattle.std.specs.Prelude.{◌≡◌, ◌≢◌, ℕ, true, Some}
use Rattle.tm_base.specs.declared.names.TheConstants.{NEVER}
use Rattle.tm_base.specs.declared.names.CpuId.{CpuId}
use Rattle.walk_rules.specs.tree_plan.Paths.{is_placed_in}
use Rattle.walk_rules.specs.declared.walk.Walk.{Walk}
use Rattle.walk_rules.specs.declared.walk.WalkKind.TheVariants as kinds
use Rattle.walk_rules.specs.declared.walk.Stage.TheVariants as stages
use Rattle.walk_rules.specs.Hierarchy.{HasGroup}
use Rattle.core_world.specs.Enabled.{IsReevaluating}
use Rattle.core_world.specs.World.{World, cpu_of}

-- a CPU that may have set a mark
pub record IsMarker (w : World) (b : ℕ) : Type 0 where
  pub placed : is_placed_in w.tree b ≡ true
  pub online : (cpu_of w b).online ≡ true
  pub inside : (cpu_of w b).inside ≡ true
  pub goes_on : IsReevaluating w b → ⊥

-- PART 9b
abbrev pub MarkersFit : World → Type 0
MarkersFit w = (c b : ℕ) → (cpu_of w c).mark ≡ Some b → IsMarker w b

-- PART 9c: a Remote walk is made by the marker
abbrev pub RemoteFits : World → Type 0
RemoteFits w = (c : ℕ) (k : Walk) (by : CpuId) → (cpu_of w c).walk ≡ Some k →
    k.kind ≡ kinds.Remote by → (cpu_of w c).mark ≡ Some by.0

-- MARKED
abbrev pub MarkedHasGroup : World → Type 0
MarkedHasGroup w = (c b : ℕ) → (cpu_of w c).mark ≡ Some b → HasGroup w.tree c

-- SOMEPLACED
pub record SomePlaced (w : World) : Type 0 where
  pub cpu : ℕ
  pub placed : is_placed_in w.tree cpu ≡ true
  pub online : (cpu_of w cpu).online ≡ true

-- FOUND: what a walk hands on isn't nothing
abbrev pub HandingFound : World → Type 0
HandingFound w = (c : ℕ) (k : Walk) → (cpu_of w c).walk ≡ Some k → k.stage ≡ stages.Handing →
    k.first ≢ NEVER

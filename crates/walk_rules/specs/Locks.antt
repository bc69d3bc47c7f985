-- the first sentence of part 9 of the invariant: a lock names a CPU exactly where that CPU's walk
-- holds it
use Rattle.std.specs.Prelude.{◌≡◌, ◌⊎◌, ℕ, Option, Some, None}
use Rattle.tree_plan.specs.Shape.{Shape}
use Rattle.tree_plan.specs.Paths.{group_at_of}
use Rattle.walk_rules.specs.declared.walk.Walk.{Walk}
use Rattle.walk_rules.specs.declared.walk.Stage.{Stage}
use Rattle.walk_rules.specs.declared.walk.Stage.TheVariants as stages
use Rattle.walk_rules.specs.Queues.{group_under}
use Rattle.walk_rules.specs.Scene.{Scene}

-- the locks that CPU c's walk holds at a level and stage: its group's, and its child's
abbrev pub group_lock : Shape → (c level : ℕ) → Stage → Option ℕ
group_lock t c level stages.Own = None
group_lock t c level stages.Up = None
group_lock t c level (stages.Mark more) = None
group_lock t c level stages.Read = None
group_lock t c level stages.Child = None
group_lock t c level stages.Swap = None
group_lock t c level stages.LockChild = None
group_lock t c level stages.LockGroup = None
group_lock t c level stages.SeeChild = group_at_of t c level
group_lock t c level stages.SeeGroup = group_at_of t c level
group_lock t c level (stages.Scan k) = group_at_of t c level
group_lock t c level stages.Store = group_at_of t c level
group_lock t c level (stages.First k) = group_at_of t c level
group_lock t c level stages.FreeGroup = group_at_of t c level
group_lock t c level stages.FreeChild = None
group_lock t c level stages.Finish = None
group_lock t c level stages.Handing = None

-- the group one level below a walk, whose lock it holds at this stage
abbrev pub child_lock : Shape → (c level : ℕ) → Stage → Option ℕ
child_lock t c level stages.Own = None
child_lock t c level stages.Up = None
child_lock t c level (stages.Mark more) = None
child_lock t c level stages.Read = None
child_lock t c level stages.Child = None
child_lock t c level stages.Swap = None
child_lock t c level stages.LockChild = None
child_lock t c level stages.LockGroup = group_under t c level
child_lock t c level stages.SeeChild = group_under t c level
child_lock t c level stages.SeeGroup = group_under t c level
child_lock t c level (stages.Scan k) = group_under t c level
child_lock t c level stages.Store = group_under t c level
child_lock t c level (stages.First k) = group_under t c level
child_lock t c level stages.FreeGroup = group_under t c level
child_lock t c level stages.FreeChild = group_under t c level
child_lock t c level stages.Finish = None
child_lock t c level stages.Handing = None

-- CPU c holds the lock of group g, by the stage of its walk
abbrev pub HoldsBy : Shape → (c : ℕ) → Option Walk → ℕ → Type 0
HoldsBy t c None g = ⊥
HoldsBy t c (Some k) g = (group_lock t c k.level k.stage ≡ Some g) ⊎ (child_lock t c k.level
    k.stage ≡ Some g)

-- PART 9a
pub record LocksHold (t : Shape) (s : Scene) : Type 0 where
  pub held : (g c : ℕ) → (s.group g).lock ≡ Some c → HoldsBy t c (s.walk c) g
  pub holds : (g c : ℕ) → HoldsBy t c (s.walk c) g → (s.group g).lock ≡ Some c

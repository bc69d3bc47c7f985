-- the bookkeeping of walks: which kinds come to which stages and levels, what `on` and `over` say
-- there, and what a walk's CPU is
use Rattle.std.specs.Prelude.{◌≡◌, ◌≢◌, ℕ, suc, ◌<◌, ◌||◌, Bool, true, false, Some, None}
use Rattle.tm_base.specs.declared.names.TheConstants.{NEVER}
use Rattle.tree_plan.specs.Shape.{Shape}
use Rattle.tree_plan.specs.Paths.{group_at_of}
use Rattle.walk_rules.specs.declared.walk.Walk.{Walk}
use Rattle.walk_rules.specs.declared.walk.WalkKind.{WalkKind}
use Rattle.walk_rules.specs.declared.walk.WalkKind.TheVariants as kinds
use Rattle.walk_rules.specs.declared.walk.Stage.{Stage}
use Rattle.walk_rules.specs.declared.walk.Stage.TheVariants as stages
use Rattle.walk_rules.specs.Hierarchy.{HasGroup, at_top}
use Rattle.walk_rules.specs.Scene.{Scene}

-- the walk makes its way by telling, not by an activation
abbrev pub Tells : WalkKind → Type 0
Tells kind = kind ≢ kinds.Activate

-- whether a walk takes its child out of the active sets: its CPU goes idle or offline
abbrev pub is_leaving : WalkKind → Bool
is_leaving kinds.Activate = false
is_leaving kinds.Deactivate = true
is_leaving kinds.Offline = true
is_leaving kinds.Reeval = false
is_leaving (kinds.Remote by) = false

-- the walk takes its CPU, and what gets inactive by that, out of the active sets
abbrev pub Leaves : WalkKind → Type 0
Leaves kind = is_leaving kind ≡ true

-- the path of c goes on above a level
abbrev pub GoesOn : Shape → (c l : ℕ) → Type 0
GoesOn t c l = (p : ℕ) × (group_at_of t c (suc l) ≡ Some p)

-- kinds and levels at which a walk of c comes to a stage, where c has a group
abbrev pub FitsStage : Shape → (c : ℕ) → WalkKind → (level : ℕ) → Stage → Type 0
FitsStage t c kind level stages.Own = (kind ≡ kinds.Activate) × (level ≡ 0)
FitsStage t c kind level stages.Up = kind ≡ kinds.Activate
FitsStage t c kind level (stages.Mark more) = (kind ≡ kinds.Activate) × GoesOn t c level
FitsStage t c kind level stages.Read = Leaves kind
FitsStage t c kind level stages.Child = Leaves kind
FitsStage t c kind level stages.Swap = Leaves kind
FitsStage t c kind level stages.LockChild = Tells kind × (0 < level)
FitsStage t c kind level stages.LockGroup = Tells kind
FitsStage t c kind level stages.SeeChild = Tells kind × (0 < level)
FitsStage t c kind level stages.SeeGroup = Tells kind
FitsStage t c kind level (stages.Scan k) = Tells kind × (0 < level) × (k < 8)
FitsStage t c kind level stages.Store = Tells kind
FitsStage t c kind level (stages.First k) = Tells kind × (at_top t c level ≡ true) × (k < 8)
FitsStage t c kind level stages.FreeGroup = Tells kind
FitsStage t c kind level stages.FreeChild = Tells kind × (0 < level)
FitsStage t c kind level stages.Finish = Tells kind
FitsStage t c kind level stages.Handing = kind ≡ kinds.Offline

-- a walk of a CPU that has a group stands at a group of its path
pub record StandsInTree (t : Shape) (c : ℕ) (k : Walk) : Type 0 where
  pub there : (g : ℕ) × (group_at_of t c k.level ≡ Some g)
  pub fits : FitsStage t c k.kind k.level k.stage

-- a walk of a CPU that has none has only its CPU's wakeup to set
pub record StandsAlone (k : Walk) : Type 0 where
  pub finishing : k.stage ≡ stages.Finish
  pub tells : Tells k.kind
  pub own : k.first ≡ k.next
  pub no_best : k.best ≡ None
  pub offline : k.kind ≡ kinds.Offline → k.first ≡ NEVER

-- PLACED
pub record IsPlaced (t : Shape) (s : Scene) : Type 0 where
  pub in_tree : (c : ℕ) (k : Walk) → s.walk c ≡ Some k → HasGroup t c → StandsInTree t c k
  pub alone : (c : ℕ) (k : Walk) → s.walk c ≡ Some k → (HasGroup t c → ⊥) → StandsAlone k

-- what `on` and `over` say at a stage: `over` is whether the walk ends at this level
abbrev pub FlagsAt : (top on over : Bool) → Stage → Type 0
FlagsAt top on over stages.Own = Unit {0}
FlagsAt top on over stages.Up = Unit {0}
FlagsAt top on over (stages.Mark more) = Unit {0}
FlagsAt top on over stages.Read = (on ≡ false) × (over ≡ false)
FlagsAt top on over stages.Child = (on ≡ false) × (over ≡ false)
FlagsAt top on over stages.Swap = (on ≡ false) × (over ≡ false)
FlagsAt top on over stages.LockChild = (on ≡ false) × (over ≡ false)
FlagsAt top on over stages.LockGroup = (on ≡ false) × (over ≡ false)
FlagsAt top on over stages.SeeChild = (on ≡ false) × (over ≡ false)
FlagsAt top on over stages.SeeGroup = (on ≡ false) × (over ≡ false)
FlagsAt top on over (stages.Scan k) = over ≡ (on || top)
FlagsAt top on over stages.Store = over ≡ (on || top)
FlagsAt top on over (stages.First k) = (on ≡ false) × (over ≡ true)
FlagsAt top on over stages.FreeGroup = top ≡ true → over ≡ true
FlagsAt top on over stages.FreeChild = top ≡ true → over ≡ true
FlagsAt top on over stages.Finish = over ≡ true
FlagsAt top on over stages.Handing = over ≡ true

-- FLAGS
abbrev pub FlagsHold : Shape → Scene → Type 0
FlagsHold t s =
    (c : ℕ) (k : Walk) → s.walk c ≡ Some k → HasGroup t c →
    FlagsAt (at_top t c k.level) k.on k.over k.stage

-- what the CPU of a walk of this kind is; that an activation's CPU is active is a rule of edges
abbrev pub IsWalker : WalkKind → (online idle : Bool) → Type 0
IsWalker kinds.Activate online idle = Unit {0}
IsWalker kinds.Deactivate online idle = (online ≡ true) × (idle ≡ true)
IsWalker kinds.Offline online idle = online ≡ false
IsWalker kinds.Reeval online idle = (online ≡ true) × (idle ≡ true)
IsWalker (kinds.Remote by) online idle = (online ≡ true) × (idle ≡ true)

-- WALKER
abbrev pub WalkersFit : Scene → Type 0
WalkersFit s = (c : ℕ) (k : Walk) → s.walk c ≡ Some k → IsWalker k.kind (s.online c) (s.idle c)

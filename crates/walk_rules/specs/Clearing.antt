-- parts 3, 2c and 6 of the invariant
use Rattle.std.specs.Prelude.{◌≡◌, ◌⊎◌, ℕ, ◌&&◌, Bool, true, false, Option, Some, None, option_map}
use Rattle.std.specs.Prelude.{if◌then◌else◌}
use Rattle.tm_base.specs.declared.names.Child.TheVariants as sorts
use Rattle.tm_base.specs.declared.names.Child.{Child}
use Rattle.tree_plan.specs.Shape.{Shape}
use Rattle.tm_base.specs.Children.{of_cpu, of_group}
use Rattle.tree_plan.specs.Paths.{parent_of, group_at_of, child_towards}
use Rattle.walk_rules.specs.declared.walk.Walk.{Walk}
use Rattle.walk_rules.specs.declared.walk.Stage.{Stage}
use Rattle.walk_rules.specs.declared.walk.Stage.TheVariants as stages
use Rattle.walk_rules.specs.Scene.{Scene, is_on, HasBit}
use Rattle.walk_rules.specs.Standing.{is_leaving}
use Rattle.walk_rules.specs.Edges.{stand, StandsBelow}

-- where a walk stands as against its exchange of the group's word
pub data Side : Type 0 where
  before : Side
  swapping : Side
  after : Side

-- whether a stage of a walk that leaves stands before its exchange, at it, or after it
abbrev pub side_of_exchange : Stage → Option Side
side_of_exchange stages.Own = None
side_of_exchange stages.Up = None
side_of_exchange (stages.Mark more) = None
side_of_exchange stages.Read = Some before
side_of_exchange stages.Child = Some before
side_of_exchange stages.Swap = Some swapping
side_of_exchange stages.LockChild = Some after
side_of_exchange stages.LockGroup = Some after
side_of_exchange stages.SeeChild = Some after
side_of_exchange stages.SeeGroup = Some after
side_of_exchange (stages.Scan k) = Some after
side_of_exchange stages.Store = Some after
side_of_exchange (stages.First k) = Some after
side_of_exchange stages.FreeGroup = Some after
side_of_exchange stages.FreeChild = Some after
side_of_exchange stages.Finish = Some after
side_of_exchange stages.Handing = Some after

-- the child whose bit a walk that goes away will clear, or has to clear one level higher: before
-- the exchange the child of its level, unless it saw that child active and its read is still fresh;
-- past the exchange its group, unless it ends there
abbrev pub clears_at : Shape → (c level : ℕ) → (child_on fresh over : Bool) → Option Side →
    Option Child
clears_at t c level child_on fresh over None = None
clears_at t c level child_on fresh over (Some before) = child_towards t c level
clears_at t c level child_on fresh over (Some swapping) =
    if child_on && fresh then None else child_towards t c level
clears_at t c level child_on fresh over (Some after) =
    if over then None else option_map of_group (group_at_of t c level)

-- the child whose bit a walk of CPU c is going to clear, where it is one that leaves
abbrev pub clears_by : Shape → (c : ℕ) → (fresh : Bool) → Option Walk → Option Child
clears_by t c fresh None = None
clears_by t c fresh (Some k) =
    if is_leaving k.kind
    then clears_at t c k.level k.child_on fresh k.over (side_of_exchange k.stage)
    else None

-- the child whose bit CPU c's walk will clear
abbrev pub clears : Shape → Scene → ℕ → Option Child
clears t s c = clears_by t c (s.fresh c) (s.walk c)

-- an activation stands below the child, where that is a group
abbrev pub StandsUnder : Shape → Scene → Child → Type 0
StandsUnder t s (sorts.Cpu c) = ⊥
StandsUnder t s (sorts.Group x) = StandsBelow t s x.0

-- some walk will clear the child's bit, or make the child active again
abbrev pub IsSeenTo : Shape → Scene → Child → Type 0
IsSeenTo t s m = ((d : ℕ) × (clears t s d ≡ Some m)) ⊎ StandsUnder t s m

-- PART 3
abbrev pub BitsHold : Shape → Scene → Type 0
BitsHold t s = (m : Child) (g : ℕ) → parent_of t m ≡ Some g → is_on s m ≡ false → HasBit t s m g →
    IsSeenTo t s m

-- PART 2c: where an active CPU's bit is set, no activation stands at its edge
abbrev pub NoneAtKnown : Shape → Scene → Type 0
NoneAtKnown t s =
    (c d g : ℕ) → parent_of t (of_cpu c) ≡ Some g → is_on s (of_cpu c) ≡ true →
    HasBit t s (of_cpu c) g →
    stand t s d ≡ Some (of_cpu c) → ⊥

-- what an activation marks as ignored is active
abbrev pub MarksActive : Shape → Scene → (c level : ℕ) → Stage → Type 0
MarksActive t s c level (stages.Mark more) = (g : ℕ) → group_at_of t c level ≡ Some g →
    is_on s (of_group g) ≡ true
MarksActive t s c level stages.Own = is_on s (of_cpu c) ≡ true
MarksActive t s c level other = Unit {0}

-- PART 6
abbrev pub MarksHold : Shape → Scene → Type 0
MarksHold t s = (c : ℕ) (k : Walk) → s.walk c ≡ Some k → MarksActive t s c k.level k.stage

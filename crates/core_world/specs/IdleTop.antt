-- who answers for an idle top: part 7 of the invariant
use Rattle.std.specs.Prelude.{◌≡◌, ℕ, ◌<◌, ◌≤◌, Bool, true, false, Some, None}
use Rattle.walk_rules.specs.event_queue.declared.event.Event.{Event}
use Rattle.walk_rules.specs.event_queue.EventMap.{Counts, event_at}
use Rattle.walk_rules.specs.tree_plan.Paths.{group_at_of}
use Rattle.walk_rules.specs.declared.walk.Walk.{Walk}
use Rattle.walk_rules.specs.declared.walk.WalkKind.{WalkKind}
use Rattle.walk_rules.specs.declared.walk.WalkKind.TheVariants as kinds
use Rattle.walk_rules.specs.declared.walk.Stage.{Stage}
use Rattle.walk_rules.specs.declared.walk.Stage.TheVariants as stages
use Rattle.walk_rules.specs.Hierarchy.{HasGroup, at_top}
use Rattle.core_world.specs.Enabled.{IsReevaluating}
use Rattle.core_world.specs.Wakeups.{Keeps}
use Rattle.core_world.specs.World.{World, cpu_of, group_of}

-- a walk that comes to the top, or finds something active below it
abbrev pub is_climbing : WalkKind → Bool
is_climbing kinds.Activate = false
is_climbing kinds.Deactivate = true
is_climbing kinds.Offline = true
is_climbing kinds.Reeval = true
is_climbing (kinds.Remote by) = false

-- at these stages at a top without migrator a walk has the event of this child still to read
abbrev pub ReadsYet : (child : ℕ) → Stage → Type 0
ReadsYet child (stages.Scan k) = Unit {0}
ReadsYet child stages.Store = Unit {0}
ReadsYet child (stages.First k) = k ≤ child
ReadsYet child other = ⊥

-- CPU d, which has a group, has this walk on its way up
pub record IsClimbing (w : World) (d : ℕ) (k : Walk) : Type 0 where
  pub has_group : HasGroup w.tree d
  pub walk : (cpu_of w d).walk ≡ Some k
  pub climbing : is_climbing k.kind ≡ true

-- what answers for the event of a time in slot `child` of an inactive top; each CPU named has a
-- group
pub data Answered (w : World) (child time : ℕ) : Type 0 where
  by_activation : (d : ℕ) (k : Walk) → HasGroup w.tree d → (cpu_of w d).walk ≡ Some k →
      k.kind ≡ kinds.Activate → Answered w child time
  by_wakeup : (d : ℕ) → HasGroup w.tree d → Keeps (cpu_of w d) → (cpu_of w d).wakeup ≤ time →
      Answered w child time
  by_interrupt : (d : ℕ) → HasGroup w.tree d → (cpu_of w d).online ≡ true →
      (cpu_of w d).idle ≡ true → (cpu_of w d).inside ≡ true → (IsReevaluating w d → ⊥) →
      Answered w child time
  by_climbing : (d : ℕ) (k : Walk) → IsClimbing w d k → k.over ≡ false → Answered w child time
  by_reading : (d : ℕ) (k : Walk) → IsClimbing w d k → at_top w.tree d k.level ≡ true →
      k.on ≡ false → ReadsYet child k.stage → Answered w child time
  by_first : (d : ℕ) (k : Walk) → IsClimbing w d k → k.first ≤ time → Answered w child time

-- a group is the top where a path ends at it
pub record IsTopGroup (w : World) (g : ℕ) : Type 0 where
  pub cpu : ℕ
  pub level : ℕ
  pub there : group_at_of w.tree cpu level ≡ Some g
  pub last : at_top w.tree cpu level ≡ true

-- PART 7a
abbrev pub TopAnswered : World → Type 0
TopAnswered w = (g child : ℕ) (e : Event) → IsTopGroup w g → (group_of w g).migrator ≡ None →
    event_at (group_of w g).events child ≡ Some e → Counts e → Answered w child e.expiry

-- PART 7b: the first event so far
abbrev pub FirstHolds : World → Type 0
FirstHolds w = (c g n i : ℕ) (k : Walk) (e : Event) → (cpu_of w c).walk ≡ Some k →
    k.stage ≡ stages.First n → group_at_of w.tree c k.level ≡ Some g → i < n →
    event_at (group_of w g).events i ≡ Some e → Counts e → k.first ≤ e.expiry

-- where each step of a CPU may be made, by its part and the pass that is brought
use Rattle.std.specs.Prelude.{◌≡◌, ◌⊎◌, ℕ, suc, ◌+◌, ◌^◌, ◌<◌, ◌≤◌, true, false, [], ◌∷◌}
use Rattle.std.specs.Prelude.{Some, None}
use Rattle.event_queue.specs.declared.event.Event.{Event}
use Rattle.event_queue.specs.EventMap.{Counts}
use Rattle.tree_plan.specs.Paths.{group_at_of, is_placed_in}
use Rattle.walk_rules.specs.declared.walk.Walk.{Walk}
use Rattle.walk_rules.specs.declared.walk.WalkKind.{WalkKind}
use Rattle.walk_rules.specs.declared.walk.WalkKind.TheVariants as kinds
use Rattle.walk_rules.specs.declared.walk.Stage.TheVariants as stages
use Rattle.core_world.specs.Enabled.{first_event}
use Rattle.shared_rule.specs.core_state.Shown.{as_cpu}
use Rattle.shared_rule.specs.declared.parts.BoxView.{BoxView}
use Rattle.shared_rule.specs.declared.parts.PassView.{PassView}
use Rattle.shared_rule.specs.Parts.{HasGuest, HeldPart}
use Rattle.shared_cpus.specs.Pairs.{HasOwn}

-- ITS OWN TURN: the own pass of the part's CPU is brought, the CPU has no walk and is online
pub record IsTurn (part : HeldPart) (p : PassView) : Type 0 where
  pub brought : part.brought ≡ p ∷ []
  pub own : p.cpu ≡ part.box.cpu
  pub free : part.box.own.walk ≡ None
  pub online : part.box.own.online ≡ true

-- WAKE: the CPU is idle, and one walk more may begin with its pass
pub record CanWake (part : HeldPart) : Type 0 where
  pub pass : PassView
  pub turn : IsTurn part pass
  pub idle : part.box.own.idle ≡ true
  pub left : suc pass.walks < 2 ^ 32

-- IDLE: the CPU is active and outside its interrupt, its first event is more than a jiffy ahead,
-- and one walk more may begin with its pass
pub record CanIdle (part : HeldPart) : Type 0 where
  pub pass : PassView
  pub turn : IsTurn part pass
  pub awake : part.box.own.idle ≡ false
  pub outside : part.box.own.inside ≡ false
  pub rests : part.box.opening.clock + 1 < first_event part.box.own.bases
  pub left : suc pass.walks < 2 ^ 32

-- REEVAL: the CPU is idle, inside its interrupt, and marks nobody, and one walk more may begin with
-- its pass
pub record CanRetell (part : HeldPart) : Type 0 where
  pub pass : PassView
  pub turn : IsTurn part pass
  pub idle : part.box.own.idle ≡ true
  pub inside : part.box.own.inside ≡ true
  pub marks_nobody : pass.marks ≡ []
  pub left : suc pass.walks < 2 ^ 32

-- ENTER: the CPU is outside its interrupt
pub record CanEnter (part : HeldPart) : Type 0 where
  pub pass : PassView
  pub turn : IsTurn part pass
  pub outside : part.box.own.inside ≡ false

-- LEAVE: the CPU is inside its interrupt, awake, and marks nobody
pub record CanLeave (part : HeldPart) : Type 0 where
  pub pass : PassView
  pub turn : IsTurn part pass
  pub inside : part.box.own.inside ≡ true
  pub awake : part.box.own.idle ≡ false
  pub marks_nobody : pass.marks ≡ []

-- the event of a CPU in its leaf is there, isn't ignored and isn't past the clock
pub record IsDueThere (b : BoxView) : Type 0 where
  pub leaf : ℕ
  pub event : Event
  pub path : group_at_of b.opening.tree b.cpu 0 ≡ Some leaf
  pub there : b.leaf ≡ Some event
  pub counts : Counts event
  pub come : event.expiry ≤ b.opening.clock

-- TAKE: the CPU of the pass is placed, inside its interrupt and makes no re-evaluation; the part's
-- is idle, unmarked and without walk, and due in its leaf
pub record CanTake (part : HeldPart) (p : PassView) : Type 0 where
  pub brought : part.brought ≡ p ∷ []
  pub placed : is_placed_in part.box.opening.tree p.cpu ≡ true
  pub inside : p.inside ≡ true
  pub goes_on : p.reeval ≡ false
  pub free : part.box.own.walk ≡ None
  pub online : part.box.own.online ≡ true
  pub idle : part.box.own.idle ≡ true
  pub unmarked : part.box.own.mark ≡ None
  pub due : IsDueThere part.box

-- RELEASE: the part's CPU is marked by that of the pass, awake or offline, and without walk
pub record CanRelease (part : HeldPart) : Type 0 where
  pub pass : PassView
  pub brought : part.brought ≡ pass ∷ []
  pub free : part.box.own.walk ≡ None
  pub marked : part.box.own.mark ≡ Some pass.cpu
  pub awake : (part.box.own.online ≡ false) ⊎ (part.box.own.idle ≡ false)

-- CARRY: the part's CPU is marked by that of the pass, still idle, and without walk, and one walk
-- more may begin with the pass
pub record CanCarry (part : HeldPart) : Type 0 where
  pub pass : PassView
  pub brought : part.brought ≡ pass ∷ []
  pub free : part.box.own.walk ≡ None
  pub marked : part.box.own.mark ≡ Some pass.cpu
  pub online : part.box.own.online ≡ true
  pub idle : part.box.own.idle ≡ true
  pub left : suc pass.walks < 2 ^ 32

-- FINISH: the part has this walk, of this kind, which has come to its end
pub record EndsAs (part : HeldPart) (k : Walk) (kind : WalkKind) : Type 0 where
  pub walk : part.box.own.walk ≡ Some k
  pub stage : k.stage ≡ stages.Finish
  pub sort : k.kind ≡ kind

-- a walk that the CPU of the pass made for the part's has come to its end
pub record CanEndCarry (part : HeldPart) : Type 0 where
  pub pass : PassView
  pub brought : part.brought ≡ pass ∷ []
  pub made : Walk
  pub ends : EndsAs part made (kinds.Remote (as_cpu pass.cpu))

-- the pass is brought that a walk of this kind wants as it ends: a deactivation and a re-evaluation
-- their own CPU's, a carrying walk that of the CPU that set the mark
abbrev pub HasPassFor : WalkKind → HeldPart → Type 0
HasPassFor kinds.Activate part = Unit {0}
HasPassFor kinds.Deactivate part = HasOwn part
HasPassFor kinds.Offline part = Unit {0}
HasPassFor kinds.Reeval part = HasOwn part
HasPassFor (kinds.Remote by) part = HasGuest by.0 part

-- the walk of the part has come to its end, and the pass that it wants is brought
pub record CanFinish (part : HeldPart) : Type 0 where
  pub made : Walk
  pub walk : part.box.own.walk ≡ Some made
  pub stage : made.stage ≡ stages.Finish
  pub pass : HasPassFor made.kind part

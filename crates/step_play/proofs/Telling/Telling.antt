-- a walk that tells, made alone: what holds of the world at each of its stages
use Rattle.std.proofs.Common.{◌≡◌, ◌≢◌, ◌⊎◌, ℕ, suc, ◌+◌, ◌*◌, ◌<◌, Bool, true, false, Some, None}
use Rattle.std.proofs.Common.{length, take}
use Rattle.std.specs.Prelude.{◌&&◌, ◌||◌, not, is_some, if◌then◌else◌}
use Rattle.tm_base.specs.declared.names.TheConstants.{NEVER}
use Rattle.group_word.specs.State.{migrator_without, without_child}
use Rattle.tree_plan.specs.Paths.{group_at_of}
use Rattle.walk_rules.specs.declared.walk.Walk.{Walk}
use Rattle.walk_rules.specs.declared.walk.Stage.{Stage}
use Rattle.walk_rules.specs.declared.walk.Stage.TheVariants as stages
use Rattle.walk_rules.specs.Hierarchy.{HasGroup, at_top, group_on, side}
use Rattle.walk_rules.specs.Stages.{is_remote}
use Rattle.walk_rules.specs.Standing.{is_leaving}
use Rattle.core_world.specs.Lawful.{IsLawful}
use Rattle.core_world.specs.Steps.{child_here, here, with_walk}
use Rattle.core_world.specs.Wakeups.{is_past_store}
use Rattle.core_world.specs.World.{World, cpu_of, group_of}
use Rattle.step_play.specs.Rules.Live.{first, first_in, told_by}
use Rattle.step_play.proofs.Activation.Touches.{ExactAt}
use Rattle.step_play.proofs.Telling.Slots.{first_upto, least_live}

-- WORDS: the levels whose groups the walk has left by this stage
abbrev pub left_levels : (level : ℕ) → Stage → ℕ
left_levels level stages.Own = level
left_levels level stages.Up = level
left_levels level (stages.Mark more) = level
left_levels level stages.Read = level
left_levels level stages.Child = level
left_levels level stages.Swap = level
left_levels level stages.LockChild = suc level
left_levels level stages.LockGroup = suc level
left_levels level stages.SeeChild = suc level
left_levels level stages.SeeGroup = suc level
left_levels level (stages.Scan k) = suc level
left_levels level stages.Store = suc level
left_levels level (stages.First k) = suc level
left_levels level stages.FreeGroup = suc level
left_levels level stages.FreeChild = suc level
left_levels level stages.Finish = suc level
left_levels level stages.Handing = suc level

-- a group's word is as it was, or is what the child towards the walk's CPU left
pub record Stays (old new : World) (g : ℕ) : Type 0 where
  pub active : (group_of new g).active ≡ (group_of old g).active
  pub migrator : (group_of new g).migrator ≡ (group_of old g).migrator

pub record IsLeft (old new : World) (c levels : ℕ) (leaves : Bool) (g : ℕ) : Type 0 where
  pub level : ℕ
  pub low : level < levels
  pub there : group_at_of new.tree c level ≡ Some g
  pub leaving : leaves ≡ true
  pub active : (group_of new g).active ≡
      without_child (group_of old g).active (side new.tree c level)
  pub migrator : (group_of new g).migrator ≡
      migrator_without (group_of old g).migrator (side new.tree c level)
      (without_child (group_of old g).active (side new.tree c level))

abbrev pub Words : (old new : World) → (c levels : ℕ) → (leaves : Bool) → Type 0
Words old new c levels leaves = (g : ℕ) → Stays old new g ⊎ IsLeft old new c levels leaves g

-- EDGES that may be open: that below the walk's group until Store, and that of its group where it
-- is inactive
abbrev pub is_under_way : Stage → Bool
is_under_way stages.Own = true
is_under_way stages.Up = true
is_under_way (stages.Mark more) = true
is_under_way stages.Read = true
is_under_way stages.Child = true
is_under_way stages.Swap = true
is_under_way stages.LockChild = true
is_under_way stages.LockGroup = true
is_under_way stages.SeeChild = true
is_under_way stages.SeeGroup = true
is_under_way (stages.Scan k) = true
is_under_way stages.Store = true
is_under_way (stages.First k) = true
is_under_way stages.FreeGroup = true
is_under_way stages.FreeChild = true
is_under_way stages.Finish = false
is_under_way stages.Handing = false

pub data Open (w : World) (c level : ℕ) (st : Stage) (x : ℕ) : Type 0 where
  lower : (l : ℕ) → level ≡ suc l → is_past_store st ≡ false → group_at_of w.tree c l ≡ Some x →
      Open w c level st x
  upper : is_under_way st ≡ true → group_at_of w.tree c level ≡ Some x →
      (group_of w x).migrator ≡ None → Open w c level st x

abbrev pub Edges : World → (c level : ℕ) → Stage → Type 0
Edges w c level st = (x : ℕ) → Open w c level st x ⊎ ExactAt w x

-- FIELDS of the walk: what it saw of its group, and what it found to wake for at the top
pub record Sees (w : World) (c : ℕ) (k : Walk) : Type 0 where
  pub on : k.on ≡ is_some (group_of w (here w c k)).migrator
  pub over : k.over ≡ (k.on || at_top w.tree c k.level)

abbrev pub looks : World → (c : ℕ) → Walk → Bool
looks w c k = at_top w.tree c k.level && (not k.on && not (is_remote k.kind))

abbrev pub finds : World → (c : ℕ) → Walk → ℕ
finds w c k = if looks w c k then least_live (group_of w (here w c k)).events else NEVER

pub record IsFound (w : World) (c : ℕ) (k : Walk) : Type 0 where
  pub sees : Sees w c k
  pub first : k.first ≡ finds w c k

-- it found nothing yet at this level, nor at a top
pub record Begun (k : Walk) : Type 0 where
  pub first : k.first ≡ NEVER
  pub best : k.best ≡ None

-- the best event of the child is its first, above the leaf
abbrev pub IsBest : World → (c : ℕ) → Walk → Type 0
IsBest w c k = (l : ℕ) → k.level ≡ suc l → k.best ≡ first w (group_on w.tree c l)

abbrev pub Fields : World → (c : ℕ) → Walk → Stage → Type 0
Fields w c k stages.Own = ⊥
Fields w c k stages.Up = ⊥
Fields w c k (stages.Mark more) = ⊥
Fields w c k stages.Read = Begun k
Fields w c k stages.Child = Begun k × (k.fresh ≡ true)
Fields w c k stages.Swap = Begun k × (k.fresh ≡ true) × (k.child_on ≡ false)
Fields w c k stages.LockChild = Begun k
Fields w c k stages.LockGroup = Begun k
Fields w c k stages.SeeChild = Begun k
Fields w c k stages.SeeGroup = Begun k
Fields w c k (stages.Scan j) = (k.first ≡ NEVER) × Sees w c k
    × (k.best ≡ first_in (take j (group_of w (child_here w c k)).events))
Fields w c k stages.Store = (k.first ≡ NEVER) × Sees w c k × IsBest w c k
Fields w c k (stages.First j) = Sees w c k × (looks w c k ≡ true)
    × (k.first ≡ first_upto j (group_of w (here w c k)).events)
Fields w c k stages.FreeGroup = IsFound w c k
Fields w c k stages.FreeChild = IsFound w c k
Fields w c k stages.Finish = HasGroup w.tree c → IsFound w c k
Fields w c k stages.Handing = ⊥

-- THE FRAME: the rest of the world is as it was, and no other CPU has a walk
pub record Framed (old w : World) (c : ℕ) (made k : Walk) : Type 0 where
  pub lawful : IsLawful w
  pub tree : w.tree ≡ old.tree
  pub clock : w.clock ≡ old.clock
  pub timers : w.timers ≡ old.timers
  pub cpus : length w.cpus ≡ length old.cpus
  pub groups : length w.groups ≡ length old.groups
  pub in_range : c < length w.cpus
  pub own : cpu_of w c ≡ with_walk (cpu_of old c) (Some k)
  pub others : (d : ℕ) → d ≢ c → cpu_of w d ≡ cpu_of old d
  pub free : (d : ℕ) → d ≢ c → (cpu_of w d).walk ≡ None
  pub kind : k.kind ≡ made.kind

-- how far the walk has come: each step brings it further
abbrev pub place : Stage → ℕ
place stages.Own = 0
place stages.Up = 0
place (stages.Mark more) = 0
place stages.Read = 0
place stages.Child = 1
place stages.Swap = 2
place stages.LockChild = 3
place stages.LockGroup = 4
place stages.SeeChild = 5
place stages.SeeGroup = 6
place (stages.Scan k) = 7 + k
place stages.Store = 15
place (stages.First k) = 16 + k
place stages.FreeGroup = 24
place stages.FreeChild = 25
place stages.Finish = 26
place stages.Handing = 27

abbrev pub way : (level : ℕ) → Stage → ℕ
way level st = 32 * level + place st

-- ALL OF IT
pub record Tells (old : World) (c : ℕ) (made : Walk) (w : World) (k : Walk) : Type 0 where
  pub frame : Framed old w c made k
  pub words : Words old w c (left_levels k.level k.stage) (is_leaving made.kind)
  pub told : (d : ℕ) → d ≢ c → told_by w d ≡ told_by old d
  pub edges : Edges w c k.level k.stage
  pub below : is_under_way k.stage ≡ true → (l : ℕ) → k.level ≡ suc l →
      (group_of w (group_on w.tree c l)).migrator ≡ None
  pub fields : Fields w c k k.stage

-- the walk has made a step, by which it has come further
pub record IsFurther (old : World) (c : ℕ) (made k : Walk) (new : World) : Type 0 where
  pub next : Walk
  pub tells : Tells old c made new next
  pub further : way k.level k.stage < way next.level next.stage

-- how is looked for who answers; no public clause speaks of this
use Rattle.std.specs.Prelude.{◌≡◌, ◌⊎◌, ℕ, zero, suc, ◌<◌, ◌≤◌, Option, Some, None, is_some, true}
use Rattle.std.specs.Prelude.{false}
use Rattle.std.specs.Prelude.{if◌then◌else◌, length, option_and_then}
use Rattle.event_queue.specs.EventMap.{event_at}
use Rattle.tree_plan.specs.Paths.{group_at_of, is_placed_in}
use Rattle.coverage.specs.Coverage.{HasEvent, Held, Woken}
use Rattle.walk_rules.specs.declared.walk.Walk.{Walk}
use Rattle.walk_rules.specs.Edges.{heading}
use Rattle.walk_rules.specs.Hierarchy.{at_top, side}
use Rattle.walk_rules.specs.Queues.{is_past_swap, is_up_to_store, tells_by, will_tell_by}
use Rattle.core_world.specs.Covered.{Covered, kept_wakeup, live_expiry, machine_of}
use Rattle.core_world.specs.World.{World, cpu_of, group_of, scene_of}
use Rattle.trace_check.specs.declared.reach.End.{End}
use Rattle.trace_check.specs.declared.reach.End.TheVariants as ends
use Rattle.trace_check.specs.declared.reach.Reach.{Reach}

-- below this level every group of CPU c's path is inactive, was told, and isn't the top
pub record IsToldBelow (w : World) (c wheel level : ℕ) : Type 0 where
  pub inactive : (k g : ℕ) → k < level → group_at_of w.tree c k ≡ Some g →
      (group_of w g).migrator ≡ None
  pub events : (k : ℕ) → k < level → HasEvent (machine_of w) c wheel k
  pub goes_on : (k : ℕ) → k < level → at_top w.tree c k ≡ false

-- an active group was told
pub record EndsActive (w : World) (c wheel level g : ℕ) : Type 0 where
  pub path : group_at_of w.tree c level ≡ Some g
  pub told : HasEvent (machine_of w) c wheel level
  pub active : is_some (group_of w g).migrator ≡ true
  pub in_range : g < length w.groups

-- the top, inactive, was told, of this time
pub record EndsAtTop (w : World) (c wheel level time : ℕ) : Type 0 where
  pub top : ℕ
  pub path : group_at_of w.tree c level ≡ Some top
  pub last : at_top w.tree c level ≡ true
  pub inactive : (group_of w top).migrator ≡ None
  pub event : live_expiry (event_at (group_of w top).events (side w.tree c level)) ≡ Some time
  pub in_time : time ≤ wheel

-- what stands at the level at which that ends
abbrev pub EndsAt : World → (c wheel level : ℕ) → End → Type 0
EndsAt w c wheel level (ends.Active group) = EndsActive w c wheel level group.0
EndsAt w c wheel level (ends.Top time) = EndsAtTop w c wheel level time
EndsAt w c wheel level ends.Untold = HasEvent (machine_of w) c wheel level → ⊥

-- HOW FAR UP a wheel expiry was told
pub record IsReach (w : World) (c wheel : ℕ) (reach : Reach) : Type 0 where
  pub below : IsToldBelow w c wheel reach.level
  pub end : EndsAt w c wheel reach.level reach.end

-- a placed CPU keeps a wakeup by a time
pub record WakesIn (w : World) (time d : ℕ) : Type 0 where
  pub placed : is_placed_in w.tree d ≡ true
  pub at : ℕ
  pub keeps : kept_wakeup (cpu_of w d) ≡ Some at
  pub in_time : at ≤ time

-- the lowest that does, and its wakeup
pub record IsFirstWaker (w : World) (time d at : ℕ) : Type 0 where
  pub placed : is_placed_in w.tree d ≡ true
  pub keeps : kept_wakeup (cpu_of w d) ≡ Some at
  pub in_time : at ≤ time
  pub first : (e : ℕ) → WakesIn w time e → d ≤ e

-- CPU d's walk is an activation below group x, or a carrier at it
abbrev pub SeesTo : World → (d x : ℕ) → Type 0
SeesTo w d x =
    (heading w.tree (scene_of w) d ≡ Some x) ⊎
    ((will_tell_by w.tree d ((scene_of w).walk d) ≡ Some x)
    ⊎ (tells_by w.tree d ((scene_of w).walk d) ≡ Some x))

-- the level of the group that a walk will tell of one level higher
abbrev pub will_tell_level : Walk → Option ℕ
will_tell_level k =
    if is_past_swap k.stage then (if k.over then None else Some k.level) else None

-- the level below
abbrev pub level_under : ℕ → Option ℕ
level_under zero = None
level_under (suc l) = Some l

-- the level of the group of which a walk tells
abbrev pub tells_level : Walk → Option ℕ
tells_level k = if is_up_to_store k.stage then level_under k.level else None

-- the paths of CPUs d and c meet at this level of d's path, and that is below this level of c's
pub record MeetsBelow (w : World) (d : ℕ) (at : Option ℕ) (c level : ℕ) : Type 0 where
  pub meeting : ℕ
  pub group : ℕ
  pub low : meeting < level
  pub path : group_at_of w.tree c meeting ≡ Some group
  pub other : option_and_then (group_at_of w.tree d) at ≡ Some group

-- CPU d's walk sees to a group of CPU c's path below this level
pub record SeesToBelow (w : World) (d c level : ℕ) : Type 0 where
  pub meeting : ℕ
  pub group : ℕ
  pub low : meeting < level
  pub path : group_at_of w.tree c meeting ≡ Some group
  pub sees : SeesTo w d group

-- the wheel expiry is covered, but neither held nor woken for
pub record IsLeft (w : World) (c wheel : ℕ) : Type 0 where
  pub covered : Covered w c wheel
  pub not_held : Held (machine_of w) c wheel → ⊥
  pub not_woken : Woken (machine_of w) c wheel → ⊥

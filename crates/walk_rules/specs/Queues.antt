-- part 5 of the invariant: events on their way upwards
use Rattle.std.specs.Prelude.{◌≡◌, ◌≢◌, ◌⊎◌, ℕ, zero, suc, ◌<◌, ◌≤◌, true, false, Bool, Option}
use Rattle.std.specs.Prelude.{Some, None, if◌then◌else◌}
use Rattle.event_queue.specs.declared.event.Event.{Event}
use Rattle.event_queue.specs.EventMap.{EventMap, Counts, event_at}
use Rattle.tm_base.specs.declared.names.Child.{Child}
use Rattle.tree_plan.specs.Shape.{Shape}
use Rattle.tm_base.specs.Children.{of_group}
use Rattle.tree_plan.specs.Paths.{parent_of, bit_of, group_at_of}
use Rattle.walk_rules.specs.declared.walk.Walk.{Walk}
use Rattle.walk_rules.specs.declared.walk.Stage.{Stage}
use Rattle.walk_rules.specs.declared.walk.Stage.TheVariants as stages
use Rattle.walk_rules.specs.Scene.{Scene, is_on}
use Rattle.walk_rules.specs.Standing.{is_leaving}
use Rattle.walk_rules.specs.Edges.{StandsBelow}

-- a stage from the exchange on, in which the walk has its group's event still to tell
abbrev pub is_past_swap : Stage → Bool
is_past_swap stages.Own = false
is_past_swap stages.Up = false
is_past_swap (stages.Mark more) = false
is_past_swap stages.Read = false
is_past_swap stages.Child = false
is_past_swap stages.Swap = false
is_past_swap stages.LockChild = true
is_past_swap stages.LockGroup = true
is_past_swap stages.SeeChild = true
is_past_swap stages.SeeGroup = true
is_past_swap (stages.Scan k) = true
is_past_swap stages.Store = true
is_past_swap (stages.First k) = true
is_past_swap stages.FreeGroup = true
is_past_swap stages.FreeChild = true
is_past_swap stages.Finish = true
is_past_swap stages.Handing = true

-- a stage in which the walk hasn't yet told its child's event
abbrev pub is_up_to_store : Stage → Bool
is_up_to_store stages.Own = false
is_up_to_store stages.Up = false
is_up_to_store (stages.Mark more) = false
is_up_to_store stages.Read = true
is_up_to_store stages.Child = true
is_up_to_store stages.Swap = true
is_up_to_store stages.LockChild = true
is_up_to_store stages.LockGroup = true
is_up_to_store stages.SeeChild = true
is_up_to_store stages.SeeGroup = true
is_up_to_store (stages.Scan k) = true
is_up_to_store stages.Store = true
is_up_to_store (stages.First k) = false
is_up_to_store stages.FreeGroup = false
is_up_to_store stages.FreeChild = false
is_up_to_store stages.Finish = false
is_up_to_store stages.Handing = false

-- the group of CPU c's path one level below
abbrev pub group_under : Shape → (c level : ℕ) → Option ℕ
group_under t c zero = None
group_under t c (suc l) = group_at_of t c l

-- the group whose event CPU c's walk is to tell one level higher, and the one whose event it is
-- telling
abbrev pub will_tell_by : Shape → (c : ℕ) → Option Walk → Option ℕ
will_tell_by t c None = None
will_tell_by t c (Some k) =
    if is_past_swap k.stage then (if k.over then None else group_at_of t c k.level) else None

-- the group whose first event a walk of CPU c still has to bring up to its parent
abbrev pub tells_by : Shape → (c : ℕ) → Option Walk → Option ℕ
tells_by t c None = None
tells_by t c (Some k) = if is_up_to_store k.stage then group_under t c k.level else None

-- a carrier stands at group x: a walk that will tell its event, or is about to
abbrev pub IsCarried : Shape → Scene → ℕ → Type 0
IsCarried t s x =
    (d : ℕ) × ((will_tell_by t d (s.walk d) ≡ Some x) ⊎ (tells_by t d (s.walk d) ≡ Some x))

-- the event of child m in its parent p is there, isn't ignored, and isn't later than this time
pub record IsTold (t : Shape) (s : Scene) (m : Child) (p time : ℕ) : Type 0 where
  pub event : Event
  pub there : event_at (s.group p).events (bit_of t m) ≡ Some event
  pub counts : Counts event
  pub in_time : event.expiry ≤ time

-- all that group x knows of was told to its parent p
abbrev pub HasTold : Shape → Scene → (x p : ℕ) → Type 0
HasTold t s x p =
    (k : ℕ) (e : Event) → event_at (s.group x).events k ≡ Some e → Counts e →
    IsTold t s (of_group x) p e.expiry

-- PART 5a: events upwards are no later than what they stand for
abbrev pub EventsTold : Shape → Scene → Type 0
EventsTold t s = (x p : ℕ) → parent_of t (of_group x) ≡ Some p → is_on s (of_group x) ≡ false →
    HasTold t s x p ⊎ (StandsBelow t s x ⊎ IsCarried t s x)

-- an event is there and isn't later than this time
abbrev pub NoLater : Option Event → ℕ → Type 0
NoLater None time = ⊥
NoLater (Some e) time = e.expiry ≤ time

-- the first event so far isn't later than those of these slots that count
abbrev pub FirstBelow : EventMap → (n : ℕ) → Option Event → Type 0
FirstBelow events n best =
    (k : ℕ) (e : Event) → k < n → event_at events k ≡ Some e → Counts e → NoLater best e.expiry

-- how many of the child's events a walk has read
abbrev pub read_of : Stage → Option ℕ
read_of (stages.Scan k) = Some k
read_of stages.Store = Some 8
read_of other = None

-- PART 5b: the first event so far
abbrev pub BestHolds : Shape → Scene → Type 0
BestHolds t s = (c x n : ℕ) (k : Walk) → s.walk c ≡ Some k → read_of k.stage ≡ Some n →
    group_under t c k.level ≡ Some x → FirstBelow (s.group x).events n k.best

-- a stage past SeeGroup in which the group's lock is held
abbrev pub is_past_sight : Stage → Bool
is_past_sight (stages.Scan k) = true
is_past_sight stages.Store = true
is_past_sight (stages.First k) = true
is_past_sight stages.FreeGroup = true
is_past_sight other = false

-- whether a walk at this stage is about to take a lock
abbrev pub is_locking : Stage → Bool
is_locking stages.LockChild = true
is_locking stages.LockGroup = true
is_locking other = false

-- CPU d's walk is on its way to take the lock of group x and tell its event
pub record IsOnItsWay (t : Shape) (s : Scene) (x d : ℕ) : Type 0 where
  pub made : Walk
  pub walk : s.walk d ≡ Some made
  pub leaves : is_leaving made.kind ≡ true
  pub locking : is_locking made.stage ≡ true
  pub here : group_at_of t d made.level ≡ Some x

-- PART 5c: a group that was found active under its lock, and isn't any more, has another walk on
-- the way
abbrev pub SightsHold : Shape → Scene → Type 0
SightsHold t s = (c x : ℕ) (k : Walk) → s.walk c ≡ Some k → is_past_sight k.stage ≡ true →
    k.on ≡ true →
    group_at_of t c k.level ≡ Some x → is_on s (of_group x) ≡ false →
    (d : ℕ) × ((d ≢ c) × IsOnItsWay t s x d)

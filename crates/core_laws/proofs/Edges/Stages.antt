-- which stages are those of an activation, and which is Swap
use Rattle.std.proofs.Common.{◌≡◌, ℕ, zero, suc, Bool, true, false, true≢false, cond, refl}
use Rattle.tree_plan.specs.Shape.{Shape}
use Rattle.walk_rules.specs.declared.walk.Walk.{Walk}
use Rattle.walk_rules.specs.declared.walk.WalkKind.{WalkKind}
use Rattle.walk_rules.specs.declared.walk.WalkKind.TheVariants as kinds
use Rattle.walk_rules.specs.declared.walk.Stage.{Stage}
use Rattle.walk_rules.specs.declared.walk.Stage.TheVariants as stages
use Rattle.walk_rules.specs.Stages.{after_sight, first_lock, first_sight, first_stage, free_group_next, freed_next}
use Rattle.walk_rules.specs.Standing.{FitsStage, Tells}
use Rattle.core_laws.proofs.Walks.Fits.{tells_leaving}

abbrev pub is_rising : Stage → Bool
is_rising stages.Own = true
is_rising stages.Up = true
is_rising (stages.Mark more) = true
is_rising stages.Read = false
is_rising stages.Child = false
is_rising stages.Swap = false
is_rising stages.LockChild = false
is_rising stages.LockGroup = false
is_rising stages.SeeChild = false
is_rising stages.SeeGroup = false
is_rising (stages.Scan j) = false
is_rising stages.Store = false
is_rising (stages.First j) = false
is_rising stages.FreeGroup = false
is_rising stages.FreeChild = false
is_rising stages.Finish = false
is_rising stages.Handing = false

pub not_activate : (kind : WalkKind) → kind ≡ kinds.Offline → kind ≡ kinds.Activate → ⊥
not_activate kind is e = cc

pub tells_at : (t : Shape) (c : ℕ) (kind : WalkKind) (level : ℕ) (st : Stage) → is_rising st ≡ false → FitsStage t c kind level st → Tells kind
tells_at t c kind level stages.Own r f = absurd (true≢false r)
tells_at t c kind level stages.Up r f = absurd (true≢false r)
tells_at t c kind level (stages.Mark more) r f = absurd (true≢false r)
tells_at t c kind level stages.Read r f = tells_leaving kind f
tells_at t c kind level stages.Child r f = tells_leaving kind f
tells_at t c kind level stages.Swap r f = tells_leaving kind f
tells_at t c kind level stages.LockChild r f = f.0
tells_at t c kind level stages.LockGroup r f = f
tells_at t c kind level stages.SeeChild r f = f.0
tells_at t c kind level stages.SeeGroup r f = f
tells_at t c kind level (stages.Scan j) r f = f.0
tells_at t c kind level stages.Store r f = f
tells_at t c kind level (stages.First j) r f = f.0
tells_at t c kind level stages.FreeGroup r f = f
tells_at t c kind level stages.FreeChild r f = f.0
tells_at t c kind level stages.Finish r f = f
tells_at t c kind level stages.Handing r f = not_activate kind f

abbrev pub is_finish : Stage → Bool
is_finish stages.Own = false
is_finish stages.Up = false
is_finish (stages.Mark more) = false
is_finish stages.Read = false
is_finish stages.Child = false
is_finish stages.Swap = false
is_finish stages.LockChild = false
is_finish stages.LockGroup = false
is_finish stages.SeeChild = false
is_finish stages.SeeGroup = false
is_finish (stages.Scan j) = false
is_finish stages.Store = false
is_finish (stages.First j) = false
is_finish stages.FreeGroup = false
is_finish stages.FreeChild = false
is_finish stages.Finish = true
is_finish stages.Handing = false

abbrev pub is_swap : Stage → Bool
is_swap stages.Own = false
is_swap stages.Up = false
is_swap (stages.Mark more) = false
is_swap stages.Read = false
is_swap stages.Child = false
is_swap stages.Swap = true
is_swap stages.LockChild = false
is_swap stages.LockGroup = false
is_swap stages.SeeChild = false
is_swap stages.SeeGroup = false
is_swap (stages.Scan j) = false
is_swap stages.Store = false
is_swap (stages.First j) = false
is_swap stages.FreeGroup = false
is_swap stages.FreeChild = false
is_swap stages.Finish = false
is_swap stages.Handing = false

pub cond_swap : (b : Bool) (x y : Stage) → is_swap x ≡ false → is_swap y ≡ false → is_swap (cond b x y) ≡ false
cond_swap true x y hx hy = hx
cond_swap false x y hx hy = hy

pub lock_swap : (l : ℕ) → is_swap (first_lock l) ≡ false
lock_swap zero = refl
lock_swap (suc l) = refl

pub sight_swap : (l : ℕ) → is_swap (first_sight l) ≡ false
sight_swap zero = refl
sight_swap (suc l) = refl

pub after_swap : (l : ℕ) → is_swap (after_sight l) ≡ false
after_swap zero = refl
after_swap (suc l) = refl

first_swap : (kind : WalkKind) → is_swap (first_stage kind) ≡ false
first_swap kinds.Activate = refl
first_swap kinds.Deactivate = refl
first_swap kinds.Offline = refl
first_swap kinds.Reeval = refl
first_swap (kinds.Remote by) = refl

pub freed_swap : (over : Bool) (k : Walk) → is_swap (freed_next over k).stage ≡ false
freed_swap true k = refl
freed_swap false k = first_swap k.kind

pub free_swap : (l : ℕ) (k : Walk) → is_swap (free_group_next l k).stage ≡ false
free_swap zero k = freed_swap k.over k
free_swap (suc l) k = refl

-- what a walk claims to clear, on either side of its exchange
use Rattle.std.proofs.Common.{◌≡◌, ◌⊎◌, inl, inr, ℕ, zero, suc, Bool, true, false, true≢false, cond, Option, Some, None, refl, sym}
use Rattle.std.specs.Prelude.{◌&&◌, ◌||◌, is_none, is_some, option_map, if◌then◌else◌}
use Rattle.std.proofs.lemmas.Bool.{cases_eq}
use Rattle.std.proofs.lemmas.Option.{none-some, same_Some}
use Rattle.group_word.specs.Group.{GroupLaw, IsActive}
use Rattle.tm_base.specs.declared.names.Child.{Child}
use Rattle.tree_plan.specs.Shape.{Shape}
use Rattle.tm_base.specs.Children.{of_group}
use Rattle.tree_plan.specs.Paths.{group_at_of}
use Rattle.walk_rules.specs.declared.walk.WalkKind.{WalkKind}
use Rattle.walk_rules.specs.declared.walk.WalkKind.TheVariants as kinds
use Rattle.walk_rules.specs.declared.walk.Stage.{Stage}
use Rattle.walk_rules.specs.Clearing.{side_of_exchange}
use Rattle.walk_rules.specs.Clearing.Side.{after, before}
use Rattle.walk_rules.specs.Hierarchy.{HasGroup, IsHierarchy}
use Rattle.walk_rules.specs.Stages.{after_sight, first_lock, first_sight, first_stage}
use Rattle.walk_rules.specs.Standing.{is_leaving}

-- sides of the exchange
pub cond_side : (q : Bool) (x y : Stage) → side_of_exchange x ≡ Some after → side_of_exchange y ≡ Some after → side_of_exchange (cond q x y) ≡ Some after
cond_side true x y hx hy = hx
cond_side false x y hx hy = hy

pub lock_side : (l : ℕ) → side_of_exchange (first_lock l) ≡ Some after
lock_side zero = refl
lock_side (suc l) = refl

pub sight_side : (l : ℕ) → side_of_exchange (first_sight l) ≡ Some after
sight_side zero = refl
sight_side (suc l) = refl

pub after_side : (l : ℕ) → side_of_exchange (after_sight l) ≡ Some after
after_side zero = refl
after_side (suc l) = refl

pub first_side : (kind : WalkKind) → is_leaving kind ≡ true → side_of_exchange (first_stage kind) ≡ Some before
first_side kinds.Activate l = absurd (true≢false (sym l))
first_side kinds.Deactivate l = refl
first_side kinds.Offline l = refl
first_side kinds.Reeval l = absurd (true≢false (sym l))
first_side (kinds.Remote by) l = absurd (true≢false (sym l))

-- what a claim says
pub if_some : (q : Bool) (x : Option Child) (m : Child) → (if q then x else None) ≡ Some m → (q ≡ true) × (x ≡ Some m)
if_some true x m e = (refl, e)
if_some false x m e = absurd (none-some m e)

pub else_some : (q : Bool) (x : Option Child) (m : Child) → (if q then None else x) ≡ Some m → (q ≡ false) × (x ≡ Some m)
else_some true x m e = absurd (none-some m e)
else_some false x m e = (refl, e)

pub if_true : (q : Bool) (x : Option Child) → q ≡ true → (if q then x else None) ≡ x
if_true true x e = refl
if_true false x e = absurd (true≢false (sym e))

pub else_false : (q : Bool) (x : Option Child) → q ≡ false → (if q then None else x) ≡ x
else_false true x e = absurd (true≢false e)
else_false false x e = refl

pub mapped : (m : Option ℕ) (z : Child) → option_map of_group m ≡ Some z → (g : ℕ) × (m ≡ Some g) × (z ≡ of_group g)
mapped None z e = absurd (none-some z e)
mapped (Some g) z e = (g, refl, sym (same_Some _ _ e))

pub bit_or : (n : ℕ) → (n ≡ 1) ⊎ (n ≡ 1 → ⊥)
bit_or n = elim (cases_eq n 1) [ inl e ↦ inl e | inr ne ↦ inr ne ]

pub law_on : (a : ℕ) (m : Option ℕ) (k : ℕ) → GroupLaw a m → IsActive a k → is_some m ≡ true
law_on a None k law h = absurd (law k h)
law_on a (Some m) k law h = refl

-- a CPU whose path has a group at some level has a leaf
pub has_leaf : (t : Shape) → IsHierarchy t → (c l g : ℕ) → group_at_of t c l ≡ Some g → HasGroup t c
has_leaf t h c zero g e = (g, e)
has_leaf t h c (suc l) g e = let p = h.lower c l g e in has_leaf t h c l p.0 p.1

pub is_none_of : (m : Option ℕ) → is_none m ≡ true → m ≡ None
is_none_of None e = refl
is_none_of (Some g) e = absurd (true≢false (sym e))

either : (q : Bool) → (q ≡ true) ⊎ (q ≡ false)
either true = inl refl
either false = inr refl

pub or_true : (p q : Bool) → (p || q) ≡ true → (p ≡ true) ⊎ (q ≡ true)
or_true true q e = inl refl
or_true false q e = inr e

pub and_true : (p q : Bool) → (p && q) ≡ true → p ≡ true
and_true true q e = refl
and_true false q e = absurd (true≢false (sym e))

-- climbing a path from its leaf
use Rattle.std.proofs.Common.{◌≡◌, ℕ, zero, suc, ◌+◌, ◌≤◌, ⊎_elim, true, false, refl, sym, ◌∙◌, ap, arith, add-one}
use Rattle.std.specs.Prelude.{◌↔◌, Option, Some, None, IsNone, option_map, option_and_then}
use Rattle.std.specs.Bool.{OnTrue, OnFalse}
use Rattle.std.proofs.lemmas.Bool.{OnTrue_from, OnFalse_from, cases_lt, true≢false}
use Rattle.std.proofs.lemmas.Option.{none-some}
use Rattle.tm_base.specs.declared.names.GroupId.{GroupId}
use Rattle.tm_base.specs.Children.{of_group}
use Rattle.tree_plan.specs.Shape.{Shape, IsPlanned}
use Rattle.tree_plan.specs.Paths.{is_placed_in, level_count_of, parent_of, group_at_of}
use Rattle.tree_plan.specs.Laws.{PathLaws}
use Rattle.tree_plan.proofs.Below.{paths}

pub planned_paths : (t : Shape) → IsPlanned t → PathLaws t
planned_paths t planned = paths t planned

-- the parent is the group one level higher
pub climbed : (t : Shape) (c l g : ℕ) (o : Option ℕ) → group_at_of t c l ≡ Some g → o ≡ parent_of t (of_group g) →
    group_at_of t c (l + 1) ≡ o
unfolding group_at_of
climbed t c l g o here up = ap (group_at_of t c) (add-one l) ∙ (ap (option_and_then (λ h. parent_of t (of_group h))) here ∙ sym up)

-- a path that has ended doesn't go on
pub ended : (t : Shape) (c l n : ℕ) → group_at_of t c l ≡ None → l ≤ n → group_at_of t c n ≡ None
unfolding group_at_of
ended t c l zero none up = let low : 0 ≡ l = omega arith in ap (group_at_of t c) low ∙ none
ended t c l (suc n) none up =
    ⊎_elim (λ later. let here : suc n ≡ l = omega arith in ap (group_at_of t c) here ∙ none)
    (λ before. ap (option_and_then (λ g. parent_of t (of_group g))) (ended t c l n none before))
    (cases_lt n l)

-- of a placed CPU None exactly where there is no such level
placed_none : (t : Shape) → IsPlanned t → (c l : ℕ) → (r : Option GroupId) →
    option_map (λ (g : GroupId). g.0) r ≡ group_at_of t c l → is_placed_in t c ≡ true →
    IsNone r ↔ (level_count_of t ≤ l)
placed_none t planned c l None e placed = (
  λ _. ⊎_elim (λ low.
      let group = (planned_paths t planned).there c l placed low in
      absurd (none-some group.0 (e ∙ group.1))) (λ high. high) (cases_lt l (level_count_of t)),
  λ _. refl,
)
placed_none t planned c l (Some g) e placed =
    (λ some. absurd (true≢false some), λ high. absurd (none-some (g.0) (sym (e ∙ (planned_paths t planned).beyond c l high))))

pub none_where : (t : Shape) → IsPlanned t → (c l : ℕ) → (r : Option GroupId) →
    option_map (λ (g : GroupId). g.0) r ≡ group_at_of t c l →
    OnTrue (is_placed_in t c) (IsNone r ↔ (level_count_of t ≤ l))
none_where t planned c l r e = OnTrue_from (is_placed_in t c) _ (placed_none t planned c l r e)

-- of an isolated one always
isolated_none : (t : Shape) → IsPlanned t → (c l : ℕ) → (r : Option GroupId) →
    option_map (λ (g : GroupId). g.0) r ≡ group_at_of t c l → is_placed_in t c ≡ false → IsNone r
isolated_none t planned c l None e isolated = refl
isolated_none t planned c l (Some g) e isolated =
    absurd (none-some (g.0) (sym (e ∙ (planned_paths t planned).isolated c l isolated)))

pub none_isolated : (t : Shape) → IsPlanned t → (c l : ℕ) → (r : Option GroupId) →
    option_map (λ (g : GroupId). g.0) r ≡ group_at_of t c l → OnFalse (is_placed_in t c) (IsNone r)
none_isolated t planned c l r e = OnFalse_from (is_placed_in t c) (IsNone r) (isolated_none t planned c l r e)

-- for crates above: items of distinct ids below a number are no more than the number
use Rattle.std.proofs.Common.{◌≡◌, ℕ, zero, suc, ◌<◌, ◌≤◌, List, [], ◌∷◌, None, length, subst}
use Rattle.std.proofs.Common.{inl, inr, arith}
use Rattle.std.specs.Prelude.{◌==◌}
use Rattle.std.specs.List.{All}
use Rattle.std.proofs.lemmas.Bool.{cases_Bool, eqb-true, eqb-false}
use Rattle.std.proofs.lemmas.List.Elements.{All-nil, All-cons, All-head, All-tail}
use Rattle.wheel_core.specs.declared.item.Item.{Item}
use Rattle.wheel_core.specs.PlainBase.{HasDistinctIds, item_of, without}
use Rattle.wheel_core.proofs.Ids.{distinct_without, fewer_without, item_of_first, item_of_rest}

-- where the greatest number isn't an id, all ids are below it
below_none : (n : ℕ) (items : List Item) → item_of n items ≡ None
    → All (λ item. item.id < suc n) items → All (λ item. item.id < n) items
below_none n [] none low = All-nil (λ item. item.id < n)
below_none n (first ∷ items) none low =
    let apart = eqb-false first.id n (item_of_first n first items none) in
    let here = All-head (λ item. item.id < suc n) first items low in
    let rest = All-tail (λ item. item.id < suc n) first items low in
    All-cons (λ item. item.id < n) first items (omega arith)
    (below_none n items (item_of_rest n first items none) rest)

below_without : (n : ℕ) (items : List Item) → HasDistinctIds items
    → All (λ item. item.id < suc n) items → All (λ item. item.id < n) (without n items)
below_without n [] distinct low = All-nil (λ item. item.id < n)
below_without n (first ∷ items) distinct low =
    let here = All-head (λ item. item.id < suc n) first items low in
    let rest = All-tail (λ item. item.id < suc n) first items low in
    elim (cases_Bool (first.id == n)) [
      | inl is ↦
          let none = subst (λ i. item_of i items ≡ None) (eqb-true first.id n is) distinct.0 in
          rw is (below_none n items none rest)
      | inr other ↦
          let apart = eqb-false first.id n other in
          rw other
          (All-cons (λ item. item.id < n) first (without n items) (omega arith)
          (below_without n items distinct.1 rest))
    ]

-- the pigeonhole
pub no_more : (n : ℕ) (items : List Item) → HasDistinctIds items
    → All (λ item. item.id < n) items → length items ≤ n
no_more zero [] distinct low = omega arith
no_more zero (first ∷ items) distinct low =
    let here = All-head (λ item. item.id < 0) first items low in absurd (omega arith)
no_more (suc n) items distinct low =
    let rest =
    no_more n (without n items) (distinct_without n items distinct)
    (below_without n items distinct low) in
    let fewer = fewer_without n items in
    omega (arith, rest, fewer)

-- where one of the numbers isn't queued, there are fewer
pub room_left : (n id : ℕ) (items : List Item) → HasDistinctIds items
    → All (λ item. item.id < n) items → id < n → item_of id items ≡ None → length items < n
room_left n id items distinct low within none =
    let new : Item = record { id = id; expires = 0; wheel = 0; level = 0; job = 0; arg = 0 } in
    let all = All-cons (λ item. item.id < n) new items within low in
    let few = no_more n (new ∷ items) (none, distinct) all in
    omega (arith, few)

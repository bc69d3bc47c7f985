-- for crates above: the least wheel expiry of a list of items, as the list changes
use Rattle.std.proofs.Common.{◌≡◌, ℕ, zero, suc, ◌<◌, ◌≤◌, min, List, [], ◌∷◌, ◌++◌, Option, Some}
use Rattle.std.proofs.Common.{None, length, get_or, take, ◌+◌, refl, ap, ◌∙◌, sym, inl, inr, arith}
use Rattle.std.specs.Prelude.{◌==◌, IfSome}
use Rattle.std.specs.List.{remove, All, filter}
use Rattle.std.proofs.lemmas.List.{take_more}
use Rattle.std.proofs.lemmas.List.Elements.{All-nil, All-cons, All-same, All-weaker}
use Rattle.std.proofs.lemmas.Bool.{cases_Bool, cond-true, cond-false, eqb-false}
use Rattle.std.proofs.lemmas.Option.{none-some, same_Some}
use Rattle.wheel_core.specs.declared.item.Item.{Item}
use Rattle.wheel_core.specs.PlainBase.{NoneSooner, least, sooner}

pub sooner_swap : (a b : ℕ) (other : Option ℕ)
    → sooner a (Some (sooner b other)) ≡ sooner b (Some (sooner a other))
sooner_swap a b None = omega arith
sooner_swap a b (Some c) = omega arith

pub least_push : (items : List Item) (item : Item)
    → least (items ++ item ∷ []) ≡ Some (sooner item.wheel (least items))
least_push [] item = refl
least_push (first ∷ items) item =
    rw (least_push items item) (ap Some (sooner_swap first.wheel item.wheel (least items)))

-- one item further along a list
pub least_more : (items : List Item) (place : ℕ) (d : Item) (first : Option ℕ) (next : ℕ)
    → place < length items → first ≡ least (take place items)
    → next ≡ sooner (get_or items place d).wheel first → Some next ≡ least (take (place + 1) items)
least_more items place d first next within so_far is =
    ap Some is ∙ (ap (λ known. Some (sooner (get_or items place d).wheel known)) so_far
    ∙ (sym (least_push (take place items) (get_or items place d)) ∙ sym (ap least (take_more items place d within))))

-- taking an item out of its place
pub least_remove : (items : List Item) (place : ℕ) (d : Item) → place < length items
    → least items ≡ Some (sooner (get_or items place d).wheel (least (remove items place)))
least_remove [] place d within = absurd (omega arith)
least_remove (first ∷ items) zero d within = refl
least_remove (first ∷ items) (suc place) d within =
    let rest = least_remove items place d (omega arith) in
    rw rest (ap Some (sooner_swap first.wheel (get_or items place d).wheel (least (remove items place))))

-- no item has a lesser expiry
below_first : (first : Item) (items : List Item) (wheel : ℕ) (rest : Option ℕ)
    → Some (sooner first.wheel rest) ≡ Some wheel
    → ((other : ℕ) → rest ≡ Some other → All (λ item. other ≤ item.wheel) items)
    → (rest ≡ None → items ≡ [])
    → All (λ item. wheel ≤ item.wheel) (first ∷ items)
below_first first items wheel None is some none =
    All-cons (λ item. wheel ≤ item.wheel) first items (omega (arith, same_Some _ _ is))
    (All-same (λ item. wheel ≤ item.wheel) items [] (none refl) (All-nil (λ item. wheel ≤ item.wheel)))
below_first first items wheel (Some other) is some none =
    let least_is = same_Some (min first.wheel other) wheel is in
    All-cons (λ item. wheel ≤ item.wheel) first items (omega arith)
    (All-weaker (λ item. other ≤ item.wheel) (λ item. wheel ≤ item.wheel) (λ item h. omega arith) items (some other refl))

pub least_none : (items : List Item) → least items ≡ None → items ≡ []
least_none [] is = refl
least_none (first ∷ items) is = cc

pub least_below : (items : List Item) (wheel : ℕ) → least items ≡ Some wheel
    → All (λ item. wheel ≤ item.wheel) items
least_below [] wheel is = All-nil (λ item. wheel ≤ item.wheel)
least_below (first ∷ items) wheel is =
    below_first first items wheel (least items) is (λ other h. least_below items other h) (least_none items)

pub least_bounds : (items : List Item) (first : Option ℕ) → first ≡ least items
    → IfSome first (λ wheel. NoneSooner wheel items)
least_bounds items None is = tt
least_bounds items (Some wheel) is = least_below items wheel (sym is)

-- where it isn't the first item's, it is that of the others
pub least_later : (first : Item) (items : List Item) (wheel : ℕ) (rest : Option ℕ)
    → Some (sooner first.wheel rest) ≡ Some wheel
    → (first.wheel ≡ wheel → ⊥) → rest ≡ Some wheel
least_later first items wheel None is other = absurd (other (same_Some first.wheel wheel is))
least_later first items wheel (Some next) is other =
    let least_is = same_Some (min first.wheel next) wheel is in
    let same : next ≡ wheel = omega arith in ap Some same

-- some item has it
pub least_attained : (items : List Item) (wheel : ℕ) → least items ≡ Some wheel
    → (filter (λ item. item.wheel == wheel) items ≡ [] → ⊥)
least_attained [] wheel is none = absurd (none-some wheel is)
least_attained (first ∷ items) wheel is none =
    elim (cases_Bool (first.wheel == wheel)) [
      | inl here ↦ let kept = cond-true (first.wheel == wheel) (first ∷ filter (λ item. item.wheel == wheel) items) (filter (λ item. item.wheel == wheel) items) here in cc
      | inr other ↦
          let later = cond-false (first.wheel == wheel) (first ∷ filter (λ item. item.wheel == wheel) items) (filter (λ item. item.wheel == wheel) items) other in
          least_attained items wheel (least_later first items wheel (least items) is (eqb-false _ _ other)) (sym later ∙ none)
    ]

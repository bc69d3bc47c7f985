-- for crates above: ids, as one is looked up, comes and goes
use Rattle.std.proofs.Common.{◌≡◌, ℕ, zero, suc, ◌+◌, ◌<◌, ◌≤◌, Bool, true, false, cond, List, []}
use Rattle.std.proofs.Common.{◌∷◌, ◌++◌, Option, Some, None, length, get_or, refl, ap, ◌∙◌, sym}
use Rattle.std.proofs.Common.{subst, inl, inr, ltb, arith}
use Rattle.std.specs.Prelude.{◌==◌, MatchOption}
use Rattle.std.specs.List.{remove, position, position_or_len, slice_get, All, Contains}
use Rattle.std.proofs.lemmas.List.Quantifiers.{position-Some}
use Rattle.std.proofs.lemmas.List.Folds.{find_at}
use Rattle.std.proofs.lemmas.Bool.{cases_Bool, cond-true, cond-false, ltb-false, eq-eqb, ne_eqb}
use Rattle.std.proofs.lemmas.Bool.{eqb-true, eqb-false}
use Rattle.std.proofs.lemmas.Option.{none-some, same_Some, slice_get_past, slice_get-get_or}
use Rattle.std.proofs.lemmas.Option.{slice_get_read}
use Rattle.std.proofs.lemmas.List.Elements.{All-cons, All-head, All-tail, All-push}
use Rattle.wheel_core.specs.declared.item.Item.{Item}
use Rattle.wheel_core.specs.PlainBase.{item_of, without, HasDistinctIds, FitsWheel, IsSound}
use Rattle.wheel_core.specs.Scan.{IsPlaceOf}

-- an item to read where there is none
abbrev no_item : Item
no_item = record { id = 0; expires = 0; wheel = 0; level = 0; job = 0; arg = 0 }

-- an id that no item has
pub item_of_first : (id : ℕ) (first : Item) (items : List Item) → item_of id (first ∷ items) ≡ None
    → (first.id == id) ≡ false
item_of_first id first items none =
    elim (cases_Bool (first.id == id)) [
      | inl here ↦ absurd (none-some first (sym none ∙ cond-true (first.id == id) (Some first) (item_of id items) here))
      | inr other ↦ other
    ]

pub item_of_rest : (id : ℕ) (first : Item) (items : List Item) → item_of id (first ∷ items) ≡ None
    → item_of id items ≡ None
item_of_rest id first items none =
    sym (cond-false (first.id == id) (Some first) (item_of id items) (item_of_first id first items none)) ∙ none

-- what an id's place says of the list
pub record AtPlace (id : ℕ) (items : List Item) (place : ℕ) (d : Item) : Type 0 where
  pub within : place < length items
  pub item : item_of id items ≡ Some (get_or items place d)
  pub rest : remove items place ≡ without id items

-- the first item of an id
first_place : (id : ℕ) (items : List Item) (place : ℕ) (d : Item) → place < length items
    → ((get_or items place d).id == id) ≡ true
    → ((k : ℕ) → k < place → ((get_or items k d).id == id) ≡ false)
    → AtPlace id items place d
first_place id [] place d within here before = absurd (omega arith)
first_place id (first ∷ items) zero d within here before =
    record { within = within; item = rw here refl; rest = rw here refl }
first_place id (first ∷ items) (suc place) d within here before =
    let other = before 0 (omega arith) in
    let later = first_place id items place d (omega arith) here (λ k l. before (suc k) (omega arith)) in
    record { within = within; item = rw other later.item; rest = rw other (ap (λ rest. first ∷ rest) later.rest) }

pub at_position : (id : ℕ) (items : List Item) (place : ℕ) (d : Item)
    → position (λ item. item.id == id) items ≡ Some place → AtPlace id items place d
at_position id items place d is =
    let found = position-Some (λ item. item.id == id) items place d is in
    first_place id items place d found.0 found.1 found.2

pub no_position : (id : ℕ) (items : List Item) → position (λ item. item.id == id) items ≡ None
    → item_of id items ≡ None
no_position id items is =
    let p : Item → Bool = λ item. item.id == id in
    let past : length items ≤ position_or_len p items = elim (cases_Bool (ltb (position_or_len p items) (length items))) [
      | inl h ↦ absurd (none-some (position_or_len p items) (sym is ∙ cond-true _ _ _ h))
      | inr h ↦ ltb-false _ _ h
    ] in
    find_at p items ∙ slice_get_past items (position_or_len p items) past

-- an id that isn't there leaves the list as it is
pub without_none : (id : ℕ) (items : List Item) → item_of id items ≡ None → without id items ≡ items
without_none id [] is = refl
without_none id (first ∷ items) is =
    cond-false (first.id == id) items (first ∷ without id items) (item_of_first id first items is)
    ∙ ap (λ rest. first ∷ rest) (without_none id items (item_of_rest id first items is))

-- what `position` finds is the item's place
pub is_place : (id : ℕ) (items : List Item) (found : Option ℕ)
    → found ≡ position (λ item. item.id == id) items
    → MatchOption found (item_of id items ≡ None) (IsPlaceOf id items)
is_place id items None is = no_position id items (sym is)
is_place id items (Some place) is =
    let at = at_position id items place in
    let within = (position-Some (λ item. item.id == id) items place no_item (sym is)).0 in
    let found = at no_item (sym is) in
    record { within = within; item = slice_get-get_or items place no_item within ∙ sym found.item; rest = found.rest }

-- an item that is read at a place is the one that stands there
pub read_at : (items : List Item) (place : ℕ) (item : Item) (there : Option Item)
    → place < length items
    → item ≡ get_or items place item → slice_get items place ≡ there → Some item ≡ there
read_at items place item there within is stands = sym (slice_get_read items (length items) place item refl within is) ∙ stands

-- an id that isn't looked up isn't at any place
other_id : (id : ℕ) (items : List Item) (place : ℕ) (item : Item) → item_of id items ≡ None
    → slice_get items place ≡ Some item
    → (id ≡ item.id → ⊥)
other_id id [] place item none at same = absurd (none-some item at)
other_id id (first ∷ items) zero item none at same =
    let is = same_Some first item at in
    let here = eq-eqb first.id id (ap (λ i. i.id) is ∙ sym same) in
    none-some first (sym none ∙ cond-true (first.id == id) (Some first) (item_of id items) here)
other_id id (first ∷ items) (suc place) item none at same = other_id id items place item (item_of_rest id first items none) at same

-- the one item of an id stands at its place
pub one_place : (items : List Item) (place : ℕ) (item : Item) → HasDistinctIds items
    → slice_get items place ≡ Some item
    → remove items place ≡ without item.id items
one_place [] place item distinct at = absurd (none-some item at)
one_place (first ∷ items) zero item distinct at =
    let is = same_Some first item at in
    let here = eq-eqb first.id item.id (ap (λ i. i.id) is) in
    sym (cond-true (first.id == item.id) items (first ∷ without item.id items) here)
one_place (first ∷ items) (suc place) item distinct at =
    let apart = ne_eqb first.id item.id (other_id first.id items place item distinct.0 at) in
    ap (λ rest. first ∷ rest) (one_place items place item distinct.1 at)
    ∙ sym (cond-false (first.id == item.id) items (first ∷ without item.id items) apart)

-- an item that is queued is that of its id
pub item_there : (items : List Item) (place : ℕ) (item : Item) → HasDistinctIds items
    → slice_get items place ≡ Some item
    → item_of item.id items ≡ Some item
item_there [] place item distinct at = absurd (none-some item at)
item_there (first ∷ items) zero item distinct at =
    let is = same_Some first item at in
    cond-true (first.id == item.id) (Some first) (item_of item.id items) (eq-eqb first.id item.id (ap (λ i. i.id) is)) ∙ at
item_there (first ∷ items) (suc place) item distinct at =
    cond-false (first.id == item.id) (Some first) (item_of item.id items) (ne_eqb first.id item.id (other_id first.id items place item distinct.0 at))
    ∙ item_there items place item distinct.1 at

pub item_queued : (items : List Item) (item : Item) → HasDistinctIds items → Contains items item
    → item_of item.id items ≡ Some item
item_queued items item distinct (place, within, is) =
    item_there items place item distinct (slice_get-get_or items place item within ∙ ap Some is)

-- no id comes twice, as an item comes or goes
pub still_none : (id other : ℕ) (items : List Item) → item_of id items ≡ None
    → item_of id (without other items) ≡ None
still_none id other [] none = refl
still_none id other (first ∷ items) none =
    elim (cases_Bool (first.id == other)) [
      | inl here ↦ rw here (item_of_rest id first items none)
      | inr there ↦ rw there (cond-false (first.id == id) (Some first) (item_of id (without other items)) (item_of_first id first items none) ∙ still_none id other items (item_of_rest id first items none))
    ]

pub distinct_without : (id : ℕ) (items : List Item) → HasDistinctIds items
    → HasDistinctIds (without id items)
distinct_without id [] distinct = tt
distinct_without id (first ∷ items) distinct =
    elim (cases_Bool (first.id == id)) [
      | inl here ↦ rw here distinct.1
      | inr there ↦ rw there (still_none first.id id items distinct.0, distinct_without id items distinct.1)
    ]

pub none_push : (id : ℕ) (items : List Item) (item : Item) → item_of id items ≡ None
    → (item.id ≡ id → ⊥) → item_of id (items ++ item ∷ []) ≡ None
none_push id [] item none apart = cond-false (item.id == id) (Some item) None (ne_eqb item.id id apart)
none_push id (first ∷ items) item none apart =
    cond-false (first.id == id) (Some first) (item_of id (items ++ item ∷ [])) (item_of_first id first items none)
    ∙ none_push id items item (item_of_rest id first items none) apart

pub distinct_push : (items : List Item) (item : Item) → HasDistinctIds items
    → item_of item.id items ≡ None → HasDistinctIds (items ++ item ∷ [])
distinct_push [] item distinct none = (refl, tt)
distinct_push (first ∷ items) item distinct none =
    let apart = eqb-false first.id item.id (item_of_first item.id first items none) in (
      none_push first.id items item distinct.0 (λ same. apart (sym same)),
      distinct_push items item distinct.1 (item_of_rest item.id first items none),
    )

pub all_without : (P : Item → Type 0) (id : ℕ) (items : List Item) → All P items
    → All P (without id items)
all_without P id [] all = all
all_without P id (first ∷ items) all =
    elim (cases_Bool (first.id == id)) [
      | inl here ↦ rw here (All-tail P first items all)
      | inr there ↦ rw there (All-cons P first (without id items) (All-head P first items all) (all_without P id items (All-tail P first items all)))
    ]

-- an id that was taken out isn't there
pub gone_without : (id : ℕ) (items : List Item) → HasDistinctIds items
    → item_of id (without id items) ≡ None
gone_without id [] distinct = refl
gone_without id (first ∷ items) distinct =
    elim (cases_Bool (first.id == id)) [
      | inl here ↦ rw here (subst (λ i. item_of i items ≡ None) (eqb-true _ _ here) distinct.0)
      | inr there ↦ rw there (rw there (gone_without id items distinct.1))
    ]

-- taking an id out takes one item, where it is queued
pub length-without : (id : ℕ) (items : List Item) (item : Item) → item_of id items ≡ Some item
    → length (without id items) + 1 ≡ length items
length-without id [] item is = absurd (none-some item is)
length-without id (first ∷ items) item is =
    elim (cases_Bool (first.id == id)) [
      | inl here ↦ rw here (omega arith)
      | inr there ↦
          rw there (let rest = length-without id items item (rw there at is) in omega (arith, rest))
    ]

pub fewer_without : (id : ℕ) (items : List Item) → length items ≤ length (without id items) + 1
fewer_without id [] = omega arith
fewer_without id (first ∷ items) =
    elim (cases_Bool (first.id == id)) [
      | inl here ↦ rw here (omega arith)
      | inr there ↦ rw there (omega (arith, fewer_without id items))
    ]

-- another id stays
pub item_of-without : (id other : ℕ) (items : List Item) → (id ≡ other → ⊥)
    → item_of id (without other items) ≡ item_of id items
item_of-without id other [] apart = refl
item_of-without id other (first ∷ items) apart =
    elim (cases_Bool (first.id == other)) [
      | inl here ↦
          let away = ne_eqb first.id id (λ same. apart (sym same ∙ eqb-true _ _ here)) in
          rw here (sym (cond-false (first.id == id) (Some first) (item_of id items) away))
      | inr there ↦
          rw there (ap (λ rest. cond (first.id == id) (Some first) rest) (item_of-without id other items apart))
    ]

pub item_of-push : (id : ℕ) (items : List Item) (item : Item) → (id ≡ item.id → ⊥)
    → item_of id (items ++ item ∷ []) ≡ item_of id items
item_of-push id [] item apart =
    cond-false (item.id == id) (Some item) None (ne_eqb item.id id (λ same. apart (sym same)))
item_of-push id (first ∷ items) item apart =
    ap (λ rest. cond (first.id == id) (Some first) rest) (item_of-push id items item apart)

-- an item that came is that of its id
pub item_of-pushed : (items : List Item) (item : Item) → item_of item.id items ≡ None
    → item_of item.id (items ++ item ∷ []) ≡ Some item
item_of-pushed [] item none =
    cond-true (item.id == item.id) (Some item) None (eq-eqb item.id item.id refl)
item_of-pushed (first ∷ items) item none =
    cond-false (first.id == item.id) (Some first) (item_of item.id (items ++ item ∷ []))
    (item_of_first item.id first items none)
    ∙ item_of-pushed items item (item_of_rest item.id first items none)

-- what holds of all items holds of that of an id
pub item_holds : (P : Item → Type 0) (id : ℕ) (items : List Item) (item : Item) → All P items
    → item_of id items ≡ Some item → P item
item_holds P id [] item all is = absurd (none-some item is)
item_holds P id (first ∷ items) item all is =
    elim (cases_Bool (first.id == id)) [
      | inl here ↦
          subst P (same_Some first item (rw here at is)) (All-head P first items all)
      | inr there ↦ item_holds P id items item (All-tail P first items all) (rw there at is)
    ]

pub sound_without : (id : ℕ) (items : List Item) → IsSound items → IsSound (without id items)
sound_without id items sound =
    record { distinct = distinct_without id items sound.distinct; in_wheel = all_without FitsWheel id items sound.in_wheel }

pub sound_push : (items : List Item) (item : Item) → IsSound items → item_of item.id items ≡ None
    → FitsWheel item → IsSound (items ++ item ∷ [])
sound_push items item sound none placed =
    record { distinct = distinct_push items item sound.distinct none; in_wheel = All-push FitsWheel items item sound.in_wheel placed }

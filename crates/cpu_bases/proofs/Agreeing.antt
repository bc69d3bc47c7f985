-- for crates above: items and armings that say the same, in order
use Rattle.std.proofs.Common.{◌≡◌, ℕ, ◌<◌, List, [], ◌∷◌, ◌++◌, Option, Some, None, refl, ap, subst}
use Rattle.std.proofs.Common.{sym, ◌∙◌, inl, inr}
use Rattle.std.specs.Prelude.{◌==◌, map, option_map}
use Rattle.std.specs.List.{All}
use Rattle.std.proofs.lemmas.Bool.{cases_Bool}
use Rattle.std.proofs.lemmas.List.Elements.{All-map, All-nil, All-cons, All-head, All-tail}
use Rattle.std.proofs.lemmas.List.{map-append}
use Rattle.std.proofs.lemmas.Option.{none-some, same_Some}
use Rattle.wheel_core.specs.declared.item.Item.{Item}
use Rattle.wheel_core.specs.PlainBase.{item_of, without}
use Rattle.cpu_bases.specs.declared.entry.Entry.{Entry}
use Rattle.cpu_bases.specs.Journals.{arming_of, ended, told_by_entry, told_by_item}
use Rattle.cpu_bases.proofs.Keyed.{at_key, drop_key}
use Rattle.cpu_bases.proofs.Legal.{ended_is}

-- what is looked up, and what is left, in a list that is mapped
at_key_map : {X Y : Type 0} (f : X → Y) (key : Y → ℕ) (k : ℕ) (xs : List X)
    → at_key key k (map f xs) ≡ option_map f (at_key (λ x. key (f x)) k xs)
at_key_map f key k [] = refl
at_key_map f key k (x ∷ xs) =
    elim (cases_Bool (key (f x) == k)) [
      | inl here ↦ rw here refl
      | inr there ↦ rw there (at_key_map f key k xs)
    ]

drop_key_map : {X Y : Type 0} (f : X → Y) (key : Y → ℕ) (k : ℕ) (xs : List X)
    → map f (drop_key (λ x. key (f x)) k xs) ≡ drop_key key k (map f xs)
drop_key_map f key k [] = refl
drop_key_map f key k (x ∷ xs) =
    elim (cases_Bool (key (f x) == k)) [
      | inl here ↦ rw here refl
      | inr there ↦ rw there (ap (λ ys. f x ∷ ys) (drop_key_map f key k xs))
    ]

pub all_of_map : {X Y : Type 0} (f : X → Y) (P : Y → Type 0) (xs : List X) → All P (map f xs)
    → All (λ x. P (f x)) xs
all_of_map f P [] all = All-nil (λ x. P (f x))
all_of_map f P (x ∷ xs) all =
    All-cons (λ x. P (f x)) x xs (All-head P (f x) (map f xs) all)
    (all_of_map f P xs (All-tail P (f x) (map f xs) all))

without_is : (id : ℕ) (items : List Item) → without id items ≡ drop_key (λ item. item.id) id items
without_is id [] = refl
without_is id (first ∷ items) = rw (without_is id items) refl

mapped_none : {X Y : Type 0} (f : X → Y) (o : Option X) → option_map f o ≡ None → o ≡ None
mapped_none f None is = refl
mapped_none f (Some x) is = absurd (none-some (f x) (sym is))

mapped_some : {X Y : Type 0} (f : X → Y) (o : Option X) (y : Y) → option_map f o ≡ Some y
    → (x : X) × (o ≡ Some x) × (f x ≡ y)
mapped_some f None y is = absurd (none-some y is)
mapped_some f (Some x) y is = (x, refl, same_Some (f x) y is)

module _ (items : List Item) (entries : List Entry) (same : map told_by_item items
    ≡ map told_by_entry entries) where
  looked_up : (id : ℕ) → option_map told_by_entry (arming_of id entries)
      ≡ option_map told_by_item (item_of id items)
  looked_up id =
      sym (at_key_map told_by_entry (λ told. told.timer) id entries)
      ∙ (ap (λ told. at_key (λ told. told.timer) id told) (sym same)
      ∙ at_key_map told_by_item (λ told. told.timer) id items)

  pub agreed_none : (id : ℕ) → item_of id items ≡ None → arming_of id entries ≡ None
  agreed_none id none = mapped_none told_by_entry (arming_of id entries)
      (looked_up id ∙ ap (option_map told_by_item) none)

  pub agreed_found : (id : ℕ) (item : Item) → item_of id items ≡ Some item
      → (arming : Entry) × (arming_of id entries ≡ Some arming) × (told_by_entry arming
      ≡ told_by_item item)
  agreed_found id item found =
      mapped_some told_by_entry (arming_of id entries) (told_by_item item)
      (looked_up id ∙ ap (option_map told_by_item) found)

  pub agreed_armed : (id : ℕ) (arming : Entry) → arming_of id entries ≡ Some arming
      → (item : Item) × (item_of id items ≡ Some item)
      × (told_by_item item ≡ told_by_entry arming)
  agreed_armed id arming found =
      mapped_some told_by_item (item_of id items) (told_by_entry arming)
      (sym (looked_up id) ∙ ap (option_map told_by_entry) found)

  pub agreed_push : (item : Item) (entry : Entry) → told_by_item item ≡ told_by_entry entry
      → map told_by_item (items ++ item ∷ []) ≡ map told_by_entry (entries ++ entry ∷ [])
  agreed_push item entry told =
      map-append told_by_item items (item ∷ [])
      ∙ ((λ i. same i ++ told i ∷ []) ∙ sym (map-append told_by_entry entries (entry ∷ [])))

  pub agreed_gone : (id : ℕ) → map told_by_item (without id items)
      ≡ map told_by_entry (ended id entries)
  agreed_gone id =
      rw (without_is id items, ended_is id entries)
      (drop_key_map told_by_item (λ told. told.timer) id items
      ∙ (ap (λ told. drop_key (λ told. told.timer) id told) same
      ∙ sym (drop_key_map told_by_entry (λ told. told.timer) id entries)))

  pub agreed_later : (now : ℕ) → All (λ item. now < item.wheel) items
      → All (λ entry. now < entry.wheel) entries
  agreed_later now later =
      all_of_map told_by_entry (λ told. now < told.wheel) entries
      (subst (All (λ told. now < told.wheel)) same (All-map (λ told. now < told.wheel) told_by_item
      items later))

-- looking for an id by the list of its low bits
use Rattle.std.proofs.Common.{◌≡◌, ℕ, ◌+◌, ◌-◌, ◌<◌, ◌≤◌, Bool, List, [], ◌∷◌, ◌++◌, length, Option, Some, None, refl, ap, ◌∙◌, sym, subst, inl, inr, arith}
use Rattle.std.specs.Prelude.{◌==◌, unwrap_or}
use Rattle.std.specs.Prelude.{bit_and}
use Rattle.std.specs.List.{filter}
use Rattle.std.proofs.lemmas.Bool.{cases_eq, cases_Bool, eq-eqb, ne_eqb, cond-true, cond-false}
use Rattle.std.proofs.lemmas.Option.{none-some, same_Some}
use Rattle.std.proofs.lemmas.List.{append-nil, append_assoc}
use Rattle.std.proofs.lemmas.Nat.{and_le_r}
use Rattle.slab.specs.Slab.{Slab, get, slab_len}
use Rattle.key_lists.specs.Tables.{KeyTable, Holds, last_of, list_of}
use Rattle.wheel_core.specs.declared.item.Item.{Item}
use Rattle.wheel_core.specs.PlainBase.{item_of}
use Rattle.wheel_base.specs.Files.{Slots, items_of, name_of, IsFiled, IsStored, filed_at, item_at}
use Rattle.wheel_base.proofs.Filing.{is_in, stored_slot, under}
use Rattle.wheel_base.proofs.Leaving.{held_unfiltered, has_held}

-- LOOKING FOR AN ID
-- none of these keys has an item of the id
abbrev pub NoneNamed : Slots → ℕ → List ℕ → Type 0
NoneNamed slots id [] = Unit {0}
NoneNamed slots id (k ∷ keys) = ((item_at slots k).id ≡ id → ⊥) × NoneNamed slots id keys

-- how far the search came: what is left in front of a name's list
pub record Searched (slots : Slots) (id : ℕ) (list : List ℕ) (at : Option ℕ) (left : ℕ) : Type 0 where
  pub front : List ℕ
  pub back : List ℕ
  pub split : list ≡ front ++ back
  pub at_last : at ≡ last_of front
  pub none : NoneNamed slots id back
  pub few : length front ≤ left

unnamed_filter : (slots : Slots) (id mask : ℕ) (keys : List ℕ) → NoneNamed slots id (filter (is_in (name_of mask) slots (bit_and id mask)) keys)
    → item_of id (items_of (filed_at slots keys)) ≡ None
unnamed_filter slots id mask [] none = refl
unnamed_filter slots id mask (k ∷ keys) none =
    let p = is_in (name_of mask) slots (bit_and id mask) in
    elim (cases_eq (item_at slots k).id id) [
      | inl here ↦
          let kept = eq-eqb (name_of mask (item_at slots k)) (bit_and id mask) (ap (λ i. bit_and i mask) here) in
          let inside : NoneNamed slots id (k ∷ filter p keys) = subst (NoneNamed slots id) (cond-true (p k) (k ∷ filter p keys) (filter p keys) kept) none in
          absurd (inside.0 here)
      | inr other ↦
          let rest : NoneNamed slots id (filter p keys) = elim (cases_Bool (p k)) [
            | inl kept ↦ let inside : NoneNamed slots id (k ∷ filter p keys) = subst (NoneNamed slots id) (cond-true (p k) (k ∷ filter p keys) (filter p keys) kept) none in inside.1
            | inr left ↦ subst (NoneNamed slots id) (cond-false (p k) (k ∷ filter p keys) (filter p keys) left) none
          ] in
          cond-false ((item_at slots k).id == id) (Some (item_at slots k)) (item_of id (items_of (filed_at slots keys))) (ne_eqb (item_at slots k).id id other)
          ∙ unnamed_filter slots id mask keys rest
    ]

no_front : (front : List ℕ) → None ≡ last_of front → front ≡ []
no_front [] is = refl
no_front (k ∷ front) is = absurd (none-some (unwrap_or (last_of front) k) is)

split_last : (front : List ℕ) (key : ℕ) → Some key ≡ last_of front → (rest : List ℕ) × (front ≡ rest ++ key ∷ []) × (length rest + 1 ≡ length front)
split_last [] key is = absurd (none-some key (sym is))
split_last (k ∷ []) key is = let same = same_Some key k is in ([], ap (λ (x : ℕ). x ∷ []) (sym same), omega arith)
split_last (k ∷ next ∷ front) key is =
    let rest = split_last (next ∷ front) key is in
    (k ∷ rest.0, ap (λ (r : List ℕ). k ∷ r) rest.1, omega (arith, rest.2))

module _ (items : Slab Item) (armed buckets names : KeyTable) (mask : ℕ) (marks : List ℕ) (f : IsFiled items armed buckets names mask marks) (id : ℕ) where
  pub name_in : bit_and id mask < names.number
  name_in = let at_most = and_le_r id mask in let masked = f.masked in omega arith

  pub none_found : (at : Option ℕ) (left : ℕ) → Searched items.slots id (list_of names (bit_and id mask)) at left → at ≡ None
      → item_of id (items_of (filed_at items.slots (list_of armed 0))) ≡ None
  none_found at left s none =
      let empty = no_front s.front (sym none ∙ s.at_last) in
      let list_is : list_of names (bit_and id mask) ≡ s.back = s.split ∙ ap (λ front. front ++ s.back) empty in
      unnamed_filter items.slots id mask (list_of armed 0) (subst (NoneNamed items.slots id) (sym list_is ∙ f.named (bit_and id mask) name_in) s.none)

  pub search_start : (at : Option ℕ) (left : ℕ) → at ≡ last_of (list_of names (bit_and id mask)) → length (list_of names (bit_and id mask)) ≤ left → Searched items.slots id (list_of names (bit_and id mask)) at left
  search_start at left is few = record { front = list_of names (bit_and id mask); back = []; split = sym (append-nil (list_of names (bit_and id mask))); at_last = is; none = tt; few = few }

  -- the key at which the search stands
  pub record Standing (at : Option ℕ) (left key : ℕ) (back : List ℕ) : Type 0 where
    pub rest : List ℕ
    pub list_is : list_of names (bit_and id mask) ≡ rest ++ key ∷ back
    pub fewer : length rest + 1 ≤ left

  pub standing : (at : Option ℕ) (left key : ℕ) (s : Searched items.slots id (list_of names (bit_and id mask)) at left) → at ≡ Some key → Standing at left key s.back
  standing at left key s some =
      let last = split_last s.front key (sym some ∙ s.at_last) in
      let few = s.few in
      record {
        rest = last.0;
        list_is = s.split ∙ (ap (λ front. front ++ s.back) last.1 ∙ append_assoc last.0 (key ∷ []) s.back);
        fewer = omega (arith, last.2);
      }

  holds_split : (key : ℕ) (front back : List ℕ) → Holds key (front ++ key ∷ back)
  holds_split key [] back = inl refl
  holds_split key (k ∷ front) back = inr (holds_split key front back)

  pub standing_held : (at : Option ℕ) (left key : ℕ) (back : List ℕ) → Standing at left key back → Holds key (list_of names (bit_and id mask))
  standing_held at left key back s = subst (Holds key) (sym s.list_is) (holds_split key s.rest back)

  pub standing_stored : (at : Option ℕ) (left key : ℕ) (back : List ℕ) → Standing at left key back
      → (get items key ≡ Some (item_at items.slots key)) × IsStored (filed_at items.slots (list_of armed 0)) (key, item_at items.slots key)
  standing_stored at left key back s =
      let in_names : Holds key (filter (is_in (name_of mask) items.slots (bit_and id mask)) (list_of armed 0)) =
      subst (Holds key) (f.named (bit_and id mask) name_in) (standing_held at left key back s) in
      let held = held_unfiltered (is_in (name_of mask) items.slots (bit_and id mask)) key (list_of armed 0) in_names in (
        (stored_slot items.slots key (list_of armed 0) f.stored held).0,
        record { has = has_held items.slots key (list_of armed 0) held; under = under items.slots key (list_of armed 0) held },
      )

  pub search_on : (at at_now : Option ℕ) (left key : ℕ) (s : Searched items.slots id (list_of names (bit_and id mask)) at left) (stands : Standing at left key s.back)
      → at_now ≡ last_of stands.rest → ((item_at items.slots key).id ≡ id → ⊥) → Searched items.slots id (list_of names (bit_and id mask)) at_now (left - 1)
  search_on at at_now left key s stands is other =
      let fewer = stands.fewer in
      record { front = stands.rest; back = key ∷ s.back; split = stands.list_is; at_last = is; none = (other, s.none); few = omega arith }

  no_keys : (keys : List ℕ) → length keys ≤ 0 → keys ≡ []
  no_keys [] few = refl
  no_keys (k ∷ keys) few = absurd (omega arith)

  pub none_left : (at : Option ℕ) (left : ℕ) → Searched items.slots id (list_of names (bit_and id mask)) at left → left ≡ 0
      → item_of id (items_of (filed_at items.slots (list_of armed 0))) ≡ None
  none_left at left s end =
      let few = s.few in
      let list_is : list_of names (bit_and id mask) ≡ s.back = s.split ∙ ap (λ front. front ++ s.back) (no_keys s.front (omega arith)) in
      unnamed_filter items.slots id mask (list_of armed 0) (subst (NoneNamed items.slots id) (sym list_is ∙ f.named (bit_and id mask) name_in) s.none)

  filter_few : (p : ℕ → Bool) (keys : List ℕ) → length (filter p keys) ≤ length keys
  filter_few p [] = omega arith
  filter_few p (k ∷ keys) =
      let rest = filter_few p keys in
      elim (cases_Bool (p k)) [
        | inl kept ↦ let is = ap (length {A = ℕ}) (cond-true (p k) (k ∷ filter p keys) (filter p keys) kept) in omega arith
        | inr left ↦ let is = ap (length {A = ℕ}) (cond-false (p k) (k ∷ filter p keys) (filter p keys) left) in omega arith
      ]

  pub names_few : length (list_of names (bit_and id mask)) ≤ slab_len items
  names_few =
      let is = ap (length {A = ℕ}) (f.named (bit_and id mask) name_in) in
      let few = filter_few (is_in (name_of mask) items.slots (bit_and id mask)) (list_of armed 0) in
      let counted = f.counted in omega arith

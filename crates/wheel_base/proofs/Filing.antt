-- keys and their items, as one comes or goes
use Rattle.std.proofs.Common.{◌≡◌, ℕ, ◌+◌, ◌<◌, Bool, List, [], ◌∷◌, ◌++◌, length, Some, None, refl, ap, ◌∙◌, sym, subst, inl, inr, arith}
use Rattle.std.specs.Prelude.{◌==◌, cond, if◌then◌else◌, slice_index_or, unwrap_or}
use Rattle.std.specs.List.{filter}
use Rattle.std.specs.Option.{option_map}
use Rattle.std.proofs.lemmas.Bool.{cases_eq, cases_Bool, eq-eqb, ne_eqb, cond-true, cond-false}
use Rattle.std.proofs.lemmas.Option.{none-some}
use Rattle.std.proofs.lemmas.List.{map-append, append-nil}
use Rattle.std.proofs.lemmas.List.Elements.{filter-append}
use Rattle.key_lists.specs.Tables.{Lacks, Holds, last_of, without}
use Rattle.wheel_core.specs.declared.item.Item.{Item}
use Rattle.wheel_base.specs.Files.{Entry, Slots, AreStored, HasKey, bucket_of, filed_at, in_bucket, item_at, item_under, last_entry, no_item, without_key}

-- whether a key's item is in a class
abbrev pub is_in : (class : Item → ℕ) → Slots → (number : ℕ) → ℕ → Bool
is_in class slots number key = class (item_at slots key) == number

pub stored_slot : (slots : Slots) (key : ℕ) (keys : List ℕ) → AreStored slots keys → Holds key keys
    → (slice_index_or slots key None ≡ Some (item_at slots key)) × ((item_at slots key).level < 9)
stored_slot slots key [] stored held = absurd held
stored_slot slots key (k ∷ keys) stored (inl here) =
    subst (λ k. (slice_index_or slots k None ≡ Some (item_at slots k)) × ((item_at slots k).level < 9)) here (stored.0, stored.1)
stored_slot slots key (k ∷ keys) stored (inr later) = stored_slot slots key keys stored.3 later

pub held_key : (slots : Slots) (key : ℕ) (keys : List ℕ) → HasKey key (filed_at slots keys) → Holds key keys
held_key slots key [] has = has
held_key slots key (k ∷ keys) (inl here) = inl here
held_key slots key (k ∷ keys) (inr later) = inr (held_key slots key keys later)

pub under : (slots : Slots) (key : ℕ) (keys : List ℕ) → Holds key keys → item_under key (filed_at slots keys) ≡ Some (item_at slots key)
under slots key [] held = absurd held
under slots key (k ∷ keys) held =
    elim (cases_eq k key) [
      | inl here ↦ cond-true (k == key) (Some (item_at slots k)) (item_under key (filed_at slots keys)) (eq-eqb k key here) ∙ ap (λ k. Some (item_at slots k)) here
      | inr other ↦
          cond-false (k == key) (Some (item_at slots k)) (item_under key (filed_at slots keys)) (ne_eqb k key other)
          ∙ under slots key keys (elim held [ inl here ↦ absurd (other here) | inr later ↦ later ])
    ]

pub vacant_lacks : (slots : Slots) (key : ℕ) (keys : List ℕ) → slice_index_or slots key None ≡ None → AreStored slots keys → Lacks key keys
vacant_lacks slots key [] vacant stored = tt
vacant_lacks slots key (k ∷ keys) vacant stored = (
  λ same. none-some (item_at slots k) (sym vacant ∙ (ap (λ i. slice_index_or slots i None) (sym same) ∙ stored.0)),
  vacant_lacks slots key keys vacant stored.3,
)

pub lacks_filter : (p : ℕ → Bool) (key : ℕ) (keys : List ℕ) → Lacks key keys → Lacks key (filter p keys)
lacks_filter p key [] lacks = tt
lacks_filter p key (k ∷ keys) lacks =
    elim (cases_Bool (p k)) [
      | inl kept ↦ subst (Lacks key) (sym (cond-true (p k) (k ∷ filter p keys) (filter p keys) kept)) (lacks.0, lacks_filter p key keys lacks.1)
      | inr left ↦ subst (Lacks key) (sym (cond-false (p k) (k ∷ filter p keys) (filter p keys) left)) (lacks_filter p key keys lacks.1)
    ]

-- the entries of a bucket are those of its keys
pub in_bucket_is : (slots : Slots) (bucket : ℕ) (keys : List ℕ) → in_bucket bucket (filed_at slots keys) ≡ filed_at slots (filter (is_in bucket_of slots bucket) keys)
in_bucket_is slots bucket [] = refl
in_bucket_is slots bucket (k ∷ keys) =
    let rest = in_bucket_is slots bucket keys in
    let filed = filed_at slots keys in
    elim (cases_Bool (is_in bucket_of slots bucket k)) [
      | inl kept ↦
          cond-true (is_in bucket_of slots bucket k) ((k, item_at slots k) ∷ in_bucket bucket filed) (in_bucket bucket filed) kept
          ∙ (ap (λ (r : List Entry). (k, item_at slots k) ∷ r) rest
          ∙ ap (filed_at slots) (sym (cond-true (is_in bucket_of slots bucket k) (k ∷ filter (is_in bucket_of slots bucket) keys) (filter (is_in bucket_of slots bucket) keys) kept)))
      | inr left ↦
          cond-false (is_in bucket_of slots bucket k) ((k, item_at slots k) ∷ in_bucket bucket filed) (in_bucket bucket filed) left
          ∙ (rest ∙ ap (filed_at slots) (sym (cond-false (is_in bucket_of slots bucket k) (k ∷ filter (is_in bucket_of slots bucket) keys) (filter (is_in bucket_of slots bucket) keys) left)))
    ]

last_entry_or : (slots : Slots) (k : ℕ) (keys : List ℕ) → unwrap_or (last_entry (filed_at slots keys)) (k, item_at slots k) ≡ (unwrap_or (last_of keys) k, item_at slots (unwrap_or (last_of keys) k))
last_entry_or slots k [] = refl
last_entry_or slots k (next ∷ keys) = last_entry_or slots next keys

pub last_entry_is : (slots : Slots) (keys : List ℕ) → last_entry (filed_at slots keys) ≡ option_map (λ key. (key, item_at slots key)) (last_of keys)
last_entry_is slots [] = refl
last_entry_is slots (k ∷ keys) = ap Some (last_entry_or slots k keys)

-- the slots differ at one key alone
module _ (old new : Slots) (key : ℕ) (others : (k : ℕ) → (k ≡ key → ⊥) → slice_index_or new k None ≡ slice_index_or old k None) where
  same_item : (k : ℕ) → (k ≡ key → ⊥) → item_at new k ≡ item_at old k
  same_item k other = ap (λ slot. unwrap_or slot no_item) (others k other)

  pub filed_kept : (keys : List ℕ) → Lacks key keys → filed_at new keys ≡ filed_at old keys
  filed_kept [] lacks = refl
  filed_kept (k ∷ keys) lacks = let item = same_item k lacks.0 in let rest = filed_kept keys lacks.1 in λ i. (k, item i) ∷ rest i

  pub stored_kept : (keys : List ℕ) → Lacks key keys → AreStored old keys → AreStored new keys
  stored_kept [] lacks stored = tt
  stored_kept (k ∷ keys) lacks stored =
      let item = same_item k lacks.0 in
      (others k lacks.0 ∙ (stored.0 ∙ ap Some (sym item)), subst (λ (x : Item). x.level < 9) (sym item) stored.1, stored.2, stored_kept keys lacks.1 stored.3)

  pub filter_kept : (class : Item → ℕ) (bucket : ℕ) (keys : List ℕ) → Lacks key keys → filter (is_in class new bucket) keys ≡ filter (is_in class old bucket) keys
  filter_kept class bucket [] lacks = refl
  filter_kept class bucket (k ∷ keys) lacks =
      let item = same_item k lacks.0 in
      let rest = filter_kept class bucket keys lacks.1 in
      λ i. cond (class (item i) == bucket) (k ∷ rest i) (rest i)

  -- AN ITEM COMES
  pub filed_push : (item : Item) (keys : List ℕ) → Lacks key keys → slice_index_or new key None ≡ Some item
      → filed_at new (keys ++ key ∷ []) ≡ filed_at old keys ++ (key, item) ∷ []
  filed_push item keys lacks here =
      map-append (λ k. (k, item_at new k)) keys (key ∷ [])
      ∙ (let kept = filed_kept keys lacks in let is = ap (λ slot. unwrap_or slot no_item) here in λ i. kept i ++ (key, is i) ∷ [])

  pub stored_push : (item : Item) (keys : List ℕ) → Lacks key keys → AreStored old keys → slice_index_or new key None ≡ Some item → item.level < 9
      → AreStored new (keys ++ key ∷ [])
  stored_push item [] lacks stored here level =
      let is : item_at new key ≡ item = ap (λ slot. unwrap_or slot no_item) here in
      (here ∙ ap Some (sym is), subst (λ (x : Item). x.level < 9) (sym is) level, tt, tt)
  stored_push item (k ∷ keys) lacks stored here level =
      let same = same_item k lacks.0 in (
        others k lacks.0 ∙ (stored.0 ∙ ap Some (sym same)),
        subst (λ (x : Item). x.level < 9) (sym same) stored.1,
        lacks_push k keys stored.2 (λ e. lacks.0 (sym e)),
        stored_push item keys lacks.1 stored.3 here level,
      )
    where
      lacks_push : (k : ℕ) (keys : List ℕ) → Lacks k keys → (key ≡ k → ⊥) → Lacks k (keys ++ key ∷ [])
      lacks_push k [] lacks apart = (apart, tt)
      lacks_push k (next ∷ keys) lacks apart = (lacks.0, lacks_push k keys lacks.1 apart)

  pub chained_push : (class : Item → ℕ) (item : Item) (bucket : ℕ) (keys : List ℕ) → Lacks key keys → slice_index_or new key None ≡ Some item
      → filter (is_in class new bucket) (keys ++ key ∷ []) ≡ (if class item == bucket then filter (is_in class old bucket) keys ++ key ∷ [] else filter (is_in class old bucket) keys)
  chained_push class item bucket keys lacks here =
      let is : item_at new key ≡ item = ap (λ slot. unwrap_or slot no_item) here in
      let kept = filter_kept class bucket keys lacks in
      filter-append (is_in class new bucket) keys (key ∷ [])
      ∙ ((λ i. kept i ++ cond (class (is i) == bucket) (key ∷ []) [])
      ∙ elim (cases_Bool (class item == bucket)) [
        | inl inside ↦
            ap (λ r. filter (is_in class old bucket) keys ++ r) (cond-true (class item == bucket) (key ∷ []) [] inside)
            ∙ sym (cond-true (class item == bucket) (filter (is_in class old bucket) keys ++ key ∷ []) (filter (is_in class old bucket) keys) inside)
        | inr outside ↦
            ap (λ r. filter (is_in class old bucket) keys ++ r) (cond-false (class item == bucket) (key ∷ []) [] outside)
            ∙ (append-nil (filter (is_in class old bucket) keys)
            ∙ sym (cond-false (class item == bucket) (filter (is_in class old bucket) keys ++ key ∷ []) (filter (is_in class old bucket) keys) outside))
      ])

  -- AN ITEM GOES
  pub filed_without : (keys : List ℕ) → AreStored old keys → filed_at new (without key keys) ≡ without_key key (filed_at old keys)
  filed_without [] stored = refl
  filed_without (k ∷ keys) stored =
      elim (cases_eq k key) [
        | inl here ↦
            let lacks : Lacks key keys = subst (λ k. Lacks k keys) here stored.2 in
            ap (filed_at new) (cond-true (k == key) keys (k ∷ without key keys) (eq-eqb k key here))
            ∙ (filed_kept keys lacks ∙ sym (cond-true (k == key) (filed_at old keys) ((k, item_at old k) ∷ without_key key (filed_at old keys)) (eq-eqb k key here)))
        | inr other ↦
            let item = same_item k other in
            let rest = filed_without keys stored.3 in
            ap (filed_at new) (cond-false (k == key) keys (k ∷ without key keys) (ne_eqb k key other))
            ∙ ((λ i. (k, item i) ∷ rest i) ∙ sym (cond-false (k == key) (filed_at old keys) ((k, item_at old k) ∷ without_key key (filed_at old keys)) (ne_eqb k key other)))
      ]

without_lacks : (k key : ℕ) (keys : List ℕ) → Lacks k keys → Lacks k (without key keys)
without_lacks k key [] lacks = tt
without_lacks k key (next ∷ keys) lacks =
    elim (cases_Bool (next == key)) [
      | inl here ↦ subst (Lacks k) (sym (cond-true (next == key) keys (next ∷ without key keys) here)) lacks.1
      | inr other ↦ subst (Lacks k) (sym (cond-false (next == key) keys (next ∷ without key keys) other)) (lacks.0, without_lacks k key keys lacks.1)
    ]

pub stored_without : (slots : Slots) (key : ℕ) (keys : List ℕ) → AreStored slots keys → AreStored slots (without key keys)
stored_without slots key [] stored = tt
stored_without slots key (k ∷ keys) stored =
    elim (cases_Bool (k == key)) [
      | inl here ↦ subst (AreStored slots) (sym (cond-true (k == key) keys (k ∷ without key keys) here)) stored.3
      | inr other ↦ subst (AreStored slots) (sym (cond-false (k == key) keys (k ∷ without key keys) other)) (stored.0, stored.1, without_lacks k key keys stored.2, stored_without slots key keys stored.3)
    ]

pub gone : (slots : Slots) (key : ℕ) (keys : List ℕ) → AreStored slots keys → Lacks key (without key keys)
gone slots key [] stored = tt
gone slots key (k ∷ keys) stored =
    elim (cases_eq k key) [
      | inl here ↦ subst (Lacks key) (sym (cond-true (k == key) keys (k ∷ without key keys) (eq-eqb k key here))) (subst (λ k. Lacks k keys) here stored.2)
      | inr other ↦ subst (Lacks key) (sym (cond-false (k == key) keys (k ∷ without key keys) (ne_eqb k key other))) (other, gone slots key keys stored.3)
    ]

pub without_lacking : (key : ℕ) (keys : List ℕ) → Lacks key keys → without key keys ≡ keys
without_lacking key [] lacks = refl
without_lacking key (k ∷ keys) lacks =
    cond-false (k == key) keys (k ∷ without key keys) (ne_eqb k key lacks.0) ∙ ap (λ (r : List ℕ). k ∷ r) (without_lacking key keys lacks.1)

pub chained_without : (slots : Slots) (p : ℕ → Bool) (key : ℕ) (keys : List ℕ) → AreStored slots keys → filter p (without key keys) ≡ without key (filter p keys)
chained_without slots p key [] stored = refl
chained_without slots p key (k ∷ keys) stored =
    elim (cases_eq k key) [
      | inl here ↦
          let lacks : Lacks key (filter p keys) = lacks_filter p key keys (subst (λ k. Lacks k keys) here stored.2) in
          ap (filter p) (cond-true (k == key) keys (k ∷ without key keys) (eq-eqb k key here))
          ∙ elim (cases_Bool (p k)) [
            | inl kept ↦
                sym (cond-true (k == key) (filter p keys) (k ∷ without key (filter p keys)) (eq-eqb k key here))
                ∙ ap (without key) (sym (cond-true (p k) (k ∷ filter p keys) (filter p keys) kept))
            | inr left ↦ sym (without_lacking key (filter p keys) lacks) ∙ ap (without key) (sym (cond-false (p k) (k ∷ filter p keys) (filter p keys) left))
          ]
      | inr other ↦
          let rest = chained_without slots p key keys stored.3 in
          ap (filter p) (cond-false (k == key) keys (k ∷ without key keys) (ne_eqb k key other))
          ∙ elim (cases_Bool (p k)) [
            | inl kept ↦
                cond-true (p k) (k ∷ filter p (without key keys)) (filter p (without key keys)) kept
                ∙ (ap (λ (r : List ℕ). k ∷ r) rest
                ∙ (sym (cond-false (k == key) (filter p keys) (k ∷ without key (filter p keys)) (ne_eqb k key other))
                ∙ ap (without key) (sym (cond-true (p k) (k ∷ filter p keys) (filter p keys) kept))))
            | inr left ↦
                cond-false (p k) (k ∷ filter p (without key keys)) (filter p (without key keys)) left
                ∙ (rest ∙ ap (without key) (sym (cond-false (p k) (k ∷ filter p keys) (filter p keys) left)))
          ]
    ]

pub length_without : (key : ℕ) (keys : List ℕ) → Holds key keys → length (without key keys) + 1 ≡ length keys
length_without key [] held = absurd held
length_without key (k ∷ keys) held =
    elim (cases_eq k key) [
      | inl here ↦ let is = ap (length {A = ℕ}) (cond-true (k == key) keys (k ∷ without key keys) (eq-eqb k key here)) in omega arith
      | inr other ↦
          let is = ap (length {A = ℕ}) (cond-false (k == key) keys (k ∷ without key keys) (ne_eqb k key other)) in
          let rest = length_without key keys (elim held [ inl here ↦ absurd (other here) | inr later ↦ later ]) in omega arith
    ]

-- the store's invariant, as an item goes
use Rattle.std.proofs.Common.{◌≡◌, ℕ, ◌+◌, ◌-◌, ◌*◌, ◌%◌, ◌^◌, ◌<◌, Bool, List, [], ◌∷◌, length, Option, Some, None, refl, ap, ◌∙◌, sym, subst, inl, inr, arith, slice_set, w64}
use Rattle.std.specs.Prelude.{not, slice_index_or, unwrap_or, is_some}
use Rattle.std.specs.Int.{bit_at}
use Rattle.std.specs.Prelude.{bit_and}
use Rattle.std.specs.List.{filter}
use Rattle.std.specs.Option.{option_map}
use Rattle.std.proofs.lemmas.Bool.{cases_eq, cases_Bool, eq-eqb, eqb-true, cond-true, cond-false}
use Rattle.std.proofs.lemmas.Option.{none-some, same_Some}
use Rattle.std.proofs.lemmas.List.{get_or-set_same, get_or-set_other}
use Rattle.std.proofs.lemmas.Nat.Bits.{bit_at_clear_same, bit_at_clear_other}
use Rattle.std.proofs.lemmas.Nat.{and_le_r}
use Rattle.slab.specs.Slab.{Slab, Updates, get, slab_len}
use Rattle.key_lists.specs.Tables.{KeyTable, Lacks, Holds, first_key, last_of, list_of, without}
use Rattle.wheel_core.specs.declared.item.Item.{Item}
use Rattle.wheel_base.specs.Files.{Entry, Slots, AreClassed, AreStored, HasKey, name_of, IsFiled, IsStored, bucket_of, filed_at, first_entry, in_bucket, item_at, item_under, last_entry, bucket_mark, no_item, without_key}
use Rattle.wheel_base.proofs.Filing.{is_in, stored_slot, held_key, under, in_bucket_is, last_entry_is, stored_kept, filed_without, stored_without, gone, without_lacking, length_without}
use Rattle.wheel_base.proofs.Stores.{classed_less, mark_filed}

-- TAKE
lacks_other : (class : Item → ℕ) (slots : Slots) (bucket key : ℕ) (keys : List ℕ) → (class (item_at slots key) ≡ bucket → ⊥) → Lacks key (filter (is_in class slots bucket) keys)
lacks_other class slots bucket key [] other = tt
lacks_other class slots bucket key (k ∷ keys) other =
    elim (cases_Bool (is_in class slots bucket k)) [
      | inl kept ↦
          subst (Lacks key) (sym (cond-true (is_in class slots bucket k) (k ∷ filter (is_in class slots bucket) keys) (filter (is_in class slots bucket) keys) kept))
          ((λ same. other (ap (λ k. class (item_at slots k)) (sym same) ∙ eqb-true (class (item_at slots k)) bucket kept)), lacks_other class slots bucket key keys other)
      | inr left ↦
          subst (Lacks key) (sym (cond-false (is_in class slots bucket k) (k ∷ filter (is_in class slots bucket) keys) (filter (is_in class slots bucket) keys) left)) (lacks_other class slots bucket key keys other)
    ]

holds_filter : (p : ℕ → Bool) (key : ℕ) (keys : List ℕ) → p key ≡ Bool.true → Holds key keys → Holds key (filter p keys)
holds_filter p key [] passes held = held
holds_filter p key (k ∷ keys) passes (inl here) =
    subst (Holds key) (sym (cond-true (p k) (k ∷ filter p keys) (filter p keys) (ap p here ∙ passes))) (inl here)
holds_filter p key (k ∷ keys) passes (inr later) =
    elim (cases_Bool (p k)) [
      | inl kept ↦ subst (Holds key) (sym (cond-true (p k) (k ∷ filter p keys) (filter p keys) kept)) (inr (holds_filter p key keys passes later))
      | inr left ↦ subst (Holds key) (sym (cond-false (p k) (k ∷ filter p keys) (filter p keys) left)) (holds_filter p key keys passes later)
    ]

module _ (items : Slab Item) (armed buckets names : KeyTable) (mask : ℕ) (marks : List ℕ) (key : ℕ) (f : IsFiled items armed buckets names mask marks)
    (has : HasKey key (filed_at items.slots (list_of armed 0))) where
  pub held : Holds key (list_of armed 0)
  held = held_key items.slots key (list_of armed 0) has

  pub slot_is : (slice_index_or items.slots key None ≡ Some (item_at items.slots key)) × ((item_at items.slots key).level < 9)
  slot_is = stored_slot items.slots key (list_of armed 0) f.stored held

  pub item_is : (item : Item) → get items key ≡ Some item → item_at items.slots key ≡ item
  item_is item found = ap (λ slot. unwrap_or slot no_item) found

  pub taken_is : (item : Item) → get items key ≡ Some item → Some item ≡ item_under key (filed_at items.slots (list_of armed 0))
  taken_is item found = ap Some (sym (item_is item found)) ∙ sym (under items.slots key (list_of armed 0) held)

  pub held_armed : (c : ℕ) × (c < armed.number) × Holds key (list_of armed c)
  held_armed = let one = f.one in (0, omega arith, held)

  bucket_holds : (level place : ℕ) → place < 64 → level < 9 → bucket_of (item_at items.slots key) ≡ 64 * level + place → Holds key (list_of buckets (64 * level + place))
  bucket_holds level place place_in level_in is =
      let many = f.many in
      subst (Holds key) (sym (f.chained (64 * level + place) (omega arith)))
      (holds_filter (is_in bucket_of items.slots (64 * level + place)) key (list_of armed 0) (eq-eqb (bucket_of (item_at items.slots key)) (64 * level + place) is) held)

  pub held_bucket : (level place : ℕ) → place < 64 → level < 9 → bucket_of (item_at items.slots key) ≡ 64 * level + place → (c : ℕ) × (c < buckets.number) × Holds key (list_of buckets c)
  held_bucket level place place_in level_in is = let many = f.many in (64 * level + place, omega arith, bucket_holds level place place_in level_in is)

  pub held_name : (c : ℕ) × (c < names.number) × Holds key (list_of names c)
  held_name =
      let name = name_of mask (item_at items.slots key) in
      let at_most = and_le_r (item_at items.slots key).id mask in
      let masked = f.masked in
      let below : name < names.number = omega arith in
      (name, below, subst (Holds key) (sym (f.named name below)) (holds_filter (is_in (name_of mask) items.slots name) key (list_of armed 0) (eq-eqb name name refl) held))

  -- the slots and lists after the item went
  module _ (new : Slab Item) (armed_now buckets_now : KeyTable) (updates : Updates items new key None)
      (a_lists : (c : ℕ) → c < armed.number → list_of armed_now c ≡ without key (list_of armed c))
      (b_number : buckets_now.number ≡ buckets.number) (b_lists : (c : ℕ) → c < buckets.number → list_of buckets_now c ≡ without key (list_of buckets c)) where
    others_kept : (k : ℕ) → (k ≡ key → ⊥) → slice_index_or new.slots k None ≡ slice_index_or items.slots k None
    others_kept k other = updates.others k other

    keys_now : list_of armed_now 0 ≡ without key (list_of armed 0)
    keys_now = let one = f.one in a_lists 0 (omega arith)

    pub filed_less_is : filed_at new.slots (list_of armed_now 0) ≡ without_key key (filed_at items.slots (list_of armed 0))
    filed_less_is = ap (filed_at new.slots) keys_now ∙ filed_without items.slots new.slots key others_kept (list_of armed 0) f.stored

    classed_now : AreClassed bucket_of new.slots (list_of armed_now 0) buckets_now
    classed_now = classed_less bucket_of items.slots new.slots key (list_of armed 0) (list_of armed_now 0) buckets buckets_now others_kept f.stored f.chained keys_now b_number b_lists

    chained_now : (c : ℕ) → c < 576 → list_of buckets_now c ≡ filter (is_in bucket_of new.slots c) (list_of armed_now 0)
    chained_now c below = let many = f.many in classed_now c (omega arith)

    chained_was : (c : ℕ) → c < 576 → list_of buckets c ≡ filter (is_in bucket_of items.slots c) (list_of armed 0)
    chained_was c below = let many = f.many in f.chained c (omega arith)

    -- a bucket's mark as its list says
    mark_now : (c : ℕ) → c < 576 → bucket_mark (in_bucket c (filed_at new.slots (list_of armed_now 0))) ≡ bucket_mark (filed_at new.slots (list_of buckets_now c))
    mark_now c below = ap bucket_mark (in_bucket_is new.slots c (list_of armed_now 0)) ∙ ap (λ ks. bucket_mark (filed_at new.slots ks)) (sym (chained_now c below))

    mark_was : (c : ℕ) → c < 576 → bucket_mark (in_bucket c (filed_at items.slots (list_of armed 0))) ≡ bucket_mark (filed_at items.slots (list_of buckets c))
    mark_was c below = ap bucket_mark (in_bucket_is items.slots c (list_of armed 0)) ∙ ap (λ ks. bucket_mark (filed_at items.slots ks)) (sym (chained_was c below))

    mark_same : (c : ℕ) → c < 576 → (bucket_of (item_at items.slots key) ≡ c → ⊥)
        → bucket_mark (in_bucket c (filed_at items.slots (list_of armed 0))) ≡ bucket_mark (in_bucket c (filed_at new.slots (list_of armed_now 0)))
    mark_same c below other =
        let many = f.many in
        let lacks : Lacks key (list_of buckets c) = subst (Lacks key) (sym (chained_was c below)) (lacks_other bucket_of items.slots c key (list_of armed 0) other) in
        mark_was c below
        ∙ (sym (mark_filed items.slots new.slots (list_of buckets c))
        ∙ (ap (λ ks. bucket_mark (filed_at new.slots ks)) (sym (b_lists c (omega arith) ∙ without_lacking key (list_of buckets c) lacks))
        ∙ sym (mark_now c below)))

    -- what the marks are to be
    abbrev pub AreMarked : List ℕ → Type 0
    AreMarked words = (l p : ℕ) → l < 9 → p < 64 → bit_at (slice_index_or words l 0) p ≡ bucket_mark (in_bucket (64 * l + p) (filed_at new.slots (list_of armed_now 0)))

    mark_some : (slots : Slots) (keys : List ℕ) (k : ℕ) → last_of keys ≡ Some k → bucket_mark (filed_at slots keys) ≡ 1
    mark_some slots [] k is = absurd (none-some k is)
    mark_some slots (first ∷ keys) k is = refl

    mark_none : (slots : Slots) (keys : List ℕ) → last_of keys ≡ None → bucket_mark (filed_at slots keys) ≡ 0
    mark_none slots [] is = refl
    mark_none slots (first ∷ keys) is = absurd (none-some (unwrap_or (last_of keys) first) (sym is))

    mark_held : (slots : Slots) (keys : List ℕ) → Holds key keys → bucket_mark (filed_at slots keys) ≡ 1
    mark_held slots [] holds = absurd holds
    mark_held slots (k ∷ keys) holds = refl

    -- the bucket still has an item
    pub marked_still : (level place k : ℕ) → place < 64 → level < 9 → bucket_of (item_at items.slots key) ≡ 64 * level + place
        → last_of (list_of buckets_now (64 * level + place)) ≡ Some k
        → (l p : ℕ) → l < 9 → p < 64 → bit_at (slice_index_or marks l 0) p ≡ bucket_mark (in_bucket (64 * l + p) (filed_at new.slots (list_of armed_now 0)))
    marked_still level place k place_in level_in is last l p l_in p_in =
        elim (cases_eq (64 * l + p) (64 * level + place)) [
          | inl here ↦
              let held_here : Holds key (list_of buckets (64 * l + p)) =
              subst (λ c. Holds key (list_of buckets c)) (sym here) (bucket_holds level place place_in level_in is) in
              let last_here = ap (λ c. last_of (list_of buckets_now c)) here ∙ last in
              f.marked l p l_in p_in
              ∙ (mark_was (64 * l + p) (omega arith) ∙ (mark_held items.slots (list_of buckets (64 * l + p)) held_here
              ∙ (sym (mark_some new.slots (list_of buckets_now (64 * l + p)) k last_here) ∙ sym (mark_now (64 * l + p) (omega arith)))))
          | inr other ↦ f.marked l p l_in p_in ∙ mark_same (64 * l + p) (omega arith) (λ same. other (sym same ∙ is))
        ]

    -- the bucket is empty
    pub marked_less : (level place : ℕ) → length marks ≡ 9 → place < 64 → level < 9 → bucket_of (item_at items.slots key) ≡ 64 * level + place
        → last_of (list_of buckets_now (64 * level + place)) ≡ None
        → (l p : ℕ) → l < 9 → p < 64
        → bit_at (slice_index_or (slice_set marks level (bit_and (slice_index_or marks level 0) (2 ^ 64 - 1 - 1 * 2 ^ place % 2 ^ 64))) l 0) p
        ≡ bucket_mark (in_bucket (64 * l + p) (filed_at new.slots (list_of armed_now 0)))
    marked_less level place nine place_in level_in is last l p l_in p_in =
        let word = slice_index_or marks level 0 in
        let cleared = bit_and word (2 ^ 64 - 1 - 1 * 2 ^ place % 2 ^ 64) in
        elim (cases_eq l level) [
          | inl same_level ↦
              let read = ap (λ i. slice_index_or (slice_set marks level cleared) i 0) same_level ∙ get_or-set_same marks level cleared 0 (omega arith) in
              elim (cases_eq p place) [
                | inl same_place ↦
                    let here : 64 * l + p ≡ 64 * level + place = omega arith in
                    ap (λ w. bit_at w p) read ∙ (ap (bit_at cleared) same_place ∙ (bit_at_clear_same w64 word place place_in
                    ∙ (sym (mark_none new.slots (list_of buckets_now (64 * l + p)) (ap (λ c. last_of (list_of buckets_now c)) here ∙ last)) ∙ sym (mark_now (64 * l + p) (omega arith)))))
                | inr other ↦
                    ap (λ w. bit_at w p) read ∙ (bit_at_clear_other w64 word place place_in p p_in other
                    ∙ (ap (λ i. bit_at (slice_index_or marks i 0) p) (sym same_level) ∙ (f.marked l p l_in p_in ∙ mark_same (64 * l + p) (omega arith) (λ same. other (omega arith)))))
              ]
          | inr other ↦
              ap (λ w. bit_at w p) (get_or-set_other marks level l cleared 0 other)
              ∙ (f.marked l p l_in p_in ∙ mark_same (64 * l + p) (omega arith) (λ same. other (omega arith)))
        ]

    pub filed_less : (names_now : KeyTable) (words : List ℕ) → AreMarked words → slab_len new + 1 ≡ slab_len items → new.capacity ≡ items.capacity
        → armed_now.number ≡ armed.number → armed_now.room ≡ armed.room → buckets_now.room ≡ buckets.room
        → names_now.number ≡ names.number → names_now.room ≡ names.room → ((c : ℕ) → c < names.number → list_of names_now c ≡ without key (list_of names c))
        → IsFiled new armed_now buckets_now names_now mask words
    filed_less names_now words marked len capacity a_number a_room b_room n_number n_room n_lists =
        let one = f.one in
        let many = f.many in
        let masked = f.masked in
        let counted = f.counted in
        let armed_room = f.armed_room in
        let bucket_room = f.bucket_room in
        let name_room = f.name_room in
        let keys = list_of armed 0 in
        record {
          one = a_number ∙ one;
          many = b_number ∙ many;
          masked = omega arith;
          stored = subst (AreStored new.slots) (sym keys_now)
              (stored_kept items.slots new.slots key others_kept (without key keys) (gone items.slots key keys f.stored) (stored_without items.slots key keys f.stored));
          counted = let shorter = ap (length {A = ℕ}) keys_now in let by_one = length_without key keys held in omega arith;
          chained = classed_now;
          named = classed_less (name_of mask) items.slots new.slots key (list_of armed 0) (list_of armed_now 0) names names_now others_kept f.stored f.named keys_now n_number n_lists;
          marked = marked;
          armed_room = omega arith;
          bucket_room = omega arith;
          name_room = omega arith;
        }

-- the newest of a bucket
pub newest_is : (items : Slab Item) (armed buckets names : KeyTable) (mask : ℕ) (marks : List ℕ) (bucket : ℕ) → IsFiled items armed buckets names mask marks → bucket < 576
    → last_entry (in_bucket bucket (filed_at items.slots (list_of armed 0))) ≡ option_map (λ key. (key, item_at items.slots key)) (last_of (list_of buckets bucket))
newest_is items armed buckets names mask marks bucket f below =
    ap last_entry (in_bucket_is items.slots bucket (list_of armed 0))
    ∙ (last_entry_is items.slots (filter (is_in bucket_of items.slots bucket) (list_of armed 0)) ∙ ap (λ ks. option_map (λ key. (key, item_at items.slots key)) (last_of ks)) (sym (f.chained bucket (omega (arith, f.many)))))

pub last_held : (key : ℕ) (keys : List ℕ) → last_of keys ≡ Some key → Holds key keys
last_held key [] is = absurd (none-some key is)
last_held key (k ∷ []) is = inl (same_Some k key is)
last_held key (k ∷ next ∷ keys) is = inr (last_held key (next ∷ keys) is)

pub held_unfiltered : (p : ℕ → Bool) (key : ℕ) (keys : List ℕ) → Holds key (filter p keys) → Holds key keys
held_unfiltered p key [] holds = absurd holds
held_unfiltered p key (k ∷ keys) holds =
    elim (cases_Bool (p k)) [
      | inl kept ↦
          let inside : Holds key (k ∷ filter p keys) = subst (Holds key) (cond-true (p k) (k ∷ filter p keys) (filter p keys) kept) holds in
          elim inside [ inl here ↦ inl here | inr later ↦ inr (held_unfiltered p key keys later) ]
      | inr left ↦ inr (held_unfiltered p key keys (subst (Holds key) (cond-false (p k) (k ∷ filter p keys) (filter p keys) left) holds))
    ]

pub newest_stored : (items : Slab Item) (armed buckets names : KeyTable) (mask : ℕ) (marks : List ℕ) (bucket key : ℕ) → IsFiled items armed buckets names mask marks → bucket < 576
    → last_of (list_of buckets bucket) ≡ Some key → get items key ≡ Some (item_at items.slots key)
newest_stored items armed buckets names mask marks bucket key f below last =
    let in_list : Holds key (filter (is_in bucket_of items.slots bucket) (list_of armed 0)) = subst (Holds key) (f.chained bucket (omega (arith, f.many))) (last_held key (list_of buckets bucket) last) in
    (stored_slot items.slots key (list_of armed 0) f.stored (held_unfiltered (is_in bucket_of items.slots bucket) key (list_of armed 0) in_list)).0

-- what a test for an item left says
pub last_none : (found : Option ℕ) (none : Bool) (keys : List ℕ) → is_some found ≡ not none → none ≡ Bool.true → found ≡ last_of keys → last_of keys ≡ None
last_none None none keys is empty same = sym same
last_none (Some k) none keys is empty same = let wrong : Bool.true ≡ Bool.false = is ∙ ap not empty in cc

pub last_some : (found : Option ℕ) (none : Bool) (keys : List ℕ) → is_some found ≡ not none → none ≡ Bool.false → found ≡ last_of keys → (k : ℕ) × (last_of keys ≡ Some k)
last_some None none keys is filled same = let wrong : Bool.false ≡ Bool.true = is ∙ ap not filled in absurd (let bad : ⊥ = cc in bad)
last_some (Some k) none keys is filled same = (k, sym same)

pub has_held : (slots : Slots) (key : ℕ) (keys : List ℕ) → Holds key keys → HasKey key (filed_at slots keys)
has_held slots key [] held = held
has_held slots key (k ∷ keys) (inl here) = inl here
has_held slots key (k ∷ keys) (inr later) = inr (has_held slots key keys later)

pub newest_found : (items : Slab Item) (armed buckets names : KeyTable) (mask : ℕ) (marks : List ℕ) (bucket key : ℕ) → IsFiled items armed buckets names mask marks → bucket < 576
    → last_of (list_of buckets bucket) ≡ Some key → IsStored (filed_at items.slots (list_of armed 0)) (key, item_at items.slots key)
newest_found items armed buckets names mask marks bucket key f below last =
    let in_list : Holds key (filter (is_in bucket_of items.slots bucket) (list_of armed 0)) = subst (Holds key) (f.chained bucket (omega (arith, f.many))) (last_held key (list_of buckets bucket) last) in
    let held = held_unfiltered (is_in bucket_of items.slots bucket) key (list_of armed 0) in_list in
    record { has = has_held items.slots key (list_of armed 0) held; under = under items.slots key (list_of armed 0) held }

-- THE FIRST ARMED ITEM
pub first_entry_is : (slots : Slots) (keys : List ℕ) → first_entry (filed_at slots keys) ≡ option_map (λ key. (key, item_at slots key)) (first_key keys)
first_entry_is slots [] = refl
first_entry_is slots (k ∷ keys) = refl

pub first_held : (key : ℕ) (keys : List ℕ) → first_key keys ≡ Some key → Holds key keys
first_held key [] is = absurd (none-some key is)
first_held key (k ∷ keys) is = inl (same_Some k key is)

-- a key that is held has a slot with an item, and its entry is found
pub record IsSlot (items : Slab Item) (filed : List Entry) (key : ℕ) : Type 0 where
  pub slot : get items key ≡ Some (item_at items.slots key)
  pub level : (item_at items.slots key).level < 9
  pub stored : IsStored filed (key, item_at items.slots key)

pub slot_of : (items : Slab Item) (key : ℕ) (keys : List ℕ) → AreStored items.slots keys → Holds key keys → IsSlot items (filed_at items.slots keys) key
slot_of items key keys stored held =
    let at = stored_slot items.slots key keys stored held in
    record { slot = at.0; level = at.1; stored = record { has = has_held items.slots key keys held; under = under items.slots key keys held } }

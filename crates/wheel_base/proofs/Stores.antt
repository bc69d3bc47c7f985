-- the store's invariant, as an item comes, and of an empty store
use Rattle.std.proofs.Common.{◌≡◌, ℕ, ◌+◌, ◌*◌, ◌%◌, ◌^◌, ◌<◌, ◌≤◌, List, [], ◌∷◌, ◌++◌, length, Some, None, refl, ap, ◌∙◌, sym, subst, inl, inr, arith, length-append, slice_set, w64}
use Rattle.std.specs.Prelude.{◌==◌, slice_index_or, count_by, is_some}
use Rattle.std.specs.Int.{bit_at}
use Rattle.std.specs.Int.RustNames.{bit_or}
use Rattle.std.specs.List.{filter}
use Rattle.std.proofs.lemmas.Bool.{cases_eq, eq-eqb, ne_eqb, cond-true, cond-false}
use Rattle.std.proofs.lemmas.List.{append-nil, get_or-replicate, get_or-set_same, get_or-set_other}
use Rattle.std.proofs.lemmas.List.Elements.{filter-append}
use Rattle.std.proofs.lemmas.Nat.Bits.{bit_at-zero, bit_at_set_same, bit_at_set_other}
use Rattle.slab.specs.Slab.{Slab, Updates, get, slab_len}
use Rattle.key_lists.specs.Tables.{KeyTable, Lacks, list_of, without}
use Rattle.wheel_core.specs.declared.item.Item.{Item}
use Rattle.wheel_base.specs.Files.{Entry, Slots, AreClassed, AreStored, name_of, IsFiled, bucket_of, filed_at, in_bucket, bucket_mark}
use Rattle.wheel_base.proofs.Filing.{is_in, vacant_lacks, lacks_filter, filed_push, stored_push, chained_push, gone, filter_kept, chained_without}

mark_push : (filed : List Entry) (e : Entry) → bucket_mark (filed ++ e ∷ []) ≡ 1
mark_push [] e = refl
mark_push (first ∷ filed) e = refl

pub mark_filed : (old new : Slots) (keys : List ℕ) → bucket_mark (filed_at new keys) ≡ bucket_mark (filed_at old keys)
mark_filed old new [] = refl
mark_filed old new (k ∷ keys) = refl

-- an item is in the bucket of its level and place alone
in_pushed : (filed : List Entry) (e : Entry) (bucket : ℕ) → (bucket_of e.1 ≡ bucket → ⊥) → in_bucket bucket (filed ++ e ∷ []) ≡ in_bucket bucket filed
in_pushed filed e bucket other =
    filter-append (λ (e : Entry). bucket_of e.1 == bucket) filed (e ∷ [])
    ∙ (ap (λ r. in_bucket bucket filed ++ r) (cond-false (bucket_of e.1 == bucket) (e ∷ []) [] (ne_eqb (bucket_of e.1) bucket other)) ∙ append-nil (in_bucket bucket filed))

in_pushed_here : (filed : List Entry) (e : Entry) (bucket : ℕ) → bucket_of e.1 ≡ bucket → bucket_mark (in_bucket bucket (filed ++ e ∷ [])) ≡ 1
in_pushed_here filed e bucket here =
    ap bucket_mark (filter-append (λ (e : Entry). bucket_of e.1 == bucket) filed (e ∷ [])
    ∙ ap (λ r. in_bucket bucket filed ++ r) (cond-true (bucket_of e.1 == bucket) (e ∷ []) [] (eq-eqb (bucket_of e.1) bucket here)))
    ∙ mark_push (in_bucket bucket filed) e

-- the marks with one more set
marks_push : (marks : List ℕ) (level place : ℕ) (filed : List Entry) (e : Entry) → length marks ≡ 9 → level < 9 → place < 64 → bucket_of e.1 ≡ 64 * level + place
    → ((l p : ℕ) → l < 9 → p < 64 → bit_at (slice_index_or marks l 0) p ≡ bucket_mark (in_bucket (64 * l + p) filed))
    → (l p : ℕ) → l < 9 → p < 64
    → bit_at (slice_index_or (slice_set marks level (bit_or (slice_index_or marks level 0) (1 * 2 ^ place % 2 ^ 64))) l 0) p ≡ bucket_mark (in_bucket (64 * l + p) (filed ++ e ∷ []))
marks_push marks level place filed e nine level_in place_in is old l p l_in p_in =
    let word = slice_index_or marks level 0 in
    let set = bit_or word (1 * 2 ^ place % 2 ^ 64) in
    elim (cases_eq l level) [
      | inl same_level ↦
          let read = ap (λ i. slice_index_or (slice_set marks level set) i 0) same_level ∙ get_or-set_same marks level set 0 (omega arith) in
          elim (cases_eq p place) [
            | inl same_place ↦
                ap (λ w. bit_at w p) read ∙ (ap (bit_at set) same_place ∙ (bit_at_set_same w64 word place place_in
                ∙ sym (in_pushed_here filed e (64 * l + p) (omega arith))))
            | inr other ↦
                ap (λ w. bit_at w p) read ∙ (bit_at_set_other w64 word place place_in p other
                ∙ (ap (λ i. bit_at (slice_index_or marks i 0) p) (sym same_level) ∙ (old l p l_in p_in ∙ ap bucket_mark (sym (in_pushed filed e (64 * l + p) (λ same. other (omega arith)))))))
          ]
      | inr other ↦
          ap (λ w. bit_at w p) (get_or-set_other marks level l set 0 other)
          ∙ (old l p l_in p_in ∙ ap bucket_mark (sym (in_pushed filed e (64 * l + p) (λ same. other (omega arith)))))
    ]

-- A CLASS MORE OR LESS
classed_more : (class : Item → ℕ) (old new : Slots) (key number : ℕ) (item : Item) (keys keys_now : List ℕ) (table table_now : KeyTable)
    → ((k : ℕ) → (k ≡ key → ⊥) → slice_index_or new k None ≡ slice_index_or old k None) → Lacks key keys → slice_index_or new key None ≡ Some item
    → AreClassed class old keys table → keys_now ≡ keys ++ key ∷ [] → table_now.number ≡ table.number → class item ≡ number
    → list_of table_now number ≡ list_of table number ++ key ∷ [] → ((c : ℕ) → c < table.number → (c ≡ number → ⊥) → list_of table_now c ≡ list_of table c)
    → AreClassed class new keys_now table_now
classed_more class old new key number item keys keys_now table table_now others lacks here classed keys_are number_is class_is pushed kept c below =
    let now = ap (filter (is_in class new c)) keys_are ∙ chained_push old new key others class item c keys lacks here in
    let inside_table : c < table.number = omega arith in
    let was = classed c inside_table in
    elim (cases_eq c number) [
      | inl this ↦
          let inside = cond-true (class item == c) (filter (is_in class old c) keys ++ key ∷ []) (filter (is_in class old c) keys) (eq-eqb (class item) c (omega arith)) in
          subst (λ b. list_of table_now b ≡ list_of table b ++ key ∷ []) (sym this) pushed ∙ (ap (λ r. r ++ key ∷ []) was ∙ (sym inside ∙ sym now))
      | inr other ↦
          let outside = cond-false (class item == c) (filter (is_in class old c) keys ++ key ∷ []) (filter (is_in class old c) keys) (ne_eqb (class item) c (λ same. other (omega arith))) in
          kept c inside_table other ∙ (was ∙ (sym outside ∙ sym now))
    ]

pub classed_less : (class : Item → ℕ) (old new : Slots) (key : ℕ) (keys keys_now : List ℕ) (table table_now : KeyTable)
    → ((k : ℕ) → (k ≡ key → ⊥) → slice_index_or new k None ≡ slice_index_or old k None) → AreStored old keys
    → AreClassed class old keys table → keys_now ≡ without key keys → table_now.number ≡ table.number
    → ((c : ℕ) → c < table.number → list_of table_now c ≡ without key (list_of table c)) → AreClassed class new keys_now table_now
classed_less class old new key keys keys_now table table_now others stored classed keys_are number_is lists c below =
    let inside : c < table.number = omega arith in
    lists c inside
    ∙ (ap (without key) (classed c inside)
    ∙ (sym (chained_without old (is_in class old c) key keys stored)
    ∙ (sym (filter_kept old new key others class c (without key keys) (gone old key keys stored))
    ∙ ap (filter (is_in class new c)) (sym keys_are))))

-- INSERT
module _ (items new : Slab Item) (armed buckets names : KeyTable) (mask : ℕ) (marks : List ℕ) (key : ℕ) (item : Item) (f : IsFiled items armed buckets names mask marks)
    (vacant : get items key ≡ None) (updates : Updates items new key (Some item)) where
  pub lacks_armed : (c : ℕ) → c < armed.number → Lacks key (list_of armed c)
  lacks_armed c below =
      let one = f.one in
      let c_is : 0 ≡ c = omega arith in
      subst (λ c. Lacks key (list_of armed c)) c_is (vacant_lacks items.slots key (list_of armed 0) vacant f.stored)

  pub lacks_bucket : (c : ℕ) → c < buckets.number → Lacks key (list_of buckets c)
  lacks_bucket c below =
      let many = f.many in
      subst (Lacks key) (sym (f.chained c below)) (lacks_filter (is_in bucket_of items.slots c) key (list_of armed 0) (vacant_lacks items.slots key (list_of armed 0) vacant f.stored))

  pub lacks_name : (c : ℕ) → c < names.number → Lacks key (list_of names c)
  lacks_name c below =
      subst (Lacks key) (sym (f.named c below)) (lacks_filter (is_in (name_of mask) items.slots c) key (list_of armed 0) (vacant_lacks items.slots key (list_of armed 0) vacant f.stored))

  pub filed_is : (armed_now : KeyTable) → list_of armed_now 0 ≡ list_of armed 0 ++ key ∷ []
      → filed_at new.slots (list_of armed_now 0) ≡ filed_at items.slots (list_of armed 0) ++ (key, item) ∷ []
  filed_is armed_now pushed =
      ap (filed_at new.slots) pushed
      ∙ filed_push items.slots new.slots key (λ k other. updates.others k other) item (list_of armed 0) (vacant_lacks items.slots key (list_of armed 0) vacant f.stored) updates.changed

  pub filed_more : (armed_now buckets_now names_now : KeyTable) (level place bucket name : ℕ) → item.level < 9 → length marks ≡ 9 → level ≡ item.level → place < 64 → bucket_of item ≡ 64 * level + place
      → bucket ≡ 64 * level + place → name ≡ name_of mask item → slab_len new ≡ slab_len items + 1 → new.capacity ≡ items.capacity
      → armed_now.number ≡ armed.number → armed_now.room ≡ armed.room → list_of armed_now 0 ≡ list_of armed 0 ++ key ∷ []
      → buckets_now.number ≡ buckets.number → buckets_now.room ≡ buckets.room → list_of buckets_now bucket ≡ list_of buckets bucket ++ key ∷ []
      → ((c : ℕ) → c < buckets.number → (c ≡ bucket → ⊥) → list_of buckets_now c ≡ list_of buckets c)
      → names_now.number ≡ names.number → names_now.room ≡ names.room → list_of names_now name ≡ list_of names name ++ key ∷ []
      → ((c : ℕ) → c < names.number → (c ≡ name → ⊥) → list_of names_now c ≡ list_of names c)
      → IsFiled new armed_now buckets_now names_now mask (slice_set marks level (bit_or (slice_index_or marks level 0) (1 * 2 ^ place % 2 ^ 64)))
  filed_more armed_now buckets_now names_now level place bucket name level_in nine level_is place_in is bucket_is name_is len capacity a_number a_room a_pushed b_number b_room b_pushed b_others
      n_number n_room n_pushed n_others =
      let keys = list_of armed 0 in
      let lacks = vacant_lacks items.slots key keys vacant f.stored in
      let others : (k : ℕ) → (k ≡ key → ⊥) → slice_index_or new.slots k None ≡ slice_index_or items.slots k None = λ k other. updates.others k other in
      let one = f.one in
      let many = f.many in
      let masked = f.masked in
      let counted = f.counted in
      let armed_room = f.armed_room in
      let bucket_room = f.bucket_room in
      let name_room = f.name_room in
      record {
        one = a_number ∙ one;
        many = b_number ∙ many;
        masked = omega arith;
        stored = subst (AreStored new.slots) (sym a_pushed) (stored_push items.slots new.slots key others item keys lacks f.stored updates.changed level_in);
        counted = let longer = ap (length {A = ℕ}) a_pushed ∙ length-append keys (key ∷ []) in omega arith;
        chained = classed_more bucket_of items.slots new.slots key bucket item keys (list_of armed_now 0) buckets buckets_now others lacks updates.changed f.chained a_pushed b_number (omega arith) b_pushed b_others;
        named = classed_more (name_of mask) items.slots new.slots key name item keys (list_of armed_now 0) names names_now others lacks updates.changed f.named a_pushed n_number (sym name_is) n_pushed n_others;
        marked = λ l p l_in p_in.
            marks_push marks level place (filed_at items.slots keys) (key, item) nine (omega arith) place_in is f.marked l p l_in p_in
            ∙ ap (λ r. bucket_mark (in_bucket (64 * l + p) r)) (sym (filed_is armed_now a_pushed));
        armed_room = omega arith;
        bucket_room = omega arith;
        name_room = omega arith;
      }

-- AN EMPTY STORE
abbrev pub no_marks : List ℕ
no_marks = 0 ∷ 0 ∷ 0 ∷ 0 ∷ 0 ∷ 0 ∷ 0 ∷ 0 ∷ 0 ∷ []

zeros : (l : ℕ) → l < 9 → slice_index_or no_marks l 0 ≡ 0
zeros l below = let zero_mark : ℕ = 0 in get_or-replicate 9 l zero_mark zero_mark below

pub empty_filed : (items : Slab Item) (armed buckets names : KeyTable) (mask : ℕ) → items.slots ≡ [] → armed.number ≡ 1 → buckets.number ≡ 576 → names.number ≡ mask + 1
    → list_of armed 0 ≡ [] → ((c : ℕ) → c < 576 → list_of buckets c ≡ []) → ((c : ℕ) → c < mask + 1 → list_of names c ≡ [])
    → items.capacity ≤ armed.room → items.capacity ≤ buckets.room → items.capacity ≤ names.room
    → IsFiled items armed buckets names mask no_marks
empty_filed items armed buckets names mask slots one many named empty b_empty n_empty a_room b_room n_room = record {
  one = one;
  many = many;
  masked = omega arith;
  stored = subst (AreStored items.slots) (sym empty) tt;
  counted = let none = ap (count_by is_some) slots in let no_keys = ap (length {A = ℕ}) empty in omega arith;
  chained = λ c below. b_empty c (omega arith) ∙ ap (filter (is_in bucket_of items.slots c)) (sym empty);
  named = λ c below. n_empty c (omega arith) ∙ ap (filter (is_in (name_of mask) items.slots c)) (sym empty);
  marked = λ l p l_in p_in. ap (λ w. bit_at w p) (zeros l l_in) ∙ (bit_at-zero p ∙ ap (λ keys. bucket_mark (in_bucket (64 * l + p) (filed_at items.slots keys))) (sym empty));
  armed_room = a_room;
  bucket_room = b_room;
  name_room = n_room;
}

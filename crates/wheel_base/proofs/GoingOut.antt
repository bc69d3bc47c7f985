-- what goes out of the entries of a wheel expiry
use Rattle.std.proofs.Common.{◌≡◌, ℕ, ◌+◌, ◌*◌, ◌/◌, ◌%◌, ◌^◌, ◌<◌, ◌≤◌, Bool, true, false, List, [], ◌∷◌, Option, Some, None, refl, ap, ◌∙◌, sym, subst, inl, inr, leb, arith}
use Rattle.std.specs.Prelude.{◌==◌, ◌&&◌, unwrap_or, MatchOption, is_some, IfSome}
use Rattle.std.specs.List.{filter}
use Rattle.std.proofs.lemmas.Bool.{cases_Bool, both_ways, eq-eqb, eqb-true, cond-true, cond-false, and_parts, and_from, le-leb, lt-leb}
use Rattle.std.proofs.lemmas.Option.{none-some, same_Some}
use Rattle.wheel_core.specs.declared.item.Item.{Item}
use Rattle.wheel_core.specs.WheelExpiry.{granularity}
use Rattle.wheel_core.specs.PlainBase.{first_out, highest, last_armed, least, out_at, sooner}
use Rattle.wheel_base.specs.Files.{Entry, IsStored, bucket_of, in_bucket, item_under, items_of, last_entry, place_at}
use Rattle.wheel_base.specs.Marks.{Among, AreNear}
use Rattle.wheel_base.specs.Outs.{IsNextOut, IsOutOf, NoneAt, at_level}
use Rattle.wheel_base.proofs.Granules.{one_expiry, by_shifts}
use Rattle.wheel_base.proofs.Marked.{least_among, least_under}

same_test : (p q : Bool) → (p ≡ true → q ≡ true) → (q ≡ true → p ≡ true) → p ≡ q
same_test p q there back =
    elim (cases_Bool p) [
      | inl passes ↦ passes ∙ sym (there passes)
      | inr fails ↦ elim (cases_Bool q) [ inl passes ↦ absurd (both_ways p fails (back passes)) | inr other ↦ fails ∙ sym other ]
    ]

filter_same : (p q : Entry → Bool) (filed : List Entry) → ((e : Entry) → Among e filed → p e ≡ q e) → filter p filed ≡ filter q filed
filter_same p q [] same = refl
filter_same p q (first ∷ filed) same =
    let rest = filter_same p q filed (λ e among. same e (inr among)) in
    let here = same first (inl refl) in
    elim (cases_Bool (p first)) [
      | inl kept ↦
          cond-true (p first) (first ∷ filter p filed) (filter p filed) kept
          ∙ (ap (λ (r : List Entry). first ∷ r) rest ∙ sym (cond-true (q first) (first ∷ filter q filed) (filter q filed) (sym here ∙ kept)))
      | inr left ↦
          cond-false (p first) (first ∷ filter p filed) (filter p filed) left
          ∙ (rest ∙ sym (cond-false (q first) (first ∷ filter q filed) (filter q filed) (sym here ∙ left)))
    ]

-- a bucket has the entries of one level and one wheel expiry
pub bucket_is_level : (level wheel : ℕ) (filed : List Entry) → level < 9 → wheel % granularity level ≡ 0 → AreNear wheel filed
    → in_bucket (64 * level + place_at level wheel) filed ≡ at_level level wheel filed
bucket_is_level level wheel filed level_in granule near =
    filter_same (λ e. bucket_of e.1 == (64 * level + place_at level wheel)) (λ e. (e.1.wheel == wheel) && (e.1.level == level)) filed
    (λ e among.
    let at = near e among in
    same_test (bucket_of e.1 == (64 * level + place_at level wheel)) ((e.1.wheel == wheel) && (e.1.level == level))
    (λ here.
    let bucket = eqb-true (bucket_of e.1) (64 * level + place_at level wheel) here in
    let level_is : e.1.level ≡ level = omega arith in
    let place : place_at level e.1.wheel ≡ place_at level wheel = ap (λ l. place_at l e.1.wheel) (sym level_is) ∙ omega arith in
    let its = subst (λ l. e.1.wheel % granularity l ≡ 0) level_is at.granule in
    let upper = subst (λ l. e.1.wheel < wheel + 64 * granularity l) level_is at.near in
    let low = at.from in
    let same = one_expiry level wheel e.1.wheel wheel level_in its granule at.from (omega arith) upper (omega arith) place in
    and_from (e.1.wheel == wheel) (e.1.level == level) (eq-eqb e.1.wheel wheel same) (eq-eqb e.1.level level level_is))
    (λ both.
    let parts = and_parts (e.1.wheel == wheel) (e.1.level == level) both in
    let wheel_is = eqb-true e.1.wheel wheel parts.0 in
    let level_is = eqb-true e.1.level level parts.1 in
    let bucket : bucket_of e.1 ≡ 64 * level + place_at level wheel = λ i. 64 * level_is i + place_at (level_is i) (wheel_is i) in
    eq-eqb (bucket_of e.1) (64 * level + place_at level wheel) bucket))

none_of_level : (level wheel : ℕ) (filed : List Entry) → ((e : Entry) → Among e filed → e.1.wheel ≡ wheel → e.1.level ≡ level → ⊥) → at_level level wheel filed ≡ []
none_of_level level wheel [] none = refl
none_of_level level wheel (first ∷ filed) none =
    elim (cases_Bool ((first.1.wheel == wheel) && (first.1.level == level))) [
      | inl kept ↦
          let parts = and_parts (first.1.wheel == wheel) (first.1.level == level) kept in
          absurd (none first (inl refl) (eqb-true first.1.wheel wheel parts.0) (eqb-true first.1.level level parts.1))
      | inr left ↦
          cond-false ((first.1.wheel == wheel) && (first.1.level == level)) (first ∷ at_level level wheel filed) (at_level level wheel filed) left
          ∙ none_of_level level wheel filed (λ e among. none e (inr among))
    ]

pub no_granule : (level wheel : ℕ) (filed : List Entry) → level < 9 → wheel < 2 ^ 64 → AreNear wheel filed
    → (wheel / 2 ^ (3 * level) * 2 ^ (3 * level) % 2 ^ 64 ≡ wheel → ⊥) → None ≡ last_entry (at_level level wheel filed)
no_granule level wheel filed level_in fits near none =
    ap last_entry (sym (none_of_level level wheel filed (λ e among wheel_is level_is.
    let granule = (near e among).granule in
    none (by_shifts level wheel level_in fits ((λ i. sym wheel_is i % granularity (sym level_is i)) ∙ granule)))))

-- THE HIGHEST LEVEL

highest_at_most : (wheel level : ℕ) (filed : List Entry) → ((e : Entry) → Among e filed → e.1.wheel ≡ wheel → e.1.level ≤ level)
    → highest (filter (λ item. item.wheel == wheel) (items_of filed)) ≤ level
highest_at_most wheel level [] under = omega arith
highest_at_most wheel level (first ∷ filed) under =
    let rest = highest_at_most wheel level filed (λ e among. under e (inr among)) in
    elim (cases_Bool (first.1.wheel == wheel)) [
      | inl kept ↦
          let is = ap highest (cond-true (first.1.wheel == wheel) (first.1 ∷ filter (λ item. item.wheel == wheel) (items_of filed)) (filter (λ item. item.wheel == wheel) (items_of filed)) kept) in
          let here = under first (inl refl) (eqb-true first.1.wheel wheel kept) in omega arith
      | inr left ↦
          let is = ap highest (cond-false (first.1.wheel == wheel) (first.1 ∷ filter (λ item. item.wheel == wheel) (items_of filed)) (filter (λ item. item.wheel == wheel) (items_of filed)) left) in
          omega arith
    ]

highest_at_least : (wheel : ℕ) (e : Entry) (filed : List Entry) → Among e filed → e.1.wheel ≡ wheel
    → e.1.level ≤ highest (filter (λ item. item.wheel == wheel) (items_of filed))
highest_at_least wheel e [] among is = absurd among
highest_at_least wheel e (first ∷ filed) among wheel_is =
    elim (cases_Bool (first.1.wheel == wheel)) [
      | inl kept ↦
          let is = ap highest (cond-true (first.1.wheel == wheel) (first.1 ∷ filter (λ item. item.wheel == wheel) (items_of filed)) (filter (λ item. item.wheel == wheel) (items_of filed)) kept) in
          elim among [
            | inl here ↦ let same = ap (λ (x : Entry). x.1.level) here in omega arith
            | inr later ↦ let rest = highest_at_least wheel e filed later wheel_is in omega arith
          ]
      | inr left ↦
          let is = ap highest (cond-false (first.1.wheel == wheel) (first.1 ∷ filter (λ item. item.wheel == wheel) (items_of filed)) (filter (λ item. item.wheel == wheel) (items_of filed)) left) in
          elim among [
            | inl here ↦ absurd (both_ways (first.1.wheel == wheel) left (eq-eqb first.1.wheel wheel (ap (λ (x : Entry). x.1.wheel) here ∙ wheel_is)))
            | inr later ↦ let rest = highest_at_least wheel e filed later wheel_is in omega arith
          ]
    ]

-- one filter after the other
level_items : (level wheel : ℕ) (filed : List Entry)
    → filter (λ item. item.level == level) (filter (λ item. item.wheel == wheel) (items_of filed)) ≡ items_of (at_level level wheel filed)
level_items level wheel [] = refl
level_items level wheel (first ∷ filed) =
    let rest = level_items level wheel filed in
    let at : List Item = filter (λ item. item.wheel == wheel) (items_of filed) in
    let p : Item → Bool = λ item. item.level == level in
    elim (cases_Bool (first.1.wheel == wheel)) [
      | inl here ↦
          ap (filter p) (cond-true (first.1.wheel == wheel) (first.1 ∷ at) at here)
          ∙ elim (cases_Bool (first.1.level == level)) [
            | inl kept ↦
                cond-true (first.1.level == level) (first.1 ∷ filter p at) (filter p at) kept
                ∙ (ap (λ (r : List Item). first.1 ∷ r) rest
                ∙ ap items_of (sym (cond-true ((first.1.wheel == wheel) && (first.1.level == level)) (first ∷ at_level level wheel filed) (at_level level wheel filed) (and_from _ _ here kept))))
            | inr left ↦
                cond-false (first.1.level == level) (first.1 ∷ filter p at) (filter p at) left
                ∙ (rest ∙ ap items_of (sym (cond-false ((first.1.wheel == wheel) && (first.1.level == level)) (first ∷ at_level level wheel filed) (at_level level wheel filed)
                (ap (λ b. b && (first.1.level == level)) here ∙ left))))
          ]
      | inr other ↦
          ap (filter p) (cond-false (first.1.wheel == wheel) (first.1 ∷ at) at other)
          ∙ (rest ∙ ap items_of (sym (cond-false ((first.1.wheel == wheel) && (first.1.level == level)) (first ∷ at_level level wheel filed) (at_level level wheel filed)
          (ap (λ b. b && (first.1.level == level)) other))))
    ]

last_items_or : (e : Entry) (filed : List Entry) → unwrap_or (last_armed (items_of filed)) e.1 ≡ (unwrap_or (last_entry filed) e).1
last_items_or e [] = refl
last_items_or e (next ∷ filed) = last_items_or next filed

last_items : (filed : List Entry) (e : Entry) → last_entry filed ≡ Some e → last_armed (items_of filed) ≡ Some e.1
last_items [] e is = absurd (none-some e is)
last_items (first ∷ filed) e is = ap Some (last_items_or first filed ∙ ap (λ (x : Entry). x.1) (same_Some (unwrap_or (last_entry filed) first) e is))

last_among : (filed : List Entry) (e : Entry) → last_entry filed ≡ Some e → Among e filed
last_among [] e is = absurd (none-some e is)
last_among (first ∷ []) e is = inl (same_Some first e is)
last_among (first ∷ next ∷ filed) e is = inr (last_among (next ∷ filed) e is)

filter_among : (p : Entry → Bool) (e : Entry) (filed : List Entry) → Among e (filter p filed) → Among e filed × (p e ≡ true)
filter_among p e [] among = absurd among
filter_among p e (first ∷ filed) among =
    elim (cases_Bool (p first)) [
      | inl kept ↦
          let inside : Among e (first ∷ filter p filed) = subst (Among e) (cond-true (p first) (first ∷ filter p filed) (filter p filed) kept) among in
          elim inside [ inl here ↦ (inl here, ap p (sym here) ∙ kept) | inr later ↦ let rest = filter_among p e filed later in (inr rest.0, rest.1) ]
      | inr left ↦ let rest = filter_among p e filed (subst (Among e) (cond-false (p first) (first ∷ filter p filed) (filter p filed) left) among) in (inr rest.0, rest.1)
    ]

pub level_goes_out : (level wheel : ℕ) (filed : List Entry) (e : Entry) → last_entry (at_level level wheel filed) ≡ Some e
    → ((other : Entry) → Among other filed → other.1.wheel ≡ wheel → other.1.level ≤ level) → first_out wheel (items_of filed) ≡ Some e.1
unfolding first_out
level_goes_out level wheel filed e last over =
    let inside = filter_among (λ e. (e.1.wheel == wheel) && (e.1.level == level)) e filed (last_among (at_level level wheel filed) e last) in
    let parts = and_parts (e.1.wheel == wheel) (e.1.level == level) inside.1 in
    let wheel_is = eqb-true e.1.wheel wheel parts.0 in
    let level_is = eqb-true e.1.level level parts.1 in
    let least_level = highest_at_least wheel e filed inside.0 wheel_is in
    let most = highest_at_most wheel level filed over in
    let top : highest (filter (λ item. item.wheel == wheel) (items_of filed)) ≡ level = omega arith in
    ap (λ l. last_armed (filter (λ item. item.level == l) (filter (λ item. item.wheel == wheel) (items_of filed)))) top
    ∙ (ap last_armed (level_items level wheel filed) ∙ last_items (at_level level wheel filed) e last)

pub one_lower : (level wheel : ℕ) (filed : List Entry) → None ≡ last_entry (at_level level wheel filed) → (e : Entry) → Among e filed → e.1.wheel ≡ wheel → e.1.level ≡ level → ⊥
one_lower level wheel filed none e among wheel_is level_is = no_last (at_level level wheel filed) e (sym none) (among_filter filed among)
  where
    no_last : (filed : List Entry) (e : Entry) → last_entry filed ≡ None → Among e filed → ⊥
    no_last [] e none among = among
    no_last (first ∷ filed) e none among = none-some (unwrap_or (last_entry filed) first) (sym none)

    passes : ((e.1.wheel == wheel) && (e.1.level == level)) ≡ true
    passes = and_from (e.1.wheel == wheel) (e.1.level == level) (eq-eqb e.1.wheel wheel wheel_is) (eq-eqb e.1.level level level_is)

    among_filter : (filed : List Entry) → Among e filed → Among e (at_level level wheel filed)
    among_filter [] among = among
    among_filter (first ∷ filed) (inl here) =
        subst (Among e) (sym (cond-true ((first.1.wheel == wheel) && (first.1.level == level)) (first ∷ at_level level wheel filed) (at_level level wheel filed)
        (ap (λ (x : Entry). (x.1.wheel == wheel) && (x.1.level == level)) here ∙ passes))) (inl here)
    among_filter (first ∷ filed) (inr later) =
        elim (cases_Bool ((first.1.wheel == wheel) && (first.1.level == level))) [
          | inl kept ↦ subst (Among e) (sym (cond-true ((first.1.wheel == wheel) && (first.1.level == level)) (first ∷ at_level level wheel filed) (at_level level wheel filed) kept)) (inr (among_filter filed later))
          | inr left ↦ subst (Among e) (sym (cond-false ((first.1.wheel == wheel) && (first.1.level == level)) (first ∷ at_level level wheel filed) (at_level level wheel filed) left)) (among_filter filed later)
        ]

-- from the least wheel expiry on
pub near_least : (clock wheel : ℕ) (filed : List Entry) → least (items_of filed) ≡ Some wheel → AreNear (sooner clock (Some wheel)) filed → AreNear wheel filed
near_least clock wheel filed is near e among =
    let at = near e among in
    let under = least_under filed wheel e is among in
    let upper = at.near in
    record { level = at.level; granule = at.granule; from = under; near = omega arith }

pub some_goes_out : (level wheel : ℕ) (filed : List Entry) (found : Option Entry) → is_some found ≡ true → found ≡ last_entry (at_level level wheel filed)
    → IfSome found (λ e. IsStored filed e) → ((other : Entry) → Among other filed → other.1.wheel ≡ wheel → other.1.level ≤ level)
    → MatchOption found (NoneAt wheel filed) (IsOutOf wheel filed)
some_goes_out level wheel filed None some last stored over = let bad : ⊥ = cc in absurd bad
some_goes_out level wheel filed (Some e) some last stored over =
    let inside = filter_among (λ e. (e.1.wheel == wheel) && (e.1.level == level)) e filed (last_among (at_level level wheel filed) e (sym last)) in
    record {
      out = level_goes_out level wheel filed e (sym last) over;
      stored = stored;
      wheel_is = eqb-true e.1.wheel wheel (and_parts (e.1.wheel == wheel) (e.1.level == level) inside.1).0;
    }

pub none_lower : (level wheel : ℕ) (filed : List Entry) (found : Option Entry) → is_some found ≡ false → found ≡ last_entry (at_level level wheel filed)
    → (e : Entry) → Among e filed → e.1.wheel ≡ wheel → e.1.level ≡ level → ⊥
none_lower level wheel filed None none last = one_lower level wheel filed last
none_lower level wheel filed (Some e) none last = let bad : ⊥ = cc in absurd bad

pub next_none : (now wheel : ℕ) (filed : List Entry) → least (items_of filed) ≡ Some wheel → now < wheel → out_at now (least (items_of filed)) (items_of filed) ≡ None
next_none now wheel filed first early =
    ap (λ first. out_at now first (items_of filed)) first ∙ cond-false (leb wheel now) (first_out wheel (items_of filed)) None (lt-leb wheel now early)

pub next_out_of : (now wheel : ℕ) (filed : List Entry) (found : Option Entry) → least (items_of filed) ≡ Some wheel → wheel ≤ now
    → MatchOption found (NoneAt wheel filed) (IsOutOf wheel filed)
    → MatchOption found (out_at now (least (items_of filed)) (items_of filed) ≡ None) (IsNextOut now filed)
next_out_of now wheel filed None first due out = let e = least_among filed wheel first in absurd (out e.0 e.1 e.2)
next_out_of now wheel filed (Some e) first due out = record {
  out = ap (λ first. out_at now first (items_of filed)) first ∙ (cond-true (leb wheel now) (first_out wheel (items_of filed)) None (le-leb wheel now due) ∙ out.out);
  stored = out.stored;
  first = first ∙ ap Some (sym out.wheel_is);
}

-- the item that was taken is the one that goes out
pub taken_out : (now key : ℕ) (next item : Item) (filed : List Entry) → IsNextOut now filed (key, next) → Some item ≡ item_under key filed
    → IsNextOut now filed (key, item)
taken_out now key next item filed out taken =
    let same = same_Some item next (taken ∙ out.stored.under) in
    subst (λ (x : Item). IsNextOut now filed (key, x)) (sym same) out

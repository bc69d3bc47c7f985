-- marks and the entries that they show
use Rattle.std.proofs.Common.{◌≡◌, ℕ, ◌+◌, ◌-◌, ◌*◌, ◌/◌, ◌%◌, ◌^◌, ◌<◌, ◌≤◌, min, List, [], ◌∷◌, Option, Some, None, refl, ap, ◌∙◌, sym, subst, inl, inr, arith, w64}
use Rattle.std.specs.Prelude.{◌==◌, bit_and}
use Rattle.std.specs.Int.{bit_at, trailing_zeros}
use Rattle.std.proofs.lemmas.Bool.{cases_lt, cases_eq, cases_Bool, eq-eqb, eqb-true, cond-true, cond-false}
use Rattle.std.proofs.lemmas.Option.{none-some, same_Some}
use Rattle.std.proofs.lemmas.Nat.{shr-shr, shr_le, and_mask}
use Rattle.std.proofs.lemmas.Nat.Bits.{bit_at-trailing_zeros, bit_at-zero, bit_at_above}
use Rattle.wheel_core.specs.WheelExpiry.{granularity}
use Rattle.wheel_core.specs.PlainBase.{least, sooner}
use Rattle.wheel_base.specs.Files.{Entry, bucket_of, in_bucket, items_of, bucket_mark, place_at}
use Rattle.wheel_base.specs.Marks.{Among, AreNear, IsNextMark, IsLeastBelow, LeastBelow}
use Rattle.wheel_base.proofs.Granules.{end_at, one_expiry, spans, start_of, steps}

-- THE NEXT MARK
shifted : (word from i : ℕ) → bit_at (word / 2 ^ from) i ≡ bit_at word (from + i)
shifted word from i = ap (λ q. q % 2) (shr-shr word from i)

-- the next mark stands so many places further
pub record NextMark (word from on : ℕ) : Type 0 where
  pub below : on < 64
  pub marked : bit_at word ((from + on) % 64) ≡ 1
  pub first : (i : ℕ) → i < on → bit_at word ((from + i) % 64) ≡ 0

pub mark_above : (word from : ℕ) → word < 2 ^ 64 → from < 64 → 0 < word / 2 ^ from → NextMark word from (trailing_zeros w64 (word / 2 ^ from))
mark_above word from fits within some =
    let high = word / 2 ^ from in
    let found = bit_at-trailing_zeros w64 high some (omega (arith, shr_le word from)) in
    let on = trailing_zeros w64 high in
    let here : bit_at word (from + on) ≡ 1 = sym (shifted word from on) ∙ found.1 in
    let inside : from + on < 64 = elim (cases_lt (from + on) 64) [
      | inl below ↦ below
      | inr above ↦ let none = bit_at_above word 64 (from + on) fits above in absurd (omega (arith, none, here))
    ] in
    let at : (i : ℕ) → i ≤ on → (from + i) % 64 ≡ from + i = λ i l. omega arith in
    record {
      below = omega arith;
      marked = ap (bit_at word) (at on (omega arith)) ∙ here;
      first = λ i l. ap (bit_at word) (at i (omega arith)) ∙ (sym (shifted word from i) ∙ found.2 i l);
    }

pub mark_below : (word from : ℕ) → word < 2 ^ 64 → from < 64 → 0 < word → word / 2 ^ from ≡ 0 → NextMark word from (64 - from + trailing_zeros w64 word)
mark_below word from fits within some none =
    let found = bit_at-trailing_zeros w64 word some fits in
    let low = trailing_zeros w64 word in
    let above : (i : ℕ) → bit_at word (from + i) ≡ 0 = λ i. sym (shifted word from i) ∙ (ap (λ h. bit_at h i) none ∙ bit_at-zero i) in
    let inside : low < from = elim (cases_lt low from) [
      | inl below ↦ below
      | inr past ↦
          let where_is : from + (low - from) ≡ low = omega arith in
          let zero_there = above (low - from) in
          let read = ap (bit_at word) where_is in absurd (omega (arith, zero_there, read, found.1))
    ] in
    let on = 64 - from + low in
    let at : (from + on) % 64 ≡ low = omega arith in
    record {
      below = omega arith;
      marked = ap (bit_at word) at ∙ found.1;
      first = λ i l. elim (cases_lt (from + i) 64) [
        | inl short ↦ let same : (from + i) % 64 ≡ from + i = omega arith in ap (bit_at word) same ∙ above i
        | inr round ↦ let same : (from + i) % 64 ≡ from + i - 64 = omega arith in ap (bit_at word) same ∙ found.2 (from + i - 64) (omega arith)
      ];
    }

-- ENTRIES AND MARKS
pub marked_if : (bucket : ℕ) (e : Entry) (filed : List Entry) → Among e filed → bucket_of e.1 ≡ bucket → bucket_mark (in_bucket bucket filed) ≡ 1
marked_if bucket e [] among is = absurd among
marked_if bucket e (first ∷ filed) among is =
    elim (cases_Bool (bucket_of first.1 == bucket)) [
      | inl here ↦ ap bucket_mark (cond-true (bucket_of first.1 == bucket) (first ∷ in_bucket bucket filed) (in_bucket bucket filed) here)
      | inr other ↦
          ap bucket_mark (cond-false (bucket_of first.1 == bucket) (first ∷ in_bucket bucket filed) (in_bucket bucket filed) other)
          ∙ marked_if bucket e filed (elim among [
            | inl same ↦ let wrong = sym other ∙ eq-eqb (bucket_of first.1) bucket (ap (λ (x : Entry). bucket_of x.1) same ∙ is) in absurd (let bad : ⊥ = cc in bad)
            | inr later ↦ later
          ]) is
    ]

pub record MarkedBy (bucket : ℕ) (filed : List Entry) : Type 0 where
  pub entry : Entry
  pub among : Among entry filed
  pub bucket_is : bucket_of entry.1 ≡ bucket

pub marked_by : (bucket : ℕ) (filed : List Entry) → bucket_mark (in_bucket bucket filed) ≡ 1 → MarkedBy bucket filed
marked_by bucket [] marked = absurd (omega arith)
marked_by bucket (first ∷ filed) marked =
    elim (cases_Bool (bucket_of first.1 == bucket)) [
      | inl here ↦ record { entry = first; among = inl refl; bucket_is = eqb-true (bucket_of first.1) bucket here }
      | inr other ↦
          let rest = marked_by bucket filed (sym (ap bucket_mark (cond-false (bucket_of first.1 == bucket) (first ∷ in_bucket bucket filed) (in_bucket bucket filed) other)) ∙ marked) in
          record { entry = rest.entry; among = inr rest.among; bucket_is = rest.bucket_is }
    ]

-- a marked bucket has an entry of its level, and where all lie within 64 granules, of its expiry
pub bucket_entry : (level time wheel : ℕ) (filed : List Entry) → level < 9 → AreNear time filed → wheel % granularity level ≡ 0 → time ≤ wheel
    → wheel < time + 64 * granularity level → bucket_mark (in_bucket (64 * level + place_at level wheel) filed) ≡ 1
    → (e : Entry) × Among e filed × (e.1.level ≡ level) × (e.1.wheel ≡ wheel)
bucket_entry level time wheel filed level_in near granule_is from upper_is marked =
    let by = marked_by (64 * level + place_at level wheel) filed marked in
    let e = by.entry in
    let bucket = by.bucket_is in
    let level_is : e.1.level ≡ level = omega arith in
    let at = near e by.among in
    let place : place_at level e.1.wheel ≡ place_at level wheel = ap (λ l. place_at l e.1.wheel) (sym level_is) ∙ omega arith in
    let granule = subst (λ l. e.1.wheel % granularity l ≡ 0) level_is at.granule in
    let upper = subst (λ l. e.1.wheel < time + 64 * granularity l) level_is at.near in
    (e, by.among, level_is, one_expiry level time e.1.wheel wheel level_in granule granule_is at.from from upper upper_is place)

-- ONE LEVEL MORE
module _ (level time : ℕ) (filed : List Entry) (word : ℕ) (level_in : level < 9) (near : AreNear time filed)
    (marks : (place : ℕ) → place < 64 → bit_at word place ≡ bucket_mark (in_bucket (64 * level + place) filed)) where
  -- an entry of the level marks its place
  entry_marks : (e : Entry) → Among e filed → e.1.level ≡ level → bit_at word (place_at level e.1.wheel) ≡ 1
  entry_marks e among is =
      let at = ap (λ l. place_at l e.1.wheel) is in
      let below : place_at level e.1.wheel < 64 = omega arith in
      marks (place_at level e.1.wheel) below ∙ marked_if (64 * level + place_at level e.1.wheel) e filed among (omega arith)

  pub none_more : (best : Option ℕ) → word ≡ 0 → IsLeastBelow level filed best → IsLeastBelow (level + 1) filed best
  none_more best empty known =
      let other : (e : Entry) → Among e filed → e.1.level ≡ level → ⊥ = λ e among is.
      let marked = entry_marks e among is in
      let unmarked = ap (λ w. bit_at w (place_at level e.1.wheel)) empty ∙ bit_at-zero (place_at level e.1.wheel) in omega (arith, marked, unmarked) in
      by_cases best known other
    where
      by_cases : (best : Option ℕ) → IsLeastBelow level filed best → ((e : Entry) → Among e filed → e.1.level ≡ level → ⊥) → IsLeastBelow (level + 1) filed best
      by_cases None known other = λ e among. let at_least = known e among in let apart = other e among in
          elim (cases_eq e.1.level level) [ inl same ↦ absurd (apart same) | inr more ↦ omega arith ]
      by_cases (Some wheel) known other = record {
        entry = known.entry;
        among = known.among;
        below = let below = known.below in omega arith;
        wheel_is = known.wheel_is;
        least = λ e among below. elim (cases_eq e.1.level level) [ inl same ↦ absurd (other e among same) | inr less ↦ known.least e among (omega arith) ];
      }

  -- the entry of the level's next mark
  pub marked_entry : (wheel : ℕ) → IsNextMark word level time wheel
      → (e : Entry) × Among e filed × (e.1.level ≡ level) × (e.1.wheel ≡ wheel)
  marked_entry wheel next =
      let place_in : place_at level wheel < 64 = omega arith in
      bucket_entry level time wheel filed level_in near next.granule next.from next.near (sym (marks (place_at level wheel) place_in) ∙ next.marked)

  pub some_more : (best : Option ℕ) (wheel : ℕ) → IsNextMark word level time wheel → IsLeastBelow level filed best → LeastBelow (level + 1) filed (sooner wheel best)
  some_more best wheel next known = by_cases best known (marked_entry wheel next) level_least
    where
      level_least : (e : Entry) → Among e filed → e.1.level ≡ level → wheel ≤ e.1.wheel
      level_least e among is = elim (cases_lt e.1.wheel wheel) [
        | inl less ↦
            let at = near e among in
            let granule = subst (λ l. e.1.wheel % granularity l ≡ 0) is at.granule in
            let unmarked = next.first e.1.wheel granule at.from less in
            let marked = entry_marks e among is in absurd (omega (arith, marked, unmarked))
        | inr least ↦ least
      ]

      by_cases : (best : Option ℕ) → IsLeastBelow level filed best → (e : Entry) × Among e filed × (e.1.level ≡ level) × (e.1.wheel ≡ wheel)
          → ((e : Entry) → Among e filed → e.1.level ≡ level → wheel ≤ e.1.wheel) → LeastBelow (level + 1) filed (sooner wheel best)
      by_cases None known at least_here = record {
        entry = at.0;
        among = at.1;
        below = let is = at.2 in omega arith;
        wheel_is = at.3;
        least = λ e among below. let at_least = known e among in least_here e among (omega arith);
      }
      by_cases (Some other) known at least_here =
          let least_now : (e : Entry) → Among e filed → e.1.level < level + 1 → min wheel other ≤ e.1.wheel = λ e among below.
          elim (cases_eq e.1.level level) [
            | inl same ↦ let l = least_here e among same in omega arith
            | inr less ↦ let l = known.least e among (omega arith) in omega arith
          ] in
          elim (cases_lt wheel other) [
            | inl first ↦ record { entry = at.0; among = at.1; below = let is = at.2 in omega arith; wheel_is = let is = at.3 in omega arith; least = least_now }
            | inr second ↦ record {
              entry = known.entry;
              among = known.among;
              below = let below = known.below in omega arith;
              wheel_is = let is = known.wheel_is in omega arith;
              least = least_now;
            }
          ]

-- ALL LEVELS
sooner_among : (first : Entry) (filed : List Entry) (rest : Option ℕ) (wheel : ℕ) → Some (sooner first.1.wheel rest) ≡ Some wheel
    → ((other : ℕ) → rest ≡ Some other → (e : Entry) × Among e filed × (e.1.wheel ≡ other))
    → (e : Entry) × Among e (first ∷ filed) × (e.1.wheel ≡ wheel)
sooner_among first filed None wheel is later = (first, inl refl, same_Some first.1.wheel wheel is)
sooner_among first filed (Some other) wheel is later =
    let same = same_Some (min first.1.wheel other) wheel is in
    elim (cases_lt first.1.wheel other) [
      | inl less ↦ (first, inl refl, omega arith)
      | inr more ↦ let e = later other refl in (e.0, inr e.1, let at = e.2 in omega arith)
    ]

pub least_among : (filed : List Entry) (wheel : ℕ) → least (items_of filed) ≡ Some wheel → (e : Entry) × Among e filed × (e.1.wheel ≡ wheel)
least_among [] wheel is = absurd (none-some wheel is)
least_among (first ∷ filed) wheel is = sooner_among first filed (least (items_of filed)) wheel is (λ other h. least_among filed other h)

sooner_under : (first : Entry) (rest : Option ℕ) (wheel : ℕ) (e : Entry) → Some (sooner first.1.wheel rest) ≡ Some wheel
    → ((other : ℕ) → rest ≡ Some other → other ≤ e.1.wheel) → (rest ≡ None → ⊥) → wheel ≤ e.1.wheel
sooner_under first None wheel e is later some = absurd (some refl)
sooner_under first (Some other) wheel e is later some =
    let same = same_Some (min first.1.wheel other) wheel is in let l = later other refl in omega arith

sooner_first : (first : Entry) (rest : Option ℕ) (wheel : ℕ) → Some (sooner first.1.wheel rest) ≡ Some wheel → wheel ≤ first.1.wheel
sooner_first first None wheel is = let same = same_Some first.1.wheel wheel is in omega arith
sooner_first first (Some other) wheel is = let same = same_Some (min first.1.wheel other) wheel is in omega arith

pub none_least : (e : Entry) (filed : List Entry) → Among e filed → least (items_of filed) ≡ None → ⊥
none_least e [] among none = among
none_least e (first ∷ filed) among none = none-some (sooner first.1.wheel (least (items_of filed))) (sym none)

pub least_under : (filed : List Entry) (wheel : ℕ) (e : Entry) → least (items_of filed) ≡ Some wheel → Among e filed → wheel ≤ e.1.wheel
least_under [] wheel e is among = absurd among
least_under (first ∷ filed) wheel e is (inl here) = subst (λ (x : Entry). wheel ≤ x.1.wheel) here (sooner_first first (least (items_of filed)) wheel is)
least_under (first ∷ filed) wheel e is (inr later) =
    sooner_under first (least (items_of filed)) wheel e is (λ other h. least_under filed other e h later) (λ none. none_least e filed later none)

is_least : (filed : List Entry) (wheel : ℕ) (found : Option ℕ) → LeastBelow 9 filed wheel → ((e : Entry) → Among e filed → e.1.level < 9) → least (items_of filed) ≡ found → Some wheel ≡ least (items_of filed)
is_least [] wheel found known levels is = absurd known.among
is_least (first ∷ filed) wheel None known levels is = absurd (none-some (sooner first.1.wheel (least (items_of filed))) (sym is))
is_least (first ∷ filed) wheel (Some other) known levels is =
    let e = least_among (first ∷ filed) other is in
    let over = known.least e.0 e.1 (levels e.0 e.1) in
    let under = least_under (first ∷ filed) other known.entry is known.among in
    let at = known.wheel_is in
    let at_other = e.2 in
    let same : wheel ≡ other = omega arith in ap Some same ∙ sym is

-- where the bucket of the least expiry that was has one still, that is the least that is left
pub first_stays : (level wheel : ℕ) (filed : List Entry) → level < 9 → wheel % granularity level ≡ 0 → AreNear wheel filed
    → bucket_mark (in_bucket (64 * level + place_at level wheel) filed) ≡ 1 → Some wheel ≡ least (items_of filed)
first_stays level wheel filed level_in granule near marked =
    let e = bucket_entry level wheel wheel filed level_in near granule (omega arith) (spans level wheel level_in) marked in
    by_cases (least (items_of filed)) refl e.0 e.1 e.3
  where
    by_cases : (found : Option ℕ) → least (items_of filed) ≡ found → (e : Entry) → Among e filed → e.1.wheel ≡ wheel → Some wheel ≡ found
    by_cases None is e among at = absurd (none_least e filed among is)
    by_cases (Some other) is e among at =
        let under = least_under filed other e is among in
        let first = least_among filed other is in
        let from = (near first.0 first.1).from in
        let here = first.2 in
        let same : wheel ≡ other = omega arith in ap Some same

pub all_levels : (filed : List Entry) (best : Option ℕ) → ((e : Entry) → Among e filed → e.1.level < 9) → IsLeastBelow 9 filed best → best ≡ least (items_of filed)
all_levels [] None levels known = refl
all_levels (first ∷ filed) None levels known = let at_least = known first (inl refl) in let below = levels first (inl refl) in absurd (omega arith)
all_levels filed (Some wheel) levels known = is_least filed wheel (least (items_of filed)) known levels refl

-- what the next mark of a level's word is, in time
pub next_end : (word level time on : ℕ) → level < 9 → time ≤ 2 ^ 47 → on < 64 → bit_at word ((bit_and (start_of level time) 63 + on) % 64) ≡ 1
    → ((i : ℕ) → i < on → bit_at word ((bit_and (start_of level time) 63 + i) % 64) ≡ 0) → IsNextMark word level time (end_at level time on)
next_end word level time on level_in in_time below marked first =
    let s = steps level time on level_in in_time below in
    let masked : (i : ℕ) → (start_of level time % 64 + i) % 64 ≡ (bit_and (start_of level time) 63 + i) % 64 = λ i. ap (λ start. (start + i) % 64) (sym (and_mask (start_of level time) 6)) in
    record {
      granule = s.granule;
      from = s.from;
      near = s.near;
      marked = ap (bit_at word) (s.place ∙ masked on) ∙ marked;
      first = λ v granule from earlier.
          let at = s.back v granule from earlier in
          ap (bit_at word) (at.1 ∙ masked (v / granularity level - start_of level time)) ∙ first (v / granularity level - start_of level time) at.0;
    }

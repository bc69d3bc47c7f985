-- for crates above: what goes out first of a list, also as an item comes to its end
use Rattle.std.proofs.Common.{◌≡◌, ℕ, ◌<◌, ◌≤◌, max, Bool, true, List, [], ◌∷◌, ◌++◌, Option, Some}
use Rattle.std.proofs.Common.{None, refl, ap, ◌∙◌, sym, subst, inl, inr, leb, arith}
use Rattle.std.specs.Prelude.{◌==◌, unwrap_or}
use Rattle.std.specs.List.{filter, All, Contains}
use Rattle.std.proofs.lemmas.List.Elements.{filter-append, filter_passes, All-nil, All-same}
use Rattle.std.proofs.lemmas.List.Elements.{All-cons, All-head, All-tail, All-weaker, All-filter}
use Rattle.std.proofs.lemmas.List.Elements.{All-contains, All-contains_itself, Contains-push}
use Rattle.std.proofs.lemmas.List.Elements.{Contains-append_left, Contains-append_right}
use Rattle.std.proofs.lemmas.Bool.{cases_Bool, cond-true, cond-false, both_ways, eq-eqb, ne_eqb}
use Rattle.std.proofs.lemmas.Bool.{eqb-true, eqb-false, leb-true, leb-false}
use Rattle.wheel_core.proofs.Ids.{item_queued}
use Rattle.wheel_core.proofs.Leasts.{least_none, least_below, least_attained}
use Rattle.std.proofs.lemmas.List.{append-nil}
use Rattle.std.proofs.lemmas.Option.{none-some, same_Some}
use Rattle.wheel_core.specs.declared.item.Item.{Item}
use Rattle.wheel_core.specs.PlainBase.{HasDistinctIds, NoneDue, OutIsDue, least, out_at, first_out}
use Rattle.wheel_core.specs.PlainBase.{highest, last_armed, last_of_highest}

last_armed_push : (items : List Item) (item : Item) → last_armed (items ++ item ∷ []) ≡ Some item
last_armed_push [] item = refl
last_armed_push (first ∷ items) item = rw (last_armed_push items item) refl

highest_push : (items : List Item) (item : Item)
    → highest (items ++ item ∷ []) ≡ max (highest items) item.level
highest_push [] item = omega arith
highest_push (first ∷ items) item = rw (highest_push items item) (omega arith)

last_armed_none : (items : List Item) → last_armed items ≡ None → items ≡ []
last_armed_none [] is = refl
last_armed_none (first ∷ items) is = cc

last_or_first : (first : Item) (items : List Item) (last : Option Item) (item : Item)
    → Some (unwrap_or last first) ≡ Some item
    → ((later : Item) → last ≡ Some later → Contains items later) → Contains (first ∷ items) item
last_or_first first items None item is later =
    subst (Contains (first ∷ items)) (same_Some first item is) (Contains-append_left (first ∷ []) items first (Contains-push [] first))
last_or_first first items (Some last) item is later =
    Contains-append_right (first ∷ []) items item (subst (Contains items) (same_Some last item is) (later last refl))

last_armed_queued : (items : List Item) (item : Item) → last_armed items ≡ Some item
    → Contains items item
last_armed_queued [] item is = absurd (none-some item is)
last_armed_queued (first ∷ items) item is =
    last_or_first first items (last_armed items) item is (λ later h. last_armed_queued items later h)

-- an item of a filtered list stands in the list and passes
queued_filter : (p : Item → Bool) (items : List Item) (item : Item) → Contains (filter p items) item
    → Contains items item × (p item ≡ true)
queued_filter p items item queued = (
  All-contains (Contains items) (filter p items) item (All-filter p (Contains items) items (All-contains_itself items)) queued,
  All-contains (λ item. p item ≡ true) (filter p items) item (filter_passes p items) queued,
)

-- what holds of all that pass
from_filter : (p : Item → Bool) (P : Item → Type 0) (items : List Item) → All P (filter p items)
    → All (λ item. p item ≡ true → P item) items
from_filter p P [] all = All-nil (λ item. p item ≡ true → P item)
from_filter p P (first ∷ items) all =
    elim (cases_Bool (p first)) [
      | inl here ↦
          let kept = subst (All P) (cond-true (p first) (first ∷ filter p items) (filter p items) here) all in
          All-cons (λ item. p item ≡ true → P item) first items (λ _. All-head P first (filter p items) kept)
          (from_filter p P items (All-tail P first (filter p items) kept))
      | inr other ↦
          let kept = subst (All P) (cond-false (p first) (first ∷ filter p items) (filter p items) other) all in
          All-cons (λ item. p item ≡ true → P item) first items (λ here. absurd (both_ways (p first) other here))
          (from_filter p P items kept)
    ]

-- the highest level is the level of an item, and no item's is higher
highest_attained : (items : List Item) (level : ℕ) → highest items ≡ level
    → filter (λ item. item.level == level) items ≡ [] → items ≡ []
highest_attained [] level is none = refl
highest_attained (first ∷ []) level is none =
    let same = eq-eqb first.level level (omega arith) in
    let kept = cond-true (first.level == level) (first ∷ []) [] same in cc
highest_attained (first ∷ second ∷ items) level is none =
    elim (cases_Bool (first.level == level)) [
      | inl here ↦
          let kept = cond-true (first.level == level) (first ∷ filter (λ item. item.level == level) (second ∷ items)) (filter (λ item. item.level == level) (second ∷ items)) here in cc
      | inr other ↦
          let kept = cond-false (first.level == level) (first ∷ filter (λ item. item.level == level) (second ∷ items)) (filter (λ item. item.level == level) (second ∷ items)) other in
          let apart = eqb-false first.level level other in
          let rest = highest_attained (second ∷ items) level (omega arith) (sym kept ∙ none) in cc
    ]

highest_above : (items : List Item) → All (λ item. item.level ≤ highest items) items
highest_above [] = All-nil (λ item. item.level ≤ 0)
highest_above (first ∷ items) =
    All-cons (λ item. item.level ≤ max first.level (highest items)) first items (omega arith)
    (All-weaker (λ item. item.level ≤ highest items) (λ item. item.level ≤ max first.level (highest items)) (λ item h. omega arith) items (highest_above items))

-- one more item at the end of a list: it goes out first where no level is above its own, and never
-- where one is
highest_over : (items : List Item) (item : Item) → highest items ≤ item.level
    → last_of_highest (items ++ item ∷ []) ≡ Some item
highest_over items item over =
    let top : highest (items ++ item ∷ []) ≡ item.level = highest_push items item ∙ omega arith in
    let here = eq-eqb item.level item.level refl in
    let kept = filter-append (λ i. i.level == item.level) items (item ∷ []) in
    rw top (rw (kept, here) (last_armed_push (filter (λ i. i.level == item.level) items) item))

highest_under : (items : List Item) (item : Item) → item.level < highest items
    → last_of_highest (items ++ item ∷ []) ≡ last_of_highest items
highest_under items item under =
    let top : highest (items ++ item ∷ []) ≡ highest items = highest_push items item ∙ omega arith in
    let apart = ne_eqb item.level (highest items) (λ same. omega arith) in
    let kept = filter-append (λ i. i.level == highest items) items (item ∷ []) in
    rw top (rw (kept, apart) (ap last_armed (append-nil (filter (λ i. i.level == highest items) items))))

-- the bucket of a wheel expiry is empty where nothing goes out at it
pub no_bucket : (wheel : ℕ) (items : List Item) → first_out wheel items ≡ None
    → filter (λ item. item.wheel == wheel) items ≡ []
unfolding first_out
no_bucket wheel items is =
    highest_attained (filter (λ item. item.wheel == wheel) items) (highest (filter (λ item. item.wheel == wheel) items)) refl
    (last_armed_none (filter (λ item. item.level == highest (filter (λ item. item.wheel == wheel) items)) (filter (λ item. item.wheel == wheel) items)) is)

-- what goes out first of a wheel expiry
pub record GoesOut (wheel : ℕ) (items : List Item) (item : Item) : Type 0 where
  pub queued : Contains items item
  pub wheel_is : item.wheel ≡ wheel
  pub level_is : item.level ≡ highest (filter (λ other. other.wheel == wheel) items)

pub goes_out : (wheel : ℕ) (items : List Item) (item : Item) → first_out wheel items ≡ Some item
    → GoesOut wheel items item
unfolding first_out
goes_out wheel items item is =
    let bucket = filter (λ item. item.wheel == wheel) items in
    let in_top = last_armed_queued (filter (λ item. item.level == highest bucket) bucket) item is in
    let in_bucket = queued_filter (λ item. item.level == highest bucket) bucket item in_top in
    let in_items = queued_filter (λ item. item.wheel == wheel) items item in_bucket.0 in
    record {
      queued = in_items.0;
      wheel_is = eqb-true item.wheel wheel in_items.1;
      level_is = eqb-true item.level (highest bucket) in_bucket.1;
    }

-- what goes out at a time is due, and where nothing does nothing is due
due_of : (now wheel : ℕ) (items : List Item) (out : Option Item) → HasDistinctIds items
    → first_out wheel items ≡ out → least items ≡ Some wheel
    → wheel ≤ now → OutIsDue now items out
due_of now wheel items None distinct is first due = absurd (least_attained items wheel first (no_bucket wheel items is))
due_of now wheel items (Some item) distinct is first due =
    let out = goes_out wheel items item is in
    let bucket = filter (λ other. other.wheel == wheel) items in
    let same = out.wheel_is in
    let level = out.level_is in
    record {
      queued = item_queued items item distinct out.queued;
      due = omega arith;
      soonest = All-weaker (λ other. wheel ≤ other.wheel) (λ other. item.wheel ≤ other.wheel) (λ other h. omega arith) items (least_below items wheel first);
      highest =
          All-weaker (λ other. (other.wheel == wheel) ≡ true → other.level ≤ highest bucket) (λ other. other.wheel ≡ item.wheel → other.level ≤ item.level)
          (λ other h together. rw level (h (eq-eqb other.wheel wheel (together ∙ same)))) items
          (from_filter (λ other. other.wheel == wheel) (λ other. other.level ≤ highest bucket) items (highest_above bucket));
    }

due_at : (now : ℕ) (items : List Item) (first : Option ℕ) → HasDistinctIds items
    → least items ≡ first → OutIsDue now items (out_at now first items)
due_at now items None distinct first =
    let empty = least_none items first in
    All-same (λ item. now < item.wheel) items [] empty (All-nil (λ item. now < item.wheel))
due_at now items (Some wheel) distinct first =
    elim (cases_Bool (leb wheel now)) [
      | inl due ↦
          let out = cond-true (leb wheel now) (first_out wheel items) None due in
          subst (OutIsDue now items) (sym out) (due_of now wheel items (first_out wheel items) distinct refl first (leb-true wheel now due))
      | inr early ↦
          let out = cond-false (leb wheel now) (first_out wheel items) None early in
          let later = leb-false wheel now early in
          let none : NoneDue now items =
          All-weaker (λ item. wheel ≤ item.wheel) (λ item. now < item.wheel) (λ item h. omega arith) items (least_below items wheel first) in
          subst (OutIsDue now items) (sym out) none
    ]

pub out_is_due : (now : ℕ) (items : List Item) → HasDistinctIds items
    → OutIsDue now items (out_at now (least items) items)
out_is_due now items distinct = due_at now items (least items) distinct refl

-- one more item at the end of the list
pub out_push_other : (wheel : ℕ) (items : List Item) (item : Item) → (item.wheel ≡ wheel → ⊥)
    → first_out wheel (items ++ item ∷ []) ≡ first_out wheel items
unfolding first_out
out_push_other wheel items item other =
    let apart = ne_eqb item.wheel wheel other in
    let kept = filter-append (λ i. i.wheel == wheel) items (item ∷ []) in
    let bucket = filter (λ i. i.wheel == wheel) items in
    ap last_of_highest (kept ∙ (ap (λ rest. bucket ++ rest) (cond-false (item.wheel == wheel) (item ∷ []) [] apart) ∙ append-nil bucket))

bucket_push : (wheel : ℕ) (items : List Item) (item : Item) → item.wheel ≡ wheel
    → filter (λ i. i.wheel == wheel) (items ++ item ∷ [])
    ≡ filter (λ i. i.wheel == wheel) items ++ item ∷ []
bucket_push wheel items item same =
    let here = eq-eqb item.wheel wheel same in
    let bucket = filter (λ i. i.wheel == wheel) items in
    filter-append (λ i. i.wheel == wheel) items (item ∷ []) ∙ ap (λ rest. bucket ++ rest) (cond-true (item.wheel == wheel) (item ∷ []) [] here)

pub out_push_first : (wheel : ℕ) (items : List Item) (item : Item) → item.wheel ≡ wheel
    → first_out wheel items ≡ None
    → first_out wheel (items ++ item ∷ []) ≡ Some item
unfolding first_out
out_push_first wheel items item same none =
    let empty = no_bucket wheel items none in
    let bucket = filter (λ i. i.wheel == wheel) items in
    ap last_of_highest (bucket_push wheel items item same) ∙ highest_over bucket item (rw empty (omega arith))

pub out_push_over : (wheel : ℕ) (items : List Item) (item best : Item) → item.wheel ≡ wheel
    → first_out wheel items ≡ Some best
    → best.level ≤ item.level → first_out wheel (items ++ item ∷ []) ≡ Some item
unfolding first_out
out_push_over wheel items item best same out over =
    let level = (goes_out wheel items best out).level_is in
    ap last_of_highest (bucket_push wheel items item same) ∙ highest_over (filter (λ i. i.wheel == wheel) items) item (omega arith)

pub out_push_under : (wheel : ℕ) (items : List Item) (item best : Item) → item.wheel ≡ wheel
    → first_out wheel items ≡ Some best
    → item.level < best.level → first_out wheel (items ++ item ∷ []) ≡ first_out wheel items
unfolding first_out
out_push_under wheel items item best same out under =
    let level = (goes_out wheel items best out).level_is in
    ap last_of_highest (bucket_push wheel items item same) ∙ highest_under (filter (λ i. i.wheel == wheel) items) item (omega arith)

-- one pass over a list of items: what is known of a front of it, as the next item comes
use Rattle.std.proofs.Common.{◌≡◌, ℕ, ◌<◌, ◌≤◌, ◌+◌, List, [], ◌∷◌, ◌++◌, Option, Some, None}
use Rattle.std.proofs.Common.{length, get_or, take, refl, ap, ◌∙◌, sym, subst, inl, inr, arith}
use Rattle.std.proofs.Common.{length-append}
use Rattle.std.specs.List.{remove, slice_get}
use Rattle.std.proofs.lemmas.List.{get_or_append_left, get_or-take, length-take-le, take_more}
use Rattle.std.proofs.lemmas.List.Edits.{remove-append_left}
use Rattle.std.proofs.lemmas.Option.{slice_get-get_or}
use Rattle.std.proofs.lemmas.Bool.{cases_eq}
use Rattle.wheel_core.specs.declared.item.Item.{Item}
use Rattle.wheel_core.specs.PlainBase.{first_out, least, sooner}
use Rattle.wheel_core.specs.Scan.{IsOut, NoneOut, MatchOut}
use Rattle.wheel_core.proofs.Leasts.{least_push, least_remove}
use Rattle.wheel_core.proofs.HandOut.{out_push_other, out_push_first, out_push_over, out_push_under}
use Rattle.wheel_core.proofs.HandOut.{goes_out}

slice_get_end : (items : List Item) (item : Item)
    → slice_get (items ++ item ∷ []) (length items) ≡ Some item
slice_get_end [] item = refl
slice_get_end (first ∷ items) item = slice_get_end items item

slice_get_front : (items : List Item) (item : Item) (place : ℕ) → place < length items
    → slice_get (items ++ item ∷ []) place ≡ slice_get items place
slice_get_front items item place within =
    slice_get-get_or (items ++ item ∷ []) place item (omega (arith, length-append items (item ∷ [])))
    ∙ (ap Some (get_or_append_left items (item ∷ []) item place within) ∙ sym (slice_get-get_or items place item within))

remove_end : (items : List Item) (item : Item) → remove (items ++ item ∷ []) (length items) ≡ items
remove_end [] item = refl
remove_end (first ∷ items) item = ap (λ rest. first ∷ rest) (remove_end items item)

-- the next item goes out first: none did so far
pub first_here : (wheel : ℕ) (front : List Item) (item : Item) (others : Option ℕ)
    → NoneOut wheel front others → item.wheel ≡ wheel
    → IsOut wheel (front ++ item ∷ []) (length front) others
first_here wheel front item others scan same = record {
  within = omega (arith, length-append front (item ∷ []));
  out = slice_get_end front item ∙ sym (out_push_first wheel front item same scan.out);
  left = scan.left ∙ ap least (sym (remove_end front item));
}

-- the next item goes out before the one found so far
pub over_here : (wheel : ℕ) (front : List Item) (item best d : Item) (place : ℕ) (others : Option ℕ)
    → IsOut wheel front place others
    → get_or front place d ≡ best → item.wheel ≡ wheel → best.level ≤ item.level
    → IsOut wheel (front ++ item ∷ []) (length front) (Some (sooner wheel others))
over_here wheel front item best d place others scan at same over =
    let found : slice_get front place ≡ Some best = slice_get-get_or front place d scan.within ∙ ap Some at in
    let out : first_out wheel front ≡ Some best = sym scan.out ∙ found in
    let best_wheel = (goes_out wheel front best out).wheel_is in
    record {
      within = omega (arith, length-append front (item ∷ []));
      out = slice_get_end front item ∙ sym (out_push_over wheel front item best same out over);
      left =
          let rest = least_remove front place d scan.within in
          let others_is = scan.left in
          let end = ap least (remove_end front item) in
          let value : Some (sooner (get_or front place d).wheel (least (remove front place))) ≡ Some (sooner wheel others) = cc in
          sym (end ∙ (rest ∙ value));
    }

-- the next item doesn't, and the one found so far stands
pub over_there : (wheel : ℕ) (front : List Item) (item best d : Item) (place : ℕ)
    (others : Option ℕ) → IsOut wheel front place others
    → get_or front place d ≡ best → (item.wheel ≡ wheel → item.level < best.level)
    → IsOut wheel (front ++ item ∷ []) place (Some (sooner item.wheel others))
over_there wheel front item best d place others scan at under =
    let found : slice_get front place ≡ Some best = slice_get-get_or front place d scan.within ∙ ap Some at in
    let out : first_out wheel front ≡ Some best = sym scan.out ∙ found in
    record {
      within = omega (arith, length-append front (item ∷ []), scan.within);
      out =
          slice_get_front front item place scan.within ∙ (scan.out ∙ sym (elim (cases_eq item.wheel wheel) [
            | inl same ↦ out_push_under wheel front item best same out (under same)
            | inr other ↦ out_push_other wheel front item other
          ]));
      left =
          ap (λ o. Some (sooner item.wheel o)) scan.left
          ∙ (sym (least_push (remove front place) item) ∙ ap least (sym (remove-append_left front (item ∷ []) place scan.within)));
    }

-- the next item has another wheel expiry, and none was found so far
pub none_there : (wheel : ℕ) (front : List Item) (item : Item) (others : Option ℕ)
    → NoneOut wheel front others
    → (item.wheel ≡ wheel → ⊥)
    → NoneOut wheel (front ++ item ∷ []) (Some (sooner item.wheel others))
none_there wheel front item others scan other = record {
  out = out_push_other wheel front item other ∙ scan.out;
  left = ap (λ o. Some (sooner item.wheel o)) scan.left ∙ sym (least_push front item);
}

-- the same at the places of a list
module _ (wheel : ℕ) (items : List Item) (place : ℕ) (d : Item) (within : place < length items) where
  -- the front with the item at the place is the longer front
  longer : (P : List Item → ℕ → Type 0)
      → P (take place items ++ get_or items place d ∷ []) (length (take place items))
      → P (take (place + 1) items) place
  longer P known =
      subst (λ front. P front place) (sym (take_more items place d within))
      (subst (P (take place items ++ get_or items place d ∷ [])) (length-take-le place items (omega arith)) known)

  pub scan_first : (others : Option ℕ) → NoneOut wheel (take place items) others
      → (get_or items place d).wheel ≡ wheel
      → IsOut wheel (take (place + 1) items) place others
  scan_first others scan same =
      longer (λ front end. IsOut wheel front end others) (first_here wheel (take place items) (get_or items place d) others scan same)

  at_front : (best : ℕ) → best < length (take place items)
      → get_or (take place items) best d ≡ get_or items best d
  at_front best l = get_or-take place items best d (omega (arith, length-take-le place items (omega arith)))

  pub scan_over : (best : ℕ) (others : Option ℕ) → IsOut wheel (take place items) best others
      → (get_or items place d).wheel ≡ wheel
      → (get_or items best d).level ≤ (get_or items place d).level
      → IsOut wheel (take (place + 1) items) place (Some (sooner wheel others))
  scan_over best others scan same over =
      longer (λ front end. IsOut wheel front end (Some (sooner wheel others)))
      (over_here wheel (take place items) (get_or items place d) (get_or items best d) d best others scan (at_front best scan.within) same over)

  pub scan_under : (best : ℕ) (others : Option ℕ) → IsOut wheel (take place items) best others
      → ((get_or items place d).wheel ≡ wheel → (get_or items place d).level < (get_or items best d).level)
      → IsOut wheel (take (place + 1) items) best (Some (sooner (get_or items place d).wheel others))
  scan_under best others scan under =
      longer (λ front _. IsOut wheel front best (Some (sooner (get_or items place d).wheel others)))
      (over_there wheel (take place items) (get_or items place d) (get_or items best d) d best others scan (at_front best scan.within) under)

  pub scan_none : (others : Option ℕ) → NoneOut wheel (take place items) others
      → ((get_or items place d).wheel ≡ wheel → ⊥)
      → NoneOut wheel (take (place + 1) items) (Some (sooner (get_or items place d).wheel others))
  scan_none others scan other =
      longer (λ front _. NoneOut wheel front (Some (sooner (get_or items place d).wheel others)))
      (none_there wheel (take place items) (get_or items place d) others scan other)

  -- what was found stays so, by either
  pub scan_kept : (out : Option ℕ) (others : Option ℕ)
      → MatchOut wheel (take place items) out others
      → ((best : ℕ) → out ≡ Some best → (get_or items place d).wheel ≡ wheel → (get_or items place d).level < (get_or items best d).level)
      → (out ≡ None → (get_or items place d).wheel ≡ wheel → ⊥)
      → MatchOut wheel (take (place + 1) items) out (Some (sooner (get_or items place d).wheel others))
  scan_kept None others scan under other = scan_none others scan (other refl)
  scan_kept (Some best) others scan under other = scan_under best others scan (under best refl)

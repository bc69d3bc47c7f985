-- for crates above: lists whose elements have a key, looking one up by its key, and taking it away
use Rattle.std.proofs.Common.{◌≡◌, ℕ, Bool, true, false, List, [], ◌∷◌, ◌++◌, Option, Some, None}
use Rattle.std.proofs.Common.{refl, ap, ◌∙◌, sym, subst, inl, inr}
use Rattle.std.specs.Prelude.{◌==◌, if◌then◌else◌}
use Rattle.std.specs.List.{All, filter, find}
use Rattle.std.proofs.lemmas.Bool.{cases_Bool, cond-true, cond-false, eq-eqb, eqb-true, eqb-false}
use Rattle.std.proofs.lemmas.Bool.{ne_eqb}
use Rattle.std.proofs.lemmas.List.Elements.{All-head, All-tail, filter_passes}
use Rattle.std.proofs.lemmas.Option.{none-some, same_Some}

module _ {X : Type 0} (key : X → ℕ) where
  abbrev pub at_key : (k : ℕ) → List X → Option X
  at_key k xs = find (λ x. key x == k) xs

  abbrev pub drop_key : (k : ℕ) → List X → List X
  drop_key k [] = []
  drop_key k (x ∷ xs) = if key x == k then xs else x ∷ drop_key k xs

  abbrev pub HasDistinctKeys : List X → Type 0
  HasDistinctKeys [] = Unit {0}
  HasDistinctKeys (x ∷ xs) = (at_key (key x) xs ≡ None) × HasDistinctKeys xs

  -- a key that no element has
  none_first : (k : ℕ) (x : X) (xs : List X) → at_key k (x ∷ xs) ≡ None → (key x == k) ≡ false
  none_first k x xs none =
      elim (cases_Bool (key x == k)) [
        | inl here ↦ absurd (none-some x (sym none ∙ cond-true (key x == k) (Some x) (at_key k xs)
            here))
        | inr other ↦ other
      ]

  none_rest : (k : ℕ) (x : X) (xs : List X) → at_key k (x ∷ xs) ≡ None → at_key k xs ≡ None
  none_rest k x xs none = sym (cond-false (key x == k) (Some x) (at_key k xs)
      (none_first k x xs none)) ∙ none

  none_here : (k : ℕ) (x : X) (xs : List X) → (key x == k) ≡ false → at_key k xs ≡ None
      → at_key k (x ∷ xs) ≡ None
  none_here k x xs other none = cond-false (key x == k) (Some x) (at_key k xs) other ∙ none

  -- what is found has the key, and what holds of all
  pub found_key : (k : ℕ) (xs : List X) (a : X) → at_key k xs ≡ Some a → key a ≡ k
  found_key k [] a is = absurd (none-some a is)
  found_key k (x ∷ xs) a is =
      elim (cases_Bool (key x == k)) [
        | inl here ↦
            let same = same_Some x a (sym (cond-true (key x == k) (Some x) (at_key k xs) here)
            ∙ is) in
            ap key (sym same) ∙ eqb-true (key x) k here
        | inr other ↦ found_key k xs a (sym (cond-false (key x == k) (Some x) (at_key k xs) other)
            ∙ is)
      ]

  pub found_all : (P : X → Type 0) (k : ℕ) (xs : List X) (a : X) → All P xs → at_key k xs ≡ Some a
      → P a
  found_all P k [] a all is = absurd (none-some a is)
  found_all P k (x ∷ xs) a all is =
      elim (cases_Bool (key x == k)) [
        | inl here ↦ subst P (same_Some x a (sym (cond-true (key x == k) (Some x) (at_key k xs)
            here) ∙ is)) (All-head P x xs all)
        | inr other ↦ found_all P k xs a (All-tail P x xs all)
            (sym (cond-false (key x == k) (Some x) (at_key k xs) other) ∙ is)
      ]

  -- keys stay distinct as an element comes or goes
  none_push : (k : ℕ) (xs : List X) (y : X) → at_key k xs ≡ None → (key y == k) ≡ false
      → at_key k (xs ++ y ∷ []) ≡ None
  none_push k [] y none other = none_here k y [] other refl
  none_push k (x ∷ xs) y none other =
      none_here k x (xs ++ y ∷ []) (none_first k x xs none)
      (none_push k xs y (none_rest k x xs none) other)

  pub none_drop : (k other : ℕ) (xs : List X) → at_key k xs ≡ None
      → at_key k (drop_key other xs) ≡ None
  none_drop k other [] none = refl
  none_drop k other (x ∷ xs) none =
      elim (cases_Bool (key x == other)) [
        | inl here ↦ rw here (none_rest k x xs none)
        | inr there ↦ rw there (none_here k x (drop_key other xs) (none_first k x xs none)
            (none_drop k other xs (none_rest k x xs none)))
      ]

  pub distinct_push : (xs : List X) (y : X) → HasDistinctKeys xs → at_key (key y) xs ≡ None
      → HasDistinctKeys (xs ++ y ∷ [])
  distinct_push [] y distinct none = (refl, tt)
  distinct_push (x ∷ xs) y distinct none =
      let apart = eqb-false (key x) (key y) (none_first (key y) x xs none) in (
        none_push (key x) xs y distinct.0 (ne_eqb (key y) (key x) (λ same. apart (sym same))),
        distinct_push xs y distinct.1 (none_rest (key y) x xs none),
      )

  pub distinct_drop : (k : ℕ) (xs : List X) → HasDistinctKeys xs → HasDistinctKeys (drop_key k xs)
  distinct_drop k [] distinct = tt
  distinct_drop k (x ∷ xs) distinct =
      elim (cases_Bool (key x == k)) [
        | inl here ↦ rw here distinct.1
        | inr there ↦ rw there (none_drop (key x) k xs distinct.0, distinct_drop k xs distinct.1)
      ]

  -- a part of the list, of the elements that pass
  pub none_kept : (p : X → Bool) (k : ℕ) (xs : List X) → at_key k xs ≡ None
      → at_key k (filter p xs) ≡ None
  none_kept p k [] none = refl
  none_kept p k (x ∷ xs) none =
      elim (cases_Bool (p x)) [
        | inl here ↦ rw here (none_here k x (filter p xs) (none_first k x xs none)
            (none_kept p k xs (none_rest k x xs none)))
        | inr there ↦ rw there (none_kept p k xs (none_rest k x xs none))
      ]

  -- what is found among them passes, and is what is found in the whole
  pub found_kept : (p : X → Bool) (k : ℕ) (xs : List X) (a : X) → at_key k (filter p xs) ≡ Some a
      → p a ≡ true
  found_kept p k xs a is = found_all (λ x. p x ≡ true) k (filter p xs) a (filter_passes p xs) is

  apart : (k : ℕ) (x : X) (xs : List X) (a : X) → at_key (key x) xs ≡ None → at_key k xs ≡ Some a
      → (key x == k) ≡ false
  apart k x xs a none is =
      elim (cases_Bool (key x == k)) [
        | inl here ↦ absurd (none-some a (sym none ∙ (ap (λ k. at_key k xs)
            (eqb-true (key x) k here) ∙ is)))
        | inr there ↦ there
      ]

  pub found_whole : (p : X → Bool) (k : ℕ) (xs : List X) (a : X) → HasDistinctKeys xs
      → at_key k (filter p xs) ≡ Some a → at_key k xs ≡ Some a
  found_whole p k [] a distinct is = is
  found_whole p k (x ∷ xs) a distinct is =
      elim (cases_Bool (p x)) [
        | inl passes ↦
            elim (cases_Bool (key x == k)) [
              | inl here ↦ rw here (rw (passes, here) at is)
              | inr there ↦ rw there (found_whole p k xs a distinct.1 (rw (passes, there) at is))
            ]
        | inr fails ↦
            let rest = found_whole p k xs a distinct.1 (rw fails at is) in
            rw (apart k x xs a distinct.0 rest) rest
      ]

  pub none_tail : (p : X → Bool) (k : ℕ) (x : X) (xs : List X) → at_key k (filter p (x ∷ xs)) ≡ None
      → at_key k (filter p xs) ≡ None
  none_tail p k x xs none =
      elim (cases_Bool (p x)) [
        | inl passes ↦ none_rest k x (filter p xs) (rw passes at none)
        | inr fails ↦ rw fails at none
      ]

  -- taking away from the part
  pub kept_drop : (p : X → Bool) (k : ℕ) (xs : List X) (a : X) → at_key k xs ≡ Some a → p a ≡ true
      → filter p (drop_key k xs) ≡ drop_key k (filter p xs)
  kept_drop p k [] a is passes = refl
  kept_drop p k (x ∷ xs) a is passes =
      elim (cases_Bool (key x == k)) [
        | inl here ↦
            let same = same_Some x a (rw here at is) in
            rw (here, ap p same ∙ passes, here) refl
        | inr there ↦
            let rest = kept_drop p k xs a (rw there at is) passes in
            elim (cases_Bool (p x)) [
              | inl keeps ↦ rw (there, keeps, there) (ap (λ ys. x ∷ ys) rest)
              | inr drops ↦ rw (there, drops) rest
            ]
      ]

  pub kept_other : (p : X → Bool) (k : ℕ) (xs : List X) (a : X) → at_key k xs ≡ Some a → p a ≡ false
      → filter p (drop_key k xs) ≡ filter p xs
  kept_other p k [] a is fails = refl
  kept_other p k (x ∷ xs) a is fails =
      elim (cases_Bool (key x == k)) [
        | inl here ↦
            let same = same_Some x a (rw here at is) in
            rw (here, ap p same ∙ fails) refl
        | inr there ↦
            let rest = kept_other p k xs a (rw there at is) fails in
            elim (cases_Bool (p x)) [
              | inl keeps ↦ rw (there, keeps) (ap (λ ys. x ∷ ys) rest)
              | inr drops ↦ rw (there, drops) rest
            ]
      ]

  -- what was taken away is gone
  pub none_dropped : (k : ℕ) (xs : List X) → HasDistinctKeys xs → at_key k (drop_key k xs) ≡ None
  none_dropped k [] distinct = refl
  none_dropped k (x ∷ xs) distinct =
      elim (cases_Bool (key x == k)) [
        | inl here ↦ rw here (subst (λ j. at_key j xs ≡ None) (eqb-true (key x) k here) distinct.0)
        | inr there ↦ rw there (none_here k x (drop_key k xs) there (none_dropped k xs distinct.1))
      ]

  -- what is found after an element came or went
  pub push_other : (k : ℕ) (xs : List X) (y : X) → (key y == k) ≡ false
      → at_key k (xs ++ y ∷ []) ≡ at_key k xs
  push_other k [] y other = none_here k y [] other refl
  push_other k (x ∷ xs) y other =
      elim (cases_Bool (key x == k)) [
        | inl here ↦ rw here refl
        | inr there ↦ rw there (push_other k xs y other)
      ]

  pub push_own : (xs : List X) (y : X) → at_key (key y) xs ≡ None
      → at_key (key y) (xs ++ y ∷ []) ≡ Some y
  push_own [] y none = cond-true (key y == key y) (Some y) None (eq-eqb (key y) (key y) refl)
  push_own (x ∷ xs) y none =
      rw (none_first (key y) x xs none) (push_own xs y (none_rest (key y) x xs none))

  pub drop_other : (k other : ℕ) (xs : List X) → (other == k) ≡ false
      → at_key k (drop_key other xs) ≡ at_key k xs
  drop_other k other [] apart = refl
  drop_other k other (x ∷ xs) apart =
      elim (cases_Bool (key x == other)) [
        | inl here ↦
            let away = ap (λ j. j == k) (eqb-true (key x) other here) ∙ apart in
            rw here (sym (cond-false (key x == k) (Some x) (at_key k xs) away))
        | inr there ↦
            rw there
            (elim (cases_Bool (key x == k)) [
              | inl it ↦ rw it refl
              | inr past ↦ rw past (drop_other k other xs apart)
            ])
      ]

  -- what is found in the whole and passes is found among those that pass
  pub found_part : (p : X → Bool) (k : ℕ) (xs : List X) (a : X) → at_key k xs ≡ Some a
      → p a ≡ true → at_key k (filter p xs) ≡ Some a
  found_part p k [] a is passes = absurd (none-some a is)
  found_part p k (x ∷ xs) a is passes =
      elim (cases_Bool (key x == k)) [
        | inl here ↦
            let same = same_Some x a (rw here at is) in
            rw (ap p same ∙ passes, here) (ap Some same)
        | inr there ↦
            let rest = found_part p k xs a (rw there at is) passes in
            elim (cases_Bool (p x)) [
              | inl keeps ↦ rw (keeps, there) rest
              | inr drops ↦ rw drops rest
            ]
      ]

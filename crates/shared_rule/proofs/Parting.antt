-- for crates above: of which seat a CPU's part is, as seats are cut in two and put together
use Rattle.std.proofs.Common.{◌≡◌, ◌≢◌, ◌⊎◌, ℕ, ◌+◌, eqb, eq-eqb, ne_eqb, cond, Bool}
use Rattle.std.proofs.Common.{true, false, true≢false, List, [], ◌∷◌, ◌++◌, length, set, refl, sym}
use Rattle.std.proofs.Common.{ap, ◌∙◌, inl, inr, ⊎_elim, arith}
use Rattle.std.proofs.lemmas.Bool.{cases_eq}
use Rattle.std.proofs.lemmas.List.{length-set}
use mathlib.Core.Option.{some, some-injective}
use lib.ListN.{get_elem?}
use Rattle.atomic_table.proofs.Lists.{set_here, set_else, at_last, at_longer}
use Rattle.shared_rule.specs.declared.parts.View.{View}
use Rattle.shared_rule.specs.Rule.{Each, IsPart}
use Rattle.shared_rule.specs.Rule.{times}
use Rattle.shared_rule.specs.Rule.{Stands}
use Rattle.shared_rule.proofs.Going.{at_within}

module _ {X : Type 0} (cpu : X → ℕ) where
  abbrev pub has : ℕ → List X → Bool
  has d [] = false
  has d (x ∷ xs) = cond (eqb d (cpu x)) true (has d xs)

  -- parts that are cut off go to the seat `new`
  abbrev pub cut : List X → ℕ → (ℕ → ℕ) → ℕ → ℕ
  cut off new owner d = cond (has d off) new (owner d)

  -- all parts of `other` go to `id`
  abbrev pub put_in : ℕ → ℕ → (ℕ → ℕ) → ℕ → ℕ
  put_in id other owner d = cond (eqb (owner d) other) id (owner d)

  module _ (n : ℕ) (whole : ℕ → X) (owner : ℕ → ℕ) where
    pub owned_off : (id d : ℕ) (off : List X) → Each (IsPart n cpu whole owner id) off
        → has d off ≡ true → owner d ≡ id
    owned_off id d [] h e = absurd (true≢false (sym e))
    owned_off id d (x ∷ xs) h e =
        elim (cases_eq d (cpu x)) [
          | inl is ↦ ap owner is ∙ h.0.owned
          | inr ne ↦ owned_off id d xs h.1 (sym (ap (λ b. cond b true (has d xs))
              (ne_eqb d (cpu x) ne)) ∙ e)
        ]

    either : (b : Bool) → (b ≡ true) ⊎ (b ≡ false)
    either true = inl refl
    either false = inr refl

    -- the parts that stay
    pub stay : (id new : ℕ) (off xs : List X) → Each (λ x. has (cpu x) off ≡ false) xs
        → Each (IsPart n cpu whole owner id) xs → Each
        (IsPart n cpu whole (cut off new owner) id) xs
    stay id new off [] no' h = tt
    stay id new off (x ∷ xs) no' h = (
      record {
        low = h.0.low;
        owned = ap
            (λ b. cond b new (owner (cpu x))) no'.0 ∙ h.0.owned;
        is = h.0.is;
      },
      stay id new off xs no'.1 h.1,
    )

    -- the parts of another view
    pub apart : (id j new : ℕ) (off xs : List X) → j ≢ id → Each (IsPart n cpu whole owner id) off
        → Each (IsPart n cpu whole owner j) xs → Each (IsPart n cpu whole (cut off new owner) j) xs
    apart id j new off [] ne o h = tt
    apart id j new off (x ∷ xs) ne o h =
        let no' : has (cpu x) off ≡ false = ⊎_elim (λ t. absurd
        (ne (sym h.0.owned ∙ owned_off id (cpu x) off o t))) (λ f. f)
        (either (has (cpu x) off)) in (
          record {
            low = h.0.low;
            owned = ap (λ b. cond b new (owner (cpu x))) no'
                ∙ h.0.owned;
            is = h.0.is;
          },
          apart id j new off xs ne o h.1,
        )

    -- the parts cut off, behind `front`
    pub off : (id new : ℕ) (all xs : List X) → Each (λ x. has (cpu x) all ≡ true) xs
        → Each (IsPart n cpu whole owner id) xs → Each
        (IsPart n cpu whole (cut all new owner) new) xs
    off id new all [] yes' h = tt
    off id new all (x ∷ xs) yes' h = (
      record {
        low = h.0.low;
        owned = ap
            (λ b. cond b new (owner (cpu x))) yes'.0;
        is = h.0.is;
      },
      off id new all xs yes'.1 h.1,
    )

    pub moved_in : (id other : ℕ) (xs : List X) → Each (IsPart n cpu whole owner other) xs
        → Each (IsPart n cpu whole (put_in id other owner) id) xs
    moved_in id other [] h = tt
    moved_in id other (x ∷ xs) h = (
      record {
        low = h.0.low;
        owned = ap
            (λ b. cond b id (owner (cpu x))) (eq-eqb _ _ h.0.owned);
        is = h.0.is;
      },
      moved_in id other xs h.1,
    )

    pub stayed_in : (id other j : ℕ) (xs : List X) → j ≢ other
        → Each (IsPart n cpu whole owner j) xs → Each
        (IsPart n cpu whole (put_in id other owner) j) xs
    stayed_in id other j [] ne h = tt
    stayed_in id other j (x ∷ xs) ne h = (
      record {
        low = h.0.low;
        owned = ap
            (λ b. cond b id (owner (cpu x))) (ne_eqb _ _ (λ z. ne (sym h.0.owned ∙ z)))
            ∙ h.0.owned;
        is = h.0.is;
      },
      stayed_in id other j xs ne h.1,
    )

pub each_append : {X : Type 0} (P : X → Type 0) (xs ys : List X) → Each P xs → Each P ys
    → Each P (xs ++ ys)
each_append P [] ys h i = i
each_append P (x ∷ xs) ys h i = (h.0, each_append P xs ys h.1 i)

either_bool : (b : Bool) → (b ≡ true) ⊎ (b ≡ false)
either_bool true = inl refl
either_bool false = inr refl

module _ {X : Type 0} (cpu : X → ℕ) where
  none_times : (d : ℕ) (xs : List X) → has cpu d xs ≡ false → times cpu d xs ≡ 0
  none_times d [] e = refl
  none_times d (x ∷ xs) e =
      elim (cases_eq d (cpu x)) [
        | inl is ↦ absurd (true≢false (sym (ap (λ b. cond b true (has cpu d xs))
            (eq-eqb d (cpu x) is)) ∙ e))
        | inr ne ↦
            let a : ◌≡◌ {A = ℕ} (cond (eqb (cpu x) d) 1 0) 0 = ap (λ b. cond b 1 0)
            (ne_eqb (cpu x) d (λ z. ne (sym z))) in
            let r = none_times d xs (sym (ap (λ b. cond b true (has cpu d xs))
            (ne_eqb d (cpu x) ne)) ∙ e) in
            omega (arith, a, r)
      ]

  pub clear : (gone : List X) (d : ℕ) (xs : List X) → Each (λ x. has cpu (cpu x) gone ≡ false) xs
      → has cpu d gone ≡ true → times cpu d xs ≡ 0
  clear gone d [] h e = refl
  clear gone d (x ∷ xs) h e =
      let a : ◌≡◌ {A = ℕ} (cond (eqb (cpu x) d) 1 0) 0 = ap (λ b. cond b 1 0)
      (ne_eqb (cpu x) d (λ z. true≢false (sym e ∙ (ap (λ n. has cpu n gone) (sym z) ∙ h.0)))) in
      let r = clear gone d xs h.1 e in
      omega (arith, a, r)

  pub owned_zero : (n : ℕ) (whole : ℕ → X) (owner : ℕ → ℕ) (id d : ℕ) (xs : List X)
      → Each (IsPart n cpu whole owner id) xs → owner d ≢ id → times cpu d xs ≡ 0
  owned_zero n whole owner id d [] h ne = refl
  owned_zero n whole owner id d (x ∷ xs) h ne =
      let a : ◌≡◌ {A = ℕ} (cond (eqb (cpu x) d) 1 0) 0 = ap (λ b. cond b 1 0)
      (ne_eqb (cpu x) d (λ z. ne (ap owner (sym z) ∙ h.0.owned))) in
      let r = owned_zero n whole owner id d xs h.1 ne in
      omega (arith, a, r)

  pub times_append : (d : ℕ) (xs ys : List X) → times cpu d
      (xs ++ ys) ≡ times cpu d xs + times cpu d ys
  times_append d [] ys = omega arith
  times_append d (x ∷ xs) ys = let r = times_append d xs ys in omega (arith, r)

  module _ (parts : View → List X) (views : List View) (owner : ℕ → ℕ) where
    same_view : (id d : ℕ) (v : View) → get_elem? views id ≡ some v → owner d ≡ id
        → Stands cpu parts views owner d → times cpu d (parts v) ≡ 1
    same_view id d v at is h = ap (λ (x : View). times cpu d (parts x))
        (some-injective _ _ (sym at ∙ (ap (get_elem? views) (sym is) ∙ h.1))) ∙ h.2

    pub stands_cut : (id d : ℕ) (v l r : View) → get_elem? views id ≡ some v
        → times cpu d (parts v) ≡ times cpu d (parts l) + times cpu d (parts r)
        → (has cpu d (parts r) ≡ true → times cpu d (parts l) ≡ 0)
        → (has cpu d (parts r) ≡ true → owner d ≡ id)
        → Stands cpu parts views owner d → Stands cpu parts (set views id l ++ r ∷ [])
        (cut cpu (parts r) (length views) owner) d
    stands_cut id d v l r at sum none_left own h = ⊎_elim
        (λ (yes' : has cpu d (parts r) ≡ true).
        let one = same_view id d v at (own yes') h in
        let zero' = none_left yes' in (
          r,
          ap (get_elem? (set views id l ++ r ∷ []))
              (ap (λ b. cond b (length views) (owner d)) yes')
              ∙ at_last (set views id l) r (length views) (length-set views id l),
          omega
              (arith, one, zero', sum),
        ))
        (λ (no' : has cpu d (parts r) ≡ false).
        let stay' : cut cpu (parts r) (length views) owner d ≡ owner d = ap
        (λ b. cond b (length views) (owner d)) no' in
        elim (cases_eq (owner d) id) [
          | inl is ↦
              let one = same_view id d v at is h in
              let zero' = none_times d (parts r) no' in (
                l,
                ap (get_elem? (set views id l ++ r ∷ [])) (stay' ∙ is)
                    ∙ at_longer (set views id l) (r ∷ []) id l
                    (set_here views id l (at_within views id v at)),
                omega (arith, one, zero', sum),
              )
          | inr ne ↦ (
            h.0,
            ap (get_elem? (set views id l ++ r ∷ [])) stay'
                ∙ at_longer (set views id l) (r ∷ []) (owner d) h.0
                (set_else views id (owner d) l ne ∙ h.1),
            h.2,
          )
        ])
        (either_bool (has cpu d (parts r)))

    pub stands_joined : (n : ℕ) (whole : ℕ → X) (id other d : ℕ) (v w both spent : View)
        → get_elem? views id ≡ some v → get_elem? views other ≡ some w → id ≢ other
        → parts both ≡ parts v ++ parts w
        → Each (IsPart n cpu whole owner id) (parts v)
        → Each (IsPart n cpu whole owner other) (parts w) → Stands cpu parts views owner d
        → Stands cpu parts (set (set views id both) other spent) (put_in cpu id other owner) d
    stands_joined n whole id other d v w both spent at there ne is mine theirs h =
        let sum = ap (times cpu d) is ∙ times_append d (parts v) (parts w) in
        let here : get_elem? (set (set views id both) other spent) id ≡ some both = set_else
        (set views id both) other id spent ne ∙ set_here views id both
        (at_within views id v at) in
        elim (cases_eq (owner d) other) [
          | inl e ↦
              let one = same_view other d w there e h in
              let zero' = owned_zero n whole owner id d (parts v) mine (λ z. ne (sym z ∙ e)) in (
                both,
                ap (get_elem? (set (set views id both) other spent))
                    (ap (λ b. cond b id (owner d)) (eq-eqb _ _ e))
                    ∙ here,
                omega (arith, sum, one, zero'),
              )
          | inr away ↦
              let stay' : put_in cpu id other owner d ≡ owner d = ap (λ b. cond b id (owner d))
              (ne_eqb _ _ away) in
              elim (cases_eq (owner d) id) [
                | inl e ↦
                    let one = same_view id d v at e h in
                    let zero' = owned_zero n whole owner other d (parts w) theirs away in (
                      both,
                      ap (get_elem? (set (set views id both) other spent)) (stay' ∙ e)
                          ∙ here,
                      omega (arith, sum, one, zero'),
                    )
                | inr far ↦ (
                  h.0,
                  ap (get_elem? (set (set views id both) other spent)) stay'
                      ∙ (set_else (set views id both) other (owner d) spent away
                      ∙ (set_else views id (owner d) both far ∙ h.1)),
                  h.2,
                )
              ]
        ]

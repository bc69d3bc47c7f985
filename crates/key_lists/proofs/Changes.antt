-- what a push and an unlink leave of a path
use Rattle.std.proofs.Common.{◌≡◌, ℕ, ◌+◌, ◌<◌, List, [], ◌∷◌, ◌++◌, ap, ◌∙◌, sym, subst, inl, inr, arith}
use Rattle.std.specs.Prelude.{◌==◌}
use Rattle.std.proofs.lemmas.Bool.{cases_eq, eq-eqb, ne_eqb, cond-true, cond-false}
use Rattle.key_lists.specs.Tables.{Lacks, without}
use Rattle.key_lists.specs.Rings.{IsPath}
use Rattle.key_lists.proofs.Paths.{never_again}

-- the place of a key is left out: what stood before it, o, and what stood after it, w, are joined
pub record Joins (f g f' g' : ℕ → ℕ) (at : ℕ) : Type 0 where
  pub o : ℕ
  pub w : ℕ
  pub older_is : g at ≡ o
  pub newer_is : f at ≡ w
  pub from_older : f o ≡ at
  pub from_newer : g w ≡ at
  pub newer_at : f' o ≡ w
  pub newer_else : (i : ℕ) → (i ≡ o → ⊥) → f' i ≡ f i
  pub older_at : g' w ≡ o
  pub older_else : (i : ℕ) → (i ≡ w → ⊥) → g' i ≡ g i

module _ (f g f' g' : ℕ → ℕ) (n size key : ℕ) (j : Joins f g f' g' (n + key)) where
  elsewhere : (c a : ℕ) (ks : List ℕ) → c < n → IsPath f g n size c a ks → (a ≡ n + key → ⊥) → Lacks key ks → IsPath f' g' n size c a ks
  elsewhere c a [] end path other lacks = (
    j.newer_else a (λ e. let h = ap f e in omega (arith, j.from_older)) ∙ path.0,
    j.older_else c (λ e. let h = ap g e in other (omega (arith, j.from_newer))) ∙ path.1,
  )
  elsewhere c a (k ∷ ks) end path other lacks = (
    j.newer_else a (λ e. let h = ap f e in lacks.0 (omega (arith, j.from_older))) ∙ path.0,
    j.older_else (n + k) (λ e. let h = ap g e in other (omega (arith, j.from_newer))) ∙ path.1,
    path.2,
    elsewhere c (n + k) ks end path.3 (λ e. lacks.0 (omega arith)) lacks.1,
  )

  joined : (c a : ℕ) (ks : List ℕ) → c < n → a ≡ j.o → IsPath f g n size c (n + key) ks → Lacks key ks → IsPath f' g' n size c a ks
  joined c a [] end at path lacks =
      let next : c ≡ j.w = sym path.0 ∙ j.newer_is in
      (ap f' at ∙ (j.newer_at ∙ sym next), ap g' next ∙ (j.older_at ∙ sym at))
  joined c a (k ∷ ks) end at path lacks =
      let next : n + k ≡ j.w = sym path.0 ∙ j.newer_is in (
        ap f' at ∙ (j.newer_at ∙ sym next),
        ap g' next ∙ (j.older_at ∙ sym at),
        path.2,
        elsewhere c (n + k) ks end path.3 (λ e. lacks.0 (omega arith)) lacks.1,
      )

  pub unlinked : (c a : ℕ) (ks : List ℕ) → c < n → IsPath f g n size c a ks → (a ≡ n + key → ⊥) → IsPath f' g' n size c a (without key ks)
  unlinked c a [] end path other = elsewhere c a [] end path other tt
  unlinked c a (k ∷ ks) end path other =
      elim (cases_eq k key) [
        | inl here ↦
            let rest = subst (λ x. IsPath f g n size c (n + x) ks) here path.3 in
            let at = sym path.1 ∙ (ap (λ x. g (n + x)) here ∙ j.older_is) in
            subst (IsPath f' g' n size c a) (sym (cond-true (k == key) ks (k ∷ without key ks) (eq-eqb k key here)))
            (joined c a ks end at rest (never_again f g n size c key ks end rest))
        | inr apart ↦
            subst (IsPath f' g' n size c a) (sym (cond-false (k == key) ks (k ∷ without key ks) (ne_eqb k key apart))) (
              j.newer_else a (λ e. let h = ap f e in apart (omega (arith, j.from_older))) ∙ path.0,
              j.older_else (n + k) (λ e. let h = ap g e in other (omega (arith, j.from_newer))) ∙ path.1,
              path.2,
              unlinked c (n + k) ks end path.3 (λ e. apart (omega arith)),
            )
      ]

-- a place is put before the end c, after the place l
pub record Puts (f g f' g' : ℕ → ℕ) (c at : ℕ) : Type 0 where
  pub l : ℕ
  pub last_is : g c ≡ l
  pub last_ends : f l ≡ c
  pub newer_last : f' l ≡ at
  pub newer_new : f' at ≡ c
  pub newer_else : (i : ℕ) → (i ≡ l → ⊥) → (i ≡ at → ⊥) → f' i ≡ f i
  pub older_new : g' at ≡ l
  pub older_end : g' c ≡ at
  pub older_else : (i : ℕ) → (i ≡ c → ⊥) → (i ≡ at → ⊥) → g' i ≡ g i

module _ (f g f' g' : ℕ → ℕ) (n size c key : ℕ) (end : c < n) (room : n + key < size) (p : Puts f g f' g' c (n + key)) where
  pub kept : (d a : ℕ) (ks : List ℕ) → d < n → (d ≡ c → ⊥) → IsPath f g n size d a ks → (a ≡ n + key → ⊥) → Lacks key ks → IsPath f' g' n size d a ks
  kept d a [] de other path at lacks = (
    p.newer_else a (λ e. let h = ap f e in other (omega (arith, p.last_ends))) at ∙ path.0,
    p.older_else d other (λ e. omega arith) ∙ path.1,
  )
  kept d a (k ∷ ks) de other path at lacks = (
    p.newer_else a (λ e. let h = ap f e in omega (arith, p.last_ends)) at ∙ path.0,
    p.older_else (n + k) (λ e. omega arith) (λ e. lacks.0 (omega arith)) ∙ path.1,
    path.2,
    kept d (n + k) ks de other path.3 (λ e. lacks.0 (omega arith)) lacks.1,
  )

  pub pushed : (a : ℕ) (ks : List ℕ) → IsPath f g n size c a ks → (a ≡ n + key → ⊥) → Lacks key ks → IsPath f' g' n size c a (ks ++ key ∷ [])
  pushed a [] path at lacks =
      let last : a ≡ p.l = sym path.1 ∙ p.last_is in
      (ap f' last ∙ p.newer_last, p.older_new ∙ sym last, room, (p.newer_new, p.older_end))
  pushed a (k ∷ ks) path at lacks = (
    p.newer_else a (λ e. let h = ap f e in omega (arith, p.last_ends)) at ∙ path.0,
    p.older_else (n + k) (λ e. omega arith) (λ e. lacks.0 (omega arith)) ∙ path.1,
    path.2,
    pushed (n + k) ks path.3 (λ e. lacks.0 (omega arith)) lacks.1,
  )

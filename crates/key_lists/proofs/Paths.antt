-- paths of places
use Rattle.std.proofs.Common.{◌≡◌, ℕ, zero, suc, ◌+◌, ◌-◌, ◌<◌, ◌≤◌, true, false, List, [], ◌∷◌, ◌++◌, length, Some, None, refl, ap, ◌∙◌, sym, subst, inl, inr, eqb, arith}
use Rattle.std.specs.Prelude.{◌==◌, ◌⊎◌, unwrap_or}
use Rattle.std.specs.List.{AllByRecursion, IsDistinct, list_any}
use Rattle.std.proofs.lemmas.Bool.{cases_eq, eq-eqb, eqb-true, ne_eqb, cond-true, cond-false, or_cases}
use Rattle.std.proofs.lemmas.Map.Steps.{length-le_from_distinct_below}
use Rattle.key_lists.specs.Tables.{Lacks, Holds, first_key, last_of}
use Rattle.key_lists.specs.Rings.{walk, IsPath}

pub path_walk : (m : ℕ) (f g : ℕ → ℕ) (n size c a : ℕ) (ks : List ℕ) → c < n → IsPath f g n size c a ks → length ks ≤ m → walk m f n c a ≡ ks
path_walk zero f g n size c a [] end path few = refl
path_walk zero f g n size c a (k ∷ ks) end path few = absurd (omega arith)
path_walk (suc m) f g n size c a [] end path few = cond-true (f a == c) [] ((f a - n) ∷ walk m f n c (f a)) (eq-eqb (f a) c path.0)
path_walk (suc m) f g n size c a (k ∷ ks) end path few =
    let apart = ne_eqb (f a) c (λ e. omega arith) in
    let here : f a - n ≡ k = omega arith in
    let rest = ap (walk m f n c) path.0 ∙ path_walk m f g n size c (n + k) ks end path.3 (omega arith) in
    cond-false (f a == c) [] ((f a - n) ∷ walk m f n c (f a)) apart ∙ (λ i. here i ∷ rest i)

-- two paths from one place are one
pub same_path : (f g : ℕ → ℕ) (n size c d a b : ℕ) (ks ls : List ℕ) → c < n → d < n → IsPath f g n size c a ks → IsPath f g n size d b ls → a ≡ b
    → (c ≡ d) × (ks ≡ ls)
same_path f g n size c d a b [] [] ce de p q e = (sym p.0 ∙ (ap f e ∙ q.0), refl)
same_path f g n size c d a b [] (l ∷ ls) ce de p q e = let h = ap f e in absurd (omega arith)
same_path f g n size c d a b (k ∷ ks) [] ce de p q e = let h = ap f e in absurd (omega arith)
same_path f g n size c d a b (k ∷ ks) (l ∷ ls) ce de p q e =
    let h = ap f e in
    let same : k ≡ l = omega arith in
    let rest = same_path f g n size c d (n + k) (n + l) ks ls ce de p.3 q.3 (ap (λ x. n + x) same) in
    (rest.0, λ i. same i ∷ rest.1 i)

-- the path from a key that is on a path
pub path_from : (f g : ℕ → ℕ) (n size c a key : ℕ) (ks : List ℕ) → IsPath f g n size c a ks → Holds key ks
    → (rest : List ℕ) × IsPath f g n size c (n + key) rest × (length rest < length ks) × (n + key < size)
path_from f g n size c a key [] path held = absurd held
path_from f g n size c a key (k ∷ ks) path (inl here) = (ks, subst (λ x. IsPath f g n size c (n + x) ks) here path.3, omega arith, omega arith)
path_from f g n size c a key (k ∷ ks) path (inr later) =
    let rest = path_from f g n size c (n + k) key ks path.3 later in (rest.0, rest.1, omega arith, rest.3)

pub lacks_or_holds : (key : ℕ) (ks : List ℕ) → Lacks key ks ⊎ Holds key ks
lacks_or_holds key [] = inl tt
lacks_or_holds key (k ∷ ks) =
    elim (cases_eq k key) [
      | inl here ↦ inr (inl here)
      | inr other ↦ elim (lacks_or_holds key ks) [ inl lacks ↦ inl (other, lacks) | inr holds ↦ inr (inr holds) ]
    ]

-- a key doesn't come again
pub never_again : (f g : ℕ → ℕ) (n size c key : ℕ) (ks : List ℕ) → c < n → IsPath f g n size c (n + key) ks → Lacks key ks
never_again f g n size c key ks end path =
    elim (lacks_or_holds key ks) [
      | inl lacks ↦ lacks
      | inr holds ↦
          let rest = path_from f g n size c (n + key) key ks path holds in
          let same = ap length (same_path f g n size c c (n + key) (n + key) ks rest.0 end end path rest.1 refl).1 in
          absurd (omega (arith, rest.2))
    ]

-- nor in another ring
pub one_ring : (f g : ℕ → ℕ) (n size c d a b key : ℕ) (ks ls : List ℕ) → c < n → d < n → IsPath f g n size c a ks → IsPath f g n size d b ls
    → Holds key ks → Holds key ls → c ≡ d
one_ring f g n size c d a b key ks ls ce de p q hp hq =
    let from_p = path_from f g n size c a key ks p hp in
    let from_q = path_from f g n size d b key ls q hq in
    (same_path f g n size c d (n + key) (n + key) from_p.0 from_q.0 ce de from_p.1 from_q.1 refl).0

lacks_apart : (key : ℕ) (ks : List ℕ) → Lacks key ks → AllByRecursion (λ k. eqb key k ≡ false) ks
lacks_apart key [] lacks = tt
lacks_apart key (k ∷ ks) lacks = (ne_eqb key k (λ e. lacks.0 (sym e)), lacks_apart key ks lacks.1)

pub distinct : (f g : ℕ → ℕ) (n size c a : ℕ) (ks : List ℕ) → c < n → IsPath f g n size c a ks → IsDistinct eqb ks
unfolding IsDistinct
distinct f g n size c a [] end path = tt
distinct f g n size c a (k ∷ ks) end path =
    (lacks_apart k ks (never_again f g n size c k ks end path.3), distinct f g n size c (n + k) ks end path.3)

within : (f g : ℕ → ℕ) (n size c a q : ℕ) (ks : List ℕ) → IsPath f g n size c a ks → list_any (eqb q) ks ≡ true → q < size
within f g n size c a q [] path any = cc
within f g n size c a q (k ∷ ks) path any =
    elim (or_cases (eqb q k) (list_any (eqb q) ks) any) [
      | inl here ↦ let same = eqb-true q k here in omega arith
      | inr later ↦ within f g n size c (n + k) q ks path.3 later
    ]

pub few : (f g : ℕ → ℕ) (n size c a : ℕ) (ks : List ℕ) → c < n → IsPath f g n size c a ks → length ks ≤ size
few f g n size c a ks end path = length-le_from_distinct_below ks size (distinct f g n size c a ks end path) (λ q any. within f g n size c a q ks path any)

-- what stands before the end
tail_last : (f g : ℕ → ℕ) (n size c k : ℕ) (ks : List ℕ) → IsPath f g n size c (n + k) ks → g c ≡ n + unwrap_or (last_of ks) k
tail_last f g n size c k [] path = path.1
tail_last f g n size c k (x ∷ ks) path = tail_last f g n size c x ks path.3

pub last_is : (f g : ℕ → ℕ) (n size c : ℕ) (ks : List ℕ) → c < n → IsPath f g n size c c ks → g c < n → None ≡ last_of ks
last_is f g n size c [] end path none = refl
last_is f g n size c (k ∷ ks) end path none = let last = tail_last f g n size c k ks path.3 in absurd (omega arith)

pub last_at : (f g : ℕ → ℕ) (n size c : ℕ) (ks : List ℕ) → c < n → IsPath f g n size c c ks → n ≤ g c → Some (g c - n) ≡ last_of ks
last_at f g n size c [] end path some = absurd (omega arith)
last_at f g n size c (k ∷ ks) end path some =
    let last = tail_last f g n size c k ks path.3 in
    let is : g c - n ≡ unwrap_or (last_of ks) k = omega arith in ap Some is

pub first_is : (f g : ℕ → ℕ) (n size c : ℕ) (ks : List ℕ) → c < n → IsPath f g n size c c ks → f c < n → None ≡ first_key ks
first_is f g n size c [] end path none = refl
first_is f g n size c (k ∷ ks) end path none = absurd (omega arith)

pub first_at : (f g : ℕ → ℕ) (n size c : ℕ) (ks : List ℕ) → c < n → IsPath f g n size c c ks → n ≤ f c → Some (f c - n) ≡ first_key ks
first_at f g n size c [] end path some = absurd (omega arith)
first_at f g n size c (k ∷ ks) end path some = let is : f c - n ≡ k = omega arith in ap Some is

pub last_within : (f g : ℕ → ℕ) (n size c a : ℕ) (ks : List ℕ) → a < size → IsPath f g n size c a ks → g c < size
last_within f g n size c a [] at path = omega arith
last_within f g n size c a (k ∷ ks) at path = last_within f g n size c (n + k) ks path.2 path.3

pub last_ends : (f g : ℕ → ℕ) (n size c a : ℕ) (ks : List ℕ) → IsPath f g n size c a ks → f (g c) ≡ c
last_ends f g n size c a [] path = ap f path.1 ∙ path.0
last_ends f g n size c a (k ∷ ks) path = last_ends f g n size c (n + k) ks path.3

pub last_other : (f g : ℕ → ℕ) (n size c a key : ℕ) (ks : List ℕ) → IsPath f g n size c a ks → (a ≡ n + key → ⊥) → Lacks key ks → g c ≡ n + key → ⊥
last_other f g n size c a key [] path at lacks is = at (sym path.1 ∙ is)
last_other f g n size c a key (k ∷ ks) path at lacks is = last_other f g n size c (n + k) key ks path.3 (λ e. lacks.0 (omega arith)) lacks.1 is

-- the places around one on a path
pub record Around (f g : ℕ → ℕ) (size at : ℕ) : Type 0 where
  pub after_older : f (g at) ≡ at
  pub before_newer : g (f at) ≡ at
  pub older_within : g at < size
  pub newer_within : f at < size

pub around : (f g : ℕ → ℕ) (n size c a key : ℕ) (ks : List ℕ) → c < size → a < size → IsPath f g n size c a ks → Holds key ks → Around f g size (n + key)
around f g n size c a key [] end at path held = absurd held
around f g n size c a key (k ∷ []) end at path (inl here) =
    subst (λ x. Around f g size (n + x)) here
    (record { after_older = ap f path.1 ∙ path.0; before_newer = ap g path.3.0 ∙ path.3.1; older_within = omega arith; newer_within = omega arith })
around f g n size c a key (k ∷ x ∷ ks) end at path (inl here) =
    subst (λ x. Around f g size (n + x)) here
    (record { after_older = ap f path.1 ∙ path.0; before_newer = ap g path.3.0 ∙ path.3.1; older_within = omega arith; newer_within = omega (arith, path.3.2) })
around f g n size c a key (k ∷ ks) end at path (inr later) = around f g n size c (n + k) key ks end path.2 path.3 later

-- what stands before a key of a path
before_from : (f g : ℕ → ℕ) (n size c k key : ℕ) (front back : List ℕ) → IsPath f g n size c (n + k) (front ++ key ∷ back) → g (n + key) ≡ n + unwrap_or (last_of front) k
before_from f g n size c k key [] back path = path.1
before_from f g n size c k key (x ∷ front) back path = before_from f g n size c x key front back path.3

pub before_none : (f g : ℕ → ℕ) (n size c key : ℕ) (front back : List ℕ) → c < n → IsPath f g n size c c (front ++ key ∷ back) → g (n + key) < n → None ≡ last_of front
before_none f g n size c key [] back end path none = refl
before_none f g n size c key (k ∷ front) back end path none = let is = before_from f g n size c k key front back path.3 in absurd (omega arith)

pub before_some : (f g : ℕ → ℕ) (n size c key : ℕ) (front back : List ℕ) → c < n → IsPath f g n size c c (front ++ key ∷ back) → n ≤ g (n + key) → Some (g (n + key) - n) ≡ last_of front
before_some f g n size c key [] back end path some = absurd (omega arith)
before_some f g n size c key (k ∷ front) back end path some =
    let is = before_from f g n size c k key front back path.3 in
    let same : g (n + key) - n ≡ unwrap_or (last_of front) k = omega arith in ap Some same

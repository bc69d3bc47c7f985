-- chains of groups, from child to parent, end
use Rattle.std.proofs.Common.{◌≡◌, ℕ, zero, suc, ◌+◌, ◌-◌, ◌<◌, ◌≤◌, eqb, true, false, List, []}
use Rattle.std.proofs.Common.{◌∷◌, length, Some, refl, sym, ap, ◌∙◌, subst, inl, inr, arith}
use Rattle.std.specs.Prelude.{option_and_then, unwrap_or}
use Rattle.std.specs.List.{AllByRecursion, IsDistinct, list_any}
use Rattle.std.proofs.lemmas.Bool.{eqb-true, ne_eqb, or_cases}
use Rattle.std.proofs.lemmas.Map.Steps.{length-le_from_distinct_below}
use Rattle.tree_plan.specs.Shape.{Shape}
use Rattle.tm_base.specs.Children.{of_group}
use Rattle.tree_plan.specs.Paths.{group_at_of, group_count_of, parent_of}
use Rattle.walk_rules.specs.Hierarchy.{IsHierarchy, group_on}

-- the first values of a function
upto : (ℕ → ℕ) → ℕ → List ℕ
upto f zero = []
upto f (suc n) = f n ∷ upto f n

-- values below a bound that are all different are no more than the bound
module _ (f : ℕ → ℕ) (n m : ℕ) (apart : (i j : ℕ) → i < j → j < n → f i ≡ f j → ⊥)
    (below : (i : ℕ) → i < n → f i < m) where
  none_before : (j k : ℕ) → j < n → k ≤ j → AllByRecursion (λ y. eqb (f j) y ≡ false) (upto f k)
  unfolding upto
  none_before j zero h l = tt
  none_before j (suc k) h l = (
    ne_eqb (f j) (f k) (λ e. apart k j (omega arith) h (sym e)),
    none_before j k h (omega arith),
  )

  distinct : (k : ℕ) → k ≤ n → IsDistinct eqb (upto f k)
  unfolding upto IsDistinct
  distinct zero h = tt
  distinct (suc k) h = (none_before k k (omega arith) (omega arith), distinct k (omega arith))

  each_below : (k : ℕ) → k ≤ n → (q : ℕ) → list_any (eqb q) (upto f k) ≡ true → q < m
  unfolding upto
  each_below zero h q e = absurd (cc)
  each_below (suc k) h q e = elim (or_cases (eqb q (f k)) (list_any (eqb q) (upto f k)) e) [
    | inl same ↦ subst (λ v. v < m) (sym (eqb-true q (f k) same)) (below k (omega arith))
    | inr rest ↦ each_below k (omega arith) q rest
  ]

  long : (k : ℕ) → length (upto f k) ≡ k
  unfolding upto
  long zero = refl
  long (suc k) = ap suc (long k)

  few : n ≤ m
  few =
      let l = length-le_from_distinct_below (upto f n) m (distinct n (omega arith))
      (each_below n (omega arith)) in
      omega (arith, l, long n)

-- group g stands so many steps above group h, from each group to its parent; both are there
abbrev pub Rises : Shape → ℕ → (h g : ℕ) → Type 0
Rises t zero h g = (h ≡ g) × (h < group_count_of t)
Rises t (suc n) h g =
    (h < group_count_of t) × ((p : ℕ) × (parent_of t (of_group h) ≡ Some p) × Rises t n p g)

pub rises_within : (t : Shape) (n h g : ℕ) → Rises t n h g → h < group_count_of t
rises_within t zero h g r = r.1
rises_within t (suc n) h g r = r.0

-- the group so many steps above
upwards : Shape → ℕ → ℕ → ℕ
upwards t zero h = h
upwards t (suc n) h = upwards t n (unwrap_or (parent_of t (of_group h)) 0)

module _ (t : Shape) where
  -- a part of a chain
  cut : (i k n h g : ℕ) → n ≡ i + k → Rises t n h g → Rises t k (upwards t i h) g
  unfolding upwards
  cut zero k n h g e r = let same : n ≡ k = omega (arith, e) in subst (λ v. Rises t v h g) same r
  cut (suc i) k zero h g e r = absurd (omega (arith, e))
  cut (suc i) k (suc n) h g e (low, (p, parent, rest)) =
      subst (λ v. Rises t k (upwards t i v) g) (sym (ap (λ m. unwrap_or m 0) parent))
      (cut i k n p g (omega (arith, e)) rest)

  at_end : (n h g : ℕ) → Rises t n h g → upwards t n h ≡ g
  unfolding upwards
  at_end zero h g r = r.0
  at_end (suc n) h g (low, (p, parent, rest)) = ap (λ m. upwards t n (unwrap_or m 0)) parent
      ∙ at_end n p g rest

  -- from a group of a path the chain is the path
  on_path : (c l n k g x : ℕ) → k ≡ l + n → group_at_of t c l ≡ Some g → Rises t n g x →
      group_at_of t c k ≡ Some x
  unfolding group_at_of
  on_path c l zero k g x at e r =
      let same : l ≡ k = omega (arith, at) in
      subst (λ v. group_at_of t c v ≡ Some x) same (e ∙ ap Some r.0)
  on_path c l (suc n) k g x at e (low, (p, parent, rest)) =
      on_path c (suc l) n k p x (omega (arith, at))
      (ap (option_and_then (λ v. parent_of t (of_group v))) e ∙ parent) rest

  module _ (h : IsHierarchy t) (c l g : ℕ) (here : group_at_of t c l ≡ Some g) where
    -- a group of a path isn't above itself
    no_round : (n : ℕ) → Rises t (suc n) g g → ⊥
    no_round n r =
        let same = h.one_level c c l (l + suc n) g here
        (on_path c l (suc n) (l + suc n) g g refl here r) in
        omega (arith, same)

    -- so a chain that comes to it has no group twice
    no_twice : (n x i j : ℕ) → Rises t n x g → i < j → j < suc n → upwards t i x ≡ upwards t j x → ⊥
    no_twice n x i j r less within same =
        let long : Rises t (n - i) (upwards t i x) g =
        cut i (n - i) n x g (omega (arith, less, within)) r in
        let short : Rises t (n - j) (upwards t i x) g =
        subst (λ v. Rises t (n - j) v g) (sym same)
        (cut j (n - j) n x g (omega (arith, within)) r) in
        let rest : Rises t (suc (j - i - 1)) (upwards t (n - j) (upwards t i x)) g =
        cut (n - j) (suc (j - i - 1)) (n - i) (upwards t i x) g (omega (arith, less, within))
        long in
        no_round (j - i - 1) (subst (λ v. Rises t (suc (j - i - 1)) v g)
        (at_end (n - j) (upwards t i x) g short) rest)

    -- and isn't longer than there are groups
    pub rises_short : (n x : ℕ) → Rises t n x g → n < group_count_of t
    rises_short n x r =
        let all : suc n ≤ group_count_of t =
        few (λ i. upwards t i x) (suc n) (group_count_of t)
        (λ i j less within same. no_twice n x i j r less within same)
        (λ i within. rises_within t (n - i) (upwards t i x) g
        (cut i (n - i) n x g (omega (arith, within)) r)) in
        omega (arith, all)

    -- a path has a group at each level below
    lower_there : (d n : ℕ) → l ≡ n + d → (x : ℕ) × (group_at_of t c n ≡ Some x)
    lower_there zero n e = let same : l ≡ n = omega (arith, e) in
        (g, subst (λ v. group_at_of t c v ≡ Some g) same here)
    lower_there (suc d) n e = let above = lower_there d (suc n) (omega (arith, e)) in
        h.lower c n above.0 above.1

    there : (n : ℕ) → n < suc l → (x : ℕ) × (group_at_of t c n ≡ Some x) × (group_on t c n ≡ x)
    there n low = let p = lower_there (l - n) n (omega (arith, low)) in
        (p.0, p.1, ap (λ m. unwrap_or m 0) p.1)

    -- and has no more levels than there are groups
    pub level_short : l < group_count_of t
    level_short =
        let all : suc l ≤ group_count_of t = few (λ i. group_on t c i) (suc l) (group_count_of t)
        (λ i j less low same. (
        let p = there i (omega (arith, less, low)) in
        let q = there j low in
        let at : group_at_of t c j ≡ Some p.0 = q.1 ∙ ap Some (sym q.2 ∙ (sym same ∙ p.2)) in
        let one = h.one_level c c i j p.0 p.1 at in omega (arith, less, one)))
        (λ i low. let p = there i low in subst (λ v. v < group_count_of t) (sym p.2)
        (h.within c i p.0 p.1)) in
        omega (arith, all)

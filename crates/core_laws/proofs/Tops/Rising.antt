-- for crates above: where something is active and the top isn't, an activation is under way
use Rattle.std.proofs.Common.{◌≡◌, ◌≢◌, ◌⊎◌, inl, inr, ℕ, zero, suc, ◌+◌, ◌-◌, ◌<◌, ◌≤◌, eq-eqb}
use Rattle.std.proofs.Common.{Bool, true, false, true≢false, cond, Option, Some, None, refl, sym}
use Rattle.std.proofs.Common.{ap, ◌∙◌, subst, arith}
use Rattle.std.specs.Prelude.{◌==◌, is_none, is_some, unwrap_or}
use Rattle.std.specs.Int.{bit_at}
use Rattle.std.proofs.lemmas.Bool.{cases_eq, cases_lt, eqb-true}
use Rattle.std.proofs.lemmas.Option.{none-some, same_Some}
use Rattle.group_word.specs.Group.{GroupLaw, IsActive}
use Rattle.tm_base.specs.declared.names.Child.{Child}
use Rattle.tree_plan.specs.Shape.{Shape}
use Rattle.tm_base.specs.Children.{of_cpu, of_group}
use Rattle.tree_plan.specs.Paths.{bit_of, group_at_of, group_count_of, parent_of}
use Rattle.walk_rules.specs.declared.walk.Walk.{Walk}
use Rattle.walk_rules.specs.declared.walk.WalkKind.TheVariants as kinds
use Rattle.walk_rules.specs.Edges.{StandsAt, edge_of}
use Rattle.walk_rules.specs.Hierarchy.{HasGroup, IsHierarchy, at_top, group_on}
use Rattle.walk_rules.specs.Scene.{Scene, is_on}
use Rattle.core_laws.specs.Walks.Fit.{WalksFit}
use Rattle.core_laws.specs.Edges.Layer.{EdgesFit}
use Rattle.core_laws.proofs.Edges.Facts.{edge_walk, own_child, standing, through_group}

-- A PIGEONHOLE: so many numbers can't all be different and below one less
refill : (a n v : ℕ) → ℕ
refill a n v = cond (a == n) v a

refilled : (a n v : ℕ) → ((a ≡ n) × (refill a n v ≡ v)) ⊎ ((a ≢ n) × (refill a n v ≡ a))
unfolding refill
refilled a n v = by_test (a == n) refl
  where
    by_test : (q : Bool) → (a == n) ≡ q → ((a ≡ n) × (cond q v a ≡ v))
        ⊎ ((a ≢ n) × (cond q v a ≡ a))
    by_test true t = inl (eqb-true a n t, refl)
    by_test false t = inr (λ same. true≢false (sym (eq-eqb a n same) ∙ t), refl)

record Crowded (f : ℕ → ℕ) (n : ℕ) : Type 0 where
  low : (i : ℕ) → i < suc n → f i < n
  apart : (i j : ℕ) → i < suc n → j < suc n → f i ≡ f j → i ≡ j

fewer : (f : ℕ → ℕ) (n : ℕ) → Crowded f (suc n) → Crowded (λ i. refill (f i) n (f (suc n))) n
fewer f n p = record {
  low = λ i h. elim (refilled (f i) n (f (suc n))) [
    | inl q ↦ (let top = p.low (suc n) (omega arith) in
        let ne : f (suc n) ≢ n =
        λ e. not_last i h (p.apart i (suc n) (omega arith) (omega arith) (q.0 ∙ sym e)) in
        omega (arith, q.1, top, ne))
    | inr q ↦ (let less = p.low i (omega arith) in omega (arith, q.0, q.1, less))
  ];
  apart = λ i j hi hj same. elim (refilled (f i) n (f (suc n))) [
    | inl a ↦ elim (refilled (f j) n (f (suc n))) [
      | inl b ↦ p.apart i j (omega arith) (omega arith) (a.0 ∙ sym b.0)
      | inr b ↦
          absurd (not_last j hj
          (sym (p.apart (suc n) j (omega arith) (omega arith) (sym a.1 ∙ (same ∙ b.1)))))
    ]
    | inr a ↦ elim (refilled (f j) n (f (suc n))) [
      | inl b ↦
          absurd (not_last i hi
          (p.apart i (suc n) (omega arith) (omega arith) (sym a.1 ∙ (same ∙ b.1))))
      | inr b ↦ p.apart i j (omega arith) (omega arith) (sym a.1 ∙ (same ∙ b.1))
    ]
  ];
}
  where
    not_last : (i : ℕ) → i < suc n → i ≡ suc n → ⊥
    not_last i h e = absurd (omega arith)

not_crowded : (n : ℕ) (f : ℕ → ℕ) → Crowded f n → ⊥
not_crowded zero f p = let none = p.low 0 (omega arith) in absurd (omega (arith, none))
not_crowded (suc n) f p = not_crowded n (λ i. refill (f i) n (f (suc n))) (fewer f n p)

pub none_is : (m : Option ℕ) → is_none m ≡ true → m ≡ None
none_is None e = refl
none_is (Some g) e = absurd (true≢false (sym e))

pub none_or : (m : Option ℕ) → (m ≡ None) ⊎ ((g : ℕ) × (m ≡ Some g))
none_or None = inl refl
none_or (Some g) = inr (g, refl)

-- PATHS END
record Ends (t : Shape) (c : ℕ) : Type 0 where
  level : ℕ
  top : ℕ
  there : group_at_of t c level ≡ Some top
  last : group_at_of t c (suc level) ≡ None

module _ (t : Shape) (h : IsHierarchy t) where
  -- the groups of a path up to a level, or its end
  ends_or : (c : ℕ) → HasGroup t c → (n : ℕ) →
      Ends t c ⊎ ((l : ℕ) → l < suc n → (g : ℕ) × (group_at_of t c l ≡ Some g))
  ends_or c has zero = inr (λ l low. (has.0, ap (group_at_of t c) (omega arith) ∙ has.1))
  ends_or c has (suc n) = elim (ends_or c has n) [
    | inl ends ↦ inl ends
    | inr all ↦ elim (none_or (group_at_of t c (suc n))) [
      | inl none ↦
          (let g = all n (omega arith) in
          inl (record { level = n; top = g.0; there = g.1; last = none }))
      | inr more ↦ inr (λ l low. elim (cases_eq l (suc n)) [
        | inl same ↦ (more.0, ap (group_at_of t c) same ∙ more.1)
        | inr ne ↦ all l (omega (arith, ne))
      ])
    ]
  ]

  named : (c l g : ℕ) → group_at_of t c l ≡ Some g → group_on t c l ≡ g
  named c l g e = ap (λ m. unwrap_or m 0) e

  ends : (c : ℕ) → HasGroup t c → Ends t c
  ends c has = elim (ends_or c has (group_count_of t)) [
    | inl e ↦ e
    | inr all ↦ absurd (not_crowded (group_count_of t) (group_on t c) (record {
      low = λ l low. (let g = all l low in let within = h.within c l g.0 g.1 in
          omega (arith, named c l g.0 g.1, within));
      apart = λ i j hi hj same.
          (let a = all i hi in
          let b = all j hj in
          let g : a.0 ≡ b.0 = sym (named c i a.0 a.1) ∙ (same ∙ named c j b.0 b.1) in
          h.one_level c c i j a.0 a.1 (b.1 ∙ ap Some (sym g)));
    }))
  ]

  -- a path has a group at each level below one that it has
  has_below : (c d l n g : ℕ) → d + l ≡ n → group_at_of t c n ≡ Some g →
      (x : ℕ) × (group_at_of t c l ≡ Some x)
  has_below c zero l n g far e = let same : l ≡ n = omega (arith, far) in
      (g, ap (group_at_of t c) same ∙ e)
  has_below c (suc d) l n g far e =
      let same : suc (d + l) ≡ n = omega (arith, far) in
      let x = h.lower c (d + l) g (ap (group_at_of t c) same ∙ e) in
      has_below c d l (d + l) x.0 refl x.1

  pub has_leaf : (c l g : ℕ) → group_at_of t c l ≡ Some g → HasGroup t c
  has_leaf c l g e = has_below c l 0 l g (omega arith) e

-- an activation under way, that stands at an edge
pub record IsRising (t : Shape) (s : Scene) : Type 0 where
  pub cpu : ℕ
  pub has_group : HasGroup t cpu
  pub made : Walk
  pub walk : s.walk cpu ≡ Some made
  pub kind : made.kind ≡ kinds.Activate
  pub edge : ℕ
  pub stands : edge_of (s.walk cpu) ≡ Some edge

bit_on : (active : ℕ) (m : Option ℕ) (k : ℕ) → GroupLaw active m → IsActive active k →
    is_some m ≡ true
bit_on active None k law bit = absurd (law k bit)
bit_on active (Some m) k law bit = refl

module _ (t : Shape) (s : Scene) (h : IsHierarchy t) (fit : WalksFit t s) (f : EdgesFit t s) where
  rises : (m : Child) (g : ℕ) → parent_of t m ≡ Some g → StandsAt t s m → IsRising t s
  rises m g parent at =
      let p = standing t s fit at.0 m at.1 in
      let k = edge_walk t s fit at.0 p.0 p.1 in
      record {
        cpu = at.0;
        has_group = has_leaf t h at.0 p.0 g (h.onwards at.0 p.0 m p.2 ∙ parent);
        made = k.0;
        walk = k.1;
        kind = k.2;
        edge = p.0;
        stands = p.1;
      }

  -- where a child is active its group is, or an activation is on its way there
  on_or_rises : (m : Child) (g : ℕ) → parent_of t m ≡ Some g → is_on s m ≡ true →
      (is_on s (of_group g) ≡ true) ⊎ IsRising t s
  on_or_rises m g parent on = elim (cases_eq (bit_at (s.group g).active (bit_of t m)) 1) [
    | inl bit ↦
        inl (bit_on (s.group g).active (s.group g).migrator (bit_of t m) (f.groups.law g) bit)
    | inr unset ↦ inr (rises m g parent (f.edges.needs m g parent on unset))
  ]

  climb : (c : ℕ) (e : Ends t c) (d l g : ℕ) → d + l ≡ e.level → group_at_of t c l ≡ Some g →
      is_on s (of_group g) ≡ true → (is_on s (of_group e.top) ≡ true) ⊎ IsRising t s
  climb c e zero l g far there on =
      let level : l ≡ e.level = omega (arith, far) in
      let same : g ≡ e.top = same_Some _ _ (sym there ∙ (ap (group_at_of t c) level ∙ e.there)) in
      inl (subst (λ n. is_on s (of_group n) ≡ true) same on)
  climb c e (suc d) l g far there on =
      let p = has_below t h c d (suc l) e.level e.top (omega (arith, far)) e.there in
      elim (on_or_rises (of_group g) p.0
      (sym (h.onwards c (suc l) (of_group g) (through_group t c l g there)) ∙ p.1) on) [
        | inl up ↦ climb c e d (suc l) p.0 (omega (arith, far)) p.1 up
        | inr r ↦ inr r
      ]

  -- LEMMA A, of a group
  pub group_rises : (c l g : ℕ) → group_at_of t c l ≡ Some g → is_on s (of_group g) ≡ true →
      (d n top : ℕ) → group_at_of t d n ≡ Some top → at_top t d n ≡ true
      → is_on s (of_group top) ≡ false → IsRising t s
  group_rises c l g there on d n top top_there last off =
      let e = ends t h c (has_leaf t h c l g there) in
      let one : e.top ≡ top =
      h.one_top c d e.level n e.top top e.there e.last top_there
      (none_is (group_at_of t d (suc n)) last) in
      elim (climb c e (e.level - l) l g (omega (arith, level_low e)) there on) [
        | inl up ↦ absurd (true≢false (sym up ∙ (ap (λ z. is_on s (of_group z)) one ∙ off)))
        | inr r ↦ r
      ]
    where
      -- no level past the end of a path has a group
      level_low : (e : Ends t c) → l ≤ e.level
      level_low e = elim (cases_lt e.level l) [
        | inl past ↦
            (let x = has_below t h c (l - suc e.level) (suc e.level) l g (omega (arith, past))
            there in absurd (none-some x.0 (sym e.last ∙ x.1)))
        | inr low ↦ low
      ]

  -- and of a CPU
  pub cpu_rises : (c : ℕ) → HasGroup t c → is_on s (of_cpu c) ≡ true → (d n top : ℕ) →
      group_at_of t d n ≡ Some top → at_top t d n ≡ true → is_on s (of_group top) ≡ false →
      IsRising t s
  cpu_rises c has on d n top top_there last off =
      elim (on_or_rises (of_cpu c) has.0 (sym (h.onwards c 0 (of_cpu c) (own_child t c)) ∙ has.1)
      on) [
        | inl up ↦ group_rises c 0 has.0 has.1 up d n top top_there last off
        | inr r ↦ r
      ]

-- the CPUs below a group have no other between them, and an exchange reaches no others
use Rattle.std.proofs.Common.{◌≡◌, ℕ, ◌-◌, ◌<◌, ◌≤◌, true, false, Option, Some, None, cond}
use Rattle.std.proofs.Common.{refl, sym, ap, ◌∙◌, arith, inl, inr}
use Rattle.std.specs.Prelude.{◌==◌, ◌⊎◌, nat_le, not, option_map}
use Rattle.std.specs.Option.{option_map_or}
use Rattle.std.proofs.lemmas.Bool.{and_right, cases_Bool, ne_eqb, eq-eqb, leb-true, leb-false}
use Rattle.core_world.specs.tree_plan.Laws.{BelowLaws, PathLaws}
use Rattle.core_world.specs.tree_plan.Shape.{Shape}
use Rattle.core_world.specs.tree_plan.Paths.{IsBelow, group_at_of, level_of}
use Rattle.core_world.specs.walk_rules.declared.walk.Walk.{Walk}
use Rattle.core_world.specs.World.{CpuRecord, is_reading, reads_at, stale, stale_walk}

-- a group that is named there, if any
not_there : (t : Shape) (g d l : ℕ) → (IsBelow t d g → ⊥) → (o : Option ℕ) → group_at_of t d l ≡ o
    → option_map_or (λ h. h == g) o false ≡ false
not_there t g d l apart None at = refl
not_there t g d l apart (Some h) at = ne_eqb h g (λ same. apart (l, at ∙ ap Some same))

reads_none : (t : Shape) (g d : ℕ) (k : Walk) → (IsBelow t d g → ⊥) → reads_at t g d k ≡ false
reads_none t g d k apart =
    and_right (is_reading k.stage)
    (option_map_or (λ h. h == g) (group_at_of t d k.level) false)
    (not_there t g d k.level apart (group_at_of t d k.level) refl)

same_walk : (t : Shape) (g d : ℕ) (o : Option Walk) → (IsBelow t d g → ⊥)
    → option_map (stale_walk t g d) o ≡ o
same_walk t g d None apart = refl
same_walk t g d (Some k) apart =
    ap (λ b. Some (cond b (record k { fresh = false }) k)) (reads_none t g d k apart)

-- a CPU that isn't below the group
pub untouched : (t : Shape) (g d : ℕ) (y : CpuRecord) → (IsBelow t d g → ⊥) → stale t g d y ≡ y
untouched t g d y apart = ap (λ w. record y { walk = w }) (same_walk t g d y.walk apart)

-- at level l the path of d has another group than g
abbrev pub IsApartAt : Shape → (g d l : ℕ) → Type 0
IsApartAt t g d l = option_map_or (λ h. not (h == g)) (group_at_of t d l) false ≡ true

another : (t : Shape) (g d l : ℕ) (o : Option ℕ) → group_at_of t d l ≡ o
    → option_map_or (λ h. not (h == g)) o false ≡ true
    → (h : ℕ) × (group_at_of t d l ≡ Some h) × (h ≡ g → ⊥)
another t g d l None at is = cc
another t g d l (Some h) at is =
    let apart : h ≡ g → ⊥ =
    λ same. (let no : true ≡ false = sym is ∙ ap not (eq-eqb h g same) in cc) in
    (h, at, apart)

lt_cases : (a b : ℕ) → (a ≡ b → ⊥) → (a < b) ⊎ (b < a)
lt_cases a b apart =
    elim (cases_Bool (nat_le a b)) [
      | inl is ↦ inl (let low = leb-true a b is in omega arith)
      | inr other ↦ inr (leb-false a b other)
    ]

module _ (t : Shape) (paths : PathLaws t) (below : BelowLaws t) (g c : ℕ) (here : IsBelow t c g)
    (d h : ℕ) (there : group_at_of t d (level_of t g) ≡ Some h) (apart : h ≡ g → ⊥) where
  same_level : level_of t g ≡ level_of t h
  same_level = sym (paths.level d (level_of t g) h there)

  its_own : IsBelow t d h
  its_own = (level_of t g, there)

  -- where a CPU of another group stands above one below g, it stands above each of them
  none_above : c < d → (e : ℕ) → IsBelow t e g → e < d
  none_above above e it = elim (lt_cases h g apart) [
    | inl low ↦
        let no : d < c = below.level_ascending d c h g its_own here (sym same_level) low in
        absurd (omega arith)
    | inr high ↦ below.level_ascending e d g h it its_own same_level high
  ]

  -- and likewise below
  none_below : d < c → (e : ℕ) → IsBelow t e g → d < e
  none_below beneath e it = elim (lt_cases h g apart) [
    | inl low ↦ below.level_ascending d e h g its_own it (sym same_level) low
    | inr high ↦
        let no : c < d = below.level_ascending c d g h here its_own same_level high in
        absurd (omega arith)
  ]

module _ (t : Shape) (paths : PathLaws t) (below : BelowLaws t) (g c n l : ℕ) (here : IsBelow t c g)
    (level : l ≡ level_of t g) where
  -- a CPU of another group stands just before n
  pub low_end : n ≤ c → 0 < n → IsApartAt t g (n - 1) l → (d : ℕ) → IsBelow t d g → n ≤ d
  low_end within some other d it =
      let (h, there, apart) = another t g (n - 1) l (group_at_of t (n - 1) l) refl other in
      let at = ap (group_at_of t (n - 1)) (sym level) ∙ there in
      let high = none_below t paths below g c here (n - 1) h at apart (omega arith) d it in
      omega arith

  -- and one at n
  pub high_end : c < n → IsApartAt t g n l → (d : ℕ) → IsBelow t d g → d < n
  high_end above other d it =
      let (h, there, apart) = another t g n l (group_at_of t n l) refl other in
      let at = ap (group_at_of t n) (sym level) ∙ there in
      none_above t paths below g c here n h at apart above d it

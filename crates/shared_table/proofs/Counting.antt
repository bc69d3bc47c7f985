-- no CPU has two boxes in the view of a seat
use Rattle.std.proofs.Common.{◌≡◌, ◌≢◌, ℕ, zero, suc, ◌<◌, ◌≤◌, List, [], ◌∷◌, length}
use Rattle.std.proofs.Common.{refl, sym, ap, ◌∙◌, subst, inl, inr, arith, eqb, cond, set, eq-eqb}
use Rattle.std.specs.Prelude.{slice_index}
use Rattle.std.proofs.lemmas.Bool.{cases_eq}
use mathlib.Core.Option.{some-injective, none}
use lib.ListN.{get_elem?}
use Rattle.atomic_table.specs.Table.{Allows, keeps, step}
use Rattle.atomic_table.proofs.Lists.{set_again}
use Rattle.core_world.specs.World.{World}
use Rattle.shared_rule.specs.declared.parts.BoxView.{BoxView}
use Rattle.shared_rule.specs.declared.parts.Said.{Said}
use Rattle.shared_rule.specs.declared.parts.View.{View}
use Rattle.shared_rule.specs.Whole.{Whole, box_of}
use Rattle.shared_rule.specs.Rule.{Apart, Each, Holds, IsBoxOf, IsPart, Me, Shows, box_cpu, times}
use Rattle.shared_table.specs.Ended.{FindsApart}

module _ {X : Type 0} (cpu : X → ℕ) where
  none_there : (c : ℕ) (xs : List X) → times cpu c xs ≤ 0 → Each (λ y. cpu y ≢ c) xs
  none_there c [] h = tt
  none_there c (x ∷ xs) h = elim (cases_eq (cpu x) c) [
    | inl e ↦
        let k : ◌≡◌ {A = ℕ} (cond (eqb (cpu x) c) 1 0) 1 = ap (λ z. cond z 1 0) (eq-eqb (cpu x) c e) in
        absurd (omega (arith, h, k))
    | inr ne ↦ (ne, none_there c xs (omega (arith, h)))
  ]

  -- parts of one owner, of which none is there twice, are of different CPUs
  apart : (n id : ℕ) (whole : ℕ → X) (owner : ℕ → ℕ) (xs : List X)
      → Each (IsPart n cpu whole owner id) xs
      → ((c : ℕ) → c < n → owner c ≡ id → times cpu c xs ≤ 1) → Apart cpu xs
  apart n id whole owner [] h one = tt
  apart n id whole owner (x ∷ xs) h one =
      let k : ◌≡◌ {A = ℕ} (cond (eqb (cpu x) (cpu x)) 1 0) 1
      = ap (λ z. cond z 1 0) (eq-eqb (cpu x) (cpu x) refl) in
      let m = one (cpu x) h.0.low h.0.owned in (
        none_there (cpu x) xs (omega (arith, k, m)),
        apart n id whole owner xs h.1
            (λ c low at. let j = one c low at in omega (arith, j)),
      )

-- a number that is written where it stands
set_same : (l : List ℕ) (i : ℕ) → set l i (slice_index l i) ≡ l
set_same [] i = refl
set_same (x ∷ xs) zero = refl
set_same (x ∷ xs) (suc i) = ap (λ l. x ∷ l) (set_same xs i)

-- each box is of a CPU of its opening
low : (o : World) (s : Whole) (boxer : ℕ → ℕ) (id : ℕ) (bs : List BoxView)
    → Each (IsBoxOf o s boxer id) bs → Each (λ b. b.cpu < length b.opening.cpus) bs
low o s boxer id [] h = tt
low o s boxer id (b ∷ bs) h = (
  subst (λ (w : World). b.cpu < length w.cpus) (sym (ap (λ (z : BoxView). z.opening) h.0.is))
      h.0.low,
  low o s boxer id bs h.1,
)

-- any seat may look: it is told that its boxes are apart
pub finds_apart : (o : World) (slots id i : ℕ) (m : Me)
    → Allows {S = Said} {V = View} (Holds o) slots id m i (λ n. n)
    (FindsApart (step slots i 0 0 none) m)
finds_apart o slots id i m t h homes at fits =
    let s = h.0 in
    let boxer = h.1 in
    let mine = h.5 id m.0 at in (
      m.0,
      keeps,
      tt,
      subst (λ (z : List ℕ × List View). Shows o z.0 z.1)
          (λ k. (sym (set_same t.words i) k, sym (set_again t.views id m.0 at) k)) h,
      (
        refl,
        record {
          apart = apart box_cpu (length o.cpus) id (box_of o s) boxer m.0.boxes mine.boxes
              (λ c within own.
              let u = (h.6 c within).0 in
              let same : u.0 ≡ m.0
              = some-injective _ _ (sym u.1 ∙ (ap (get_elem? t.views) own ∙ at)) in
              let e : times box_cpu c m.0.boxes ≡ 1
              = ap (λ (v : View). times box_cpu c v.boxes) (sym same) ∙ u.2 in
              omega (arith, e));
          low = low o s boxer id m.0.boxes mine.boxes;
        },
      ),
    )

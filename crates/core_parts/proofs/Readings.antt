-- for crates above: readings that an exchange makes stale
use Rattle.std.proofs.Common.{◌≡◌, ℕ, suc, ◌+◌, ◌<◌, ◌≤◌, Bool, true, false, List}
use Rattle.std.proofs.Common.{length, refl, sym, ap, ◌∙◌, subst, arith, get_or, get_or-set_same}
use Rattle.std.proofs.Common.{get_or-set_other, inl, inr}
use Rattle.std.specs.Prelude.{nat_le, slice_set}
use Rattle.std.proofs.lemmas.Bool.{cases_eq, cases_Bool, leb-false, leb-true}
use Rattle.std.proofs.lemmas.List.{ext_get_or}
use Rattle.core_world.specs.tree_plan.Shape.{Shape}
use Rattle.core_world.specs.tree_plan.Paths.{IsBelow}
use Rattle.core_parts.proofs.Under.{untouched}
use Rattle.core_world.specs.World.{CpuRecord, all_stale, no_cpu, stale, stale_if}
use Rattle.core_world.proofs.Moves.{stale_length, stale_read}

-- what isn't of a walk stays
pub same_part : {A : Type 0} (part : CpuRecord → A) (t : Shape) (exchanges : Bool) (g : ℕ)
    (ys : List CpuRecord) (d : ℕ)
    → ((e : ℕ) (y : CpuRecord) → part (stale t g e y) ≡ part y)
    → part (get_or (stale_if t exchanges g ys) d no_cpu) ≡ part (get_or ys d no_cpu)
same_part part t true g ys d same =
    ap part (stale_read t g 0 ys d) ∙ same (0 + d) (get_or ys d no_cpu)
same_part part t false g ys d same = refl

pub same_timers : (t : Shape) (exchanges : Bool) (g : ℕ) (ys : List CpuRecord) (d : ℕ)
    → (get_or (stale_if t exchanges g ys) d no_cpu).bases ≡ (get_or ys d no_cpu).bases
same_timers t exchanges g ys d =
    same_part (λ (y : CpuRecord). y.bases) t exchanges g ys d (λ e y. refl)

-- where each is stale, all are
pub each_stale : (t : Shape) (g : ℕ) (old new : List CpuRecord) → length new ≡ length old
    → ((d : ℕ) → d < length old → get_or new d no_cpu ≡ stale t g d (get_or old d no_cpu))
    → new ≡ stale_if t true g old
each_stale t g old new same each =
    let len = stale_length t g 0 old in
    ext_get_or no_cpu new (all_stale t g 0 old) (same ∙ sym len)
    (λ d low. (let low' : d < length old = omega (arith, same, low) in
    let first : 0 + d ≡ d = omega arith in
    each d low'
    ∙ (ap (λ m. stale t g m (get_or old d no_cpu)) (sym first) ∙ sym (stale_read t g 0 old d))))

module _ (t : Shape) (g n : ℕ) (old now : List CpuRecord) (within : n < length old)
    (same : length now ≡ length old) (here : get_or now n no_cpu ≡ get_or old n no_cpu) where
  pub one_more : (d : ℕ) → d < suc n
      → ((k : ℕ) → k < n → get_or now k no_cpu ≡ stale t g k (get_or old k no_cpu))
      → get_or (slice_set now n (stale t g n (get_or now n no_cpu))) d no_cpu
      ≡ stale t g d (get_or old d no_cpu)
  one_more d low before = elim (cases_eq d n) [
    | inl is ↦
        subst (λ k. get_or (slice_set now n (stale t g n (get_or now n no_cpu))) k no_cpu
        ≡ stale t g k (get_or old k no_cpu)) (sym is)
        (get_or-set_same now n (stale t g n (get_or now n no_cpu)) no_cpu
        (omega (arith, same, within))
        ∙ ap (stale t g n) here)
    | inr apart ↦
        get_or-set_other now n d (stale t g n (get_or now n no_cpu)) no_cpu apart
        ∙ before d (omega (arith, low, apart))
  ]

  pub the_rest : (d : ℕ) → suc n ≤ d → ((k : ℕ) → n ≤ k → get_or now k no_cpu ≡ get_or old k no_cpu)
      → get_or (slice_set now n (stale t g n (get_or now n no_cpu))) d no_cpu ≡ get_or old d no_cpu
  the_rest d high after =
      get_or-set_other now n d (stale t g n (get_or now n no_cpu)) no_cpu
      (λ e. absurd (omega (arith, e, high)))
      ∙ after d (omega (arith, high))

-- CPUs that aren't below the group may be left out
pub each_below : (t : Shape) (g behind : ℕ) (old new : List CpuRecord)
    → length new ≡ length old
    → ((d : ℕ) → IsBelow t d g → d < behind)
    → ((d : ℕ) → d < behind → get_or new d no_cpu ≡ stale t g d (get_or old d no_cpu))
    → ((d : ℕ) → behind ≤ d → get_or new d no_cpu ≡ get_or old d no_cpu)
    → new ≡ stale_if t true g old
each_below t g behind old new same none before after =
    each_stale t g old new same
    (λ d low. elim (cases_Bool (nat_le behind d)) [
      | inl is ↦
          let high = leb-true behind d is in
          let apart : IsBelow t d g → ⊥ = λ it. (let under = none d it in omega arith) in
          after d high ∙ sym (untouched t g d (get_or old d no_cpu) apart)
      | inr other ↦ before d (leb-false behind d other)
    ])

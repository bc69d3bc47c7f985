-- a search of all CPUs for one that wakes
use Rattle.std.proofs.Common.{◌≡◌, ℕ, ◌+◌, ◌<◌, ◌≤◌, true, Some, length, arith, inl, inr, subst}
use Rattle.std.proofs.lemmas.Bool.{cases_lt}
use Rattle.tree_plan.specs.Shape.{IsPlanned}
use Rattle.tree_plan.specs.Paths.{is_placed_in}
use Rattle.tree_plan.proofs.Below.{placed_laws}
use Rattle.core_world.specs.Covered.{kept_wakeup}
use Rattle.core_world.specs.Frames.{IsSized}
use Rattle.core_world.specs.World.{World, cpu_of}
use Rattle.trace_check.specs.Told.{IsFirstWaker, WakesIn}

module _ (w : World) (time : ℕ) where
  abbrev pub NoneWakes : ℕ → Type 0
  NoneWakes n = (d : ℕ) → d < n → WakesIn w time d → ⊥

  pub wakes_more : (n : ℕ) → NoneWakes n → (WakesIn w time n → ⊥) → NoneWakes (n + 1)
  wakes_more n so_far not_this d low wakes = elim (cases_lt d n) [
    | inl less ↦ so_far d less wakes
    | inr high ↦
        let same : d ≡ n = omega (arith, low, high) in
        not_this (subst (WakesIn w time) same wakes)
  ]

  pub first_here : (d at : ℕ) → NoneWakes d → is_placed_in w.tree d ≡ true →
      kept_wakeup (cpu_of w d) ≡ Some at → at ≤ time → IsFirstWaker w time d at
  first_here d at none placed keeps in_time = record {
    placed = placed;
    keeps = keeps;
    in_time = in_time;
    first = λ e wakes. elim (cases_lt e d) [
      | inl less ↦ absurd (none e less wakes)
      | inr high ↦ high
    ];
  }

  pub wakes_none : IsSized w → IsPlanned w.tree → (n : ℕ) → NoneWakes n → length w.cpus ≤ n →
      (d : ℕ) → WakesIn w time d → ⊥
  wakes_none sized planned n none all d wakes =
      let low = (placed_laws w.tree planned).in_range d wakes.placed in
      let count = sized.cpus in
      none d (omega (arith, low, count, all)) wakes

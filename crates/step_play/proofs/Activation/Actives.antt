-- for crates above: whom Play sees active
use Rattle.std.proofs.Common.{◌≡◌, inl, inr, ℕ, zero, suc, ◌+◌, ◌<◌, ◌&&◌, Bool, true}
use Rattle.std.proofs.Common.{List, length, sym, ap, ◌∙◌, arith}
use Rattle.std.specs.List.{list_any, range_with_len}
use Rattle.std.proofs.lemmas.Bool.{and_parts, cases_lt, false≢true, or_cases}
use Rattle.std.proofs.lemmas.List.{get_or_past}
use Rattle.std.proofs.lemmas.List.Folds.{list_any_at}
use Rattle.std.proofs.lemmas.List.FromFn.{get_or-range_with_len, length-range_with_len}
use Rattle.tree_plan.specs.Paths.{is_below}
use Rattle.tree_plan.specs.Laws.{BelowLaws}
use Rattle.play_rules.specs.State as play
use Rattle.play_rules.specs.State.{Cpu, State}
use Rattle.play_rules.specs.Hierarchy.{group_active}
use Rattle.core_world.specs.World.{World, cpu_of, is_active, no_cpu}
use Rattle.core_facts.specs.Cover.Rest.{HasActive}
use Rattle.step_play.specs.Rules.Seen.{state_of}

some_in : (p : ℕ → Bool) (n a : ℕ) → list_any p (range_with_len a n) ≡ true →
    (k : ℕ) × (k < a + n) × (p k ≡ true)
some_in p zero a e = absurd (false≢true e)
some_in p (suc n) a e = elim (or_cases (p a) (list_any p (range_with_len (a + 1) n)) e) [
  | inl here ↦ (a, omega arith, here)
  | inr rest ↦ let (k, low, is) = some_in p n (a + 1) rest in (k, omega arith, is)
]

any_in : (p : ℕ → Bool) (n k : ℕ) → k < n → p k ≡ true → list_any p (range_with_len 0 n) ≡ true
any_in p n k low is =
    let here : 0 + k ≡ k = omega arith in
    list_any_at p (range_with_len 0 n) k 0 (omega (arith, length-range_with_len 0 n))
    (ap p (get_or-range_with_len 0 n k 0 low ∙ here) ∙ is)

-- a CPU that is active is there
pub active_there : (w : World) (d : ℕ) → is_active (cpu_of w d) ≡ true → d < length w.cpus
active_there w d on = elim (cases_lt d (length w.cpus)) [
  | inl low ↦ low
  | inr high ↦ absurd (false≢true
      (sym (ap is_active (get_or_past w.cpus d no_cpu (omega arith))) ∙ on))
]

-- a state in which the CPUs are active that are so in the world
module _ (w : World) (below : BelowLaws w.tree) (cpus : List Cpu)
    (count : length cpus ≡ length w.cpus) where
  abbrev s : State
  s = record (state_of w) { cpus = cpus }

  -- an active CPU below the group
  abbrev is_one : (g d : ℕ) → Bool
  is_one g d = play.is_active s d && is_below w.tree d g

  module _ (active : (d : ℕ) → d < length w.cpus → play.is_active s d ≡ is_active (cpu_of w d))
    where
      pub group_from : (g : ℕ) → group_active s g ≡ true → HasActive w g
      group_from g e =
          let (d, low, both) = some_in (is_one g) (length cpus) 0 e in
          let parts = and_parts (play.is_active s d) (is_below w.tree d g) both in (
            d,
            (below.tested_below d g).0 parts.1,
            sym (active d (omega (arith, low, count))) ∙ parts.0,
          )

      pub group_to : (g : ℕ) → HasActive w g → group_active s g ≡ true
      group_to g (d, under, on) =
          let low = active_there w d on in
          any_in (is_one g) (length cpus) d (omega (arith, low, count))
          (λ i. (active d low ∙ on) i && (below.tested_below d g).1 under i)

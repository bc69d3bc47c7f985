-- for crates above: what carries the law holds at the start of a play
use Rattle.std.proofs.Common.{◌≡◌, ℕ, zero, suc, ◌<◌, Some, None, refl, sym, ap, ◌∙◌, subst, arith}
use Rattle.std.proofs.Common.{replicate}
use Rattle.std.specs.Prelude.{slice_index_or}
use Rattle.std.proofs.lemmas.Bool.{false≢true}
use Rattle.std.proofs.lemmas.List.{get_or-replicate, length-replicate}
use Rattle.std.proofs.lemmas.List.Elements.{All-nil}
use Rattle.std.proofs.lemmas.Option.{none-some, same_Some}
use Rattle.tree_plan.specs.Shape.{Shape, IsPlanned}
use Rattle.tree_plan.specs.Paths.{cpu_count_of, group_count_of}
use Rattle.tree_plan.proofs.Below.{below_laws}
use Rattle.tree_plan.proofs.Trees.{cut_laws, edge_laws}
use Rattle.play_rules.specs.State.{Cpu, State, cpu_at, migrator_at, new_cpu, start}
use Rattle.play_laws.proofs.Answered.Bases.{Comes}
use Rattle.play_laws.proofs.Answered.Invariant.{ActiveChild, Fits, Led, busy, rests}
use Rattle.play_laws.proofs.Answered.States.{IsKept, Nobody}

new_at : (n d : ℕ) → slice_index_or (replicate n new_cpu) d new_cpu ≡ new_cpu
new_at zero d = refl
new_at (suc n) zero = refl
new_at (suc n) (suc d) = new_at n d

module _ (t : Shape) (timers : ℕ) (planned : IsPlanned t) where
  abbrev first : State
  first = start t timers

  is_new : (d : ℕ) → cpu_at first d ≡ new_cpu
  is_new d = new_at (cpu_count_of t) d

  new_fits : (d : ℕ) → Fits t 0 d new_cpu
  new_fits d = record {
    away = λ _. (refl, refl);
    offline = λ off. absurd (false≢true (sym off));
    ungrouped = λ _. refl;
    pinned = record { all = All-nil Comes; near = omega arith };
    global = record { all = All-nil Comes; near = omega arith };
  }

  child_active : (g : ℕ) → g < group_count_of t → ActiveChild t (λ d. busy (cpu_at first d)) g 0
  child_active g low =
      let some = (cut_laws t planned).some_child g low in
      let child = (edge_laws t planned).some_at g 0 (omega (arith, some)) in
      let cpu = (below_laws t planned).some_cpu g 0 child.0 child.1 in
      record {
        child = child.0;
        cpu = cpu.0;
        there = child.1;
        on = ap busy (is_new cpu.0);
        under = ((below_laws t planned).tested_under cpu.0 child.0).1 cpu.1;
      }

  zero_at : (g : ℕ) → g < group_count_of t → migrator_at first g ≡ Some 0
  zero_at g low = get_or-replicate (group_count_of t) g (Some 0) None low

  first_led : Led t (λ d. busy (cpu_at first d)) (migrator_at first)
  first_led = record {
    some = λ g k low is. subst (ActiveChild t (λ d. busy (cpu_at first d)) g)
        (same_Some 0 k (sym (zero_at g low) ∙ is)) (child_active g low);
    none = λ g d low none on below. none-some 0 (sym none ∙ zero_at g low);
  }

  pub start_kept : IsKept Nobody (Unit {0}) first
  start_kept = record {
    planned = planned;
    in_time = omega arith;
    cpus = length-replicate (cpu_count_of t) new_cpu;
    holds = record {
      each = λ d. subst (Fits t 0 d) (sym (is_new d)) (new_fits d);
      led = first_led;
      answered = λ d free rest. absurd (false≢true (sym (ap rests (is_new d)) ∙ rest));
      top = λ _ none e told. (let never = ap (λ (x : Cpu). x.told) (is_new e) in
          absurd (omega (arith, told, never)));
    };
  }

-- for crates above: where a timer is queued, as Play looks for it
use Rattle.std.proofs.Common.{◌≡◌, ℕ, ◌<◌, true, false, length, Option, Some, None, refl}
use Rattle.std.proofs.Common.{sym, ap, ◌∙◌, subst, inl, inr, arith}
use Rattle.std.specs.Prelude.{is_some, option_and_then, option_map}
use Rattle.std.proofs.lemmas.Bool.{both_ways, cases_Bool, cases_lt}
use Rattle.std.proofs.lemmas.Option.{none-some, same_Some}
use Rattle.tm_base.specs.declared.names.Class.{Class}
use Rattle.wheel_core.specs.declared.item.Item.{Item}
use Rattle.cpu_bases.specs.CpuBases.{class_in, found_in}
use Rattle.play_rules.specs.declared.asks.Queued.{Queued}
use Rattle.play_rules.specs.State.{Cpu, State, cpu_count}
use Rattle.play_rules.specs.Timers.{bases_at, holder_of, queued_as, queued_at, where_queued}
use Rattle.play_laws.proofs.Answered.Ranges.{found_some, found_there}
use Rattle.core_world.specs.World.{CpuRecord, World, cpu_of}
use Rattle.step_play.specs.Rules.Seen.{state_of}
use Rattle.step_play.proofs.Queues.Sights.{count_seen, past_of, seen_at}

pub bases_seen : (w : World) (c : ℕ) → c < length w.cpus →
    bases_at (state_of w) c ≡ (cpu_of w c).bases
bases_seen w c low = ap (λ (x : Cpu). x.bases) (seen_at w c low)

none_class : (o : Option Class) → is_some o ≡ false → o ≡ None
none_class None is = refl
none_class (Some class) is = absurd (both_ways true is refl)

-- QUEUED NOWHERE
module _ (w : World) (timer : ℕ) where
  abbrev s : State
  s = state_of w

  found_not : (o : Option (Class × Item)) (c : ℕ) → option_map (queued_as c) o ≡ None →
      is_some (option_map (λ found. found.0) o) ≡ true → ⊥
  found_not None c none some = both_ways false refl some
  found_not (Some found) c none some = none-some (queued_as c found) (sym none)

  not_at : (o : Option ℕ) → holder_of s timer ≡ o → option_and_then (queued_at s timer) o ≡ None →
      (d : ℕ) → d < length w.cpus → is_some (class_in timer (bases_at s d)) ≡ false
  not_at None holder none d low = elim (cases_Bool (is_some (class_in timer (bases_at s d)))) [
    | inr out ↦ out
    | inl here ↦
        absurd (found_some (λ c. is_some (class_in timer (bases_at s c))) 0 (cpu_count s) d
        (omega arith) (let count = count_seen w in omega (arith, low, count)) here holder)
  ]
  not_at (Some c) holder none d low =
      absurd (found_not (found_in timer (bases_at s c)) c none
      (found_there (λ c. is_some (class_in timer (bases_at s c))) 0 (cpu_count s) c holder).passes)

  pub nowhere : where_queued s timer ≡ None → (d : ℕ) → class_in timer (cpu_of w d).bases ≡ None
  nowhere none d = elim (cases_lt d (length w.cpus)) [
    | inl low ↦
        ap (class_in timer) (sym (bases_seen w d low))
        ∙ none_class (class_in timer (bases_at s d)) (not_at (holder_of s timer) refl none d low)
    | inr high ↦ ap (λ (y : CpuRecord). class_in timer y.bases) (past_of w d high)
  ]

  -- QUEUED on a CPU
  module _ (held : Queued) where
    held_as : (o : Option (Class × Item)) (c : ℕ) → option_map (queued_as c) o ≡ Some held →
        (c ≡ held.cpu.0) × (option_map (λ found. found.0) o ≡ Some held.class)
    held_as None c is = absurd (none-some held is)
    held_as (Some found) c is =
        let same : queued_as c found ≡ held = same_Some (queued_as c found) held is in
        (ap (λ (q : Queued). q.cpu.0) same, ap (λ (q : Queued). Some q.class) same)

    held_by : (o : Option ℕ) → option_and_then (queued_at s timer) o ≡ Some held →
        class_in timer (bases_at s held.cpu.0) ≡ Some held.class
    held_by None is = absurd (none-some held is)
    held_by (Some c) is =
        let at = held_as (found_in timer (bases_at s c)) c is in
        subst (λ n. class_in timer (bases_at s n) ≡ Some held.class) at.0 at.1

    pub held_class : where_queued s timer ≡ Some held → held.cpu.0 < length w.cpus →
        class_in timer (cpu_of w held.cpu.0).bases ≡ Some held.class
    held_class is low =
        ap (class_in timer) (sym (bases_seen w held.cpu.0 low)) ∙ held_by (holder_of s timer) is

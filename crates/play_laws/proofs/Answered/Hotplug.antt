-- for crates above: a CPU leaves and hands on its duty, and another one takes control, and what
-- carries the law is kept
use Rattle.std.proofs.Common.{◌≡◌, ℕ, ◌<◌, Bool, true, false, Option, Some, None, refl, sym, ap}
use Rattle.std.proofs.Common.{◌∙◌, arith, inl, inr}
use Rattle.std.specs.Prelude.{◌&&◌, ◌==◌, find, if◌then◌else◌, is_none, is_some, nat_lt, not}
use Rattle.std.specs.List.{range_with_len}
use Rattle.std.specs.Option.{option_or}
use Rattle.std.proofs.lemmas.Bool.{and_from, and_parts, both_ways, cases_Bool, cases_eq, cases_lt}
use Rattle.std.proofs.lemmas.Bool.{cond-false, cond-true, eq-eqb, lt-ltb}
use Rattle.std.proofs.lemmas.Option.{none-some}
use Rattle.tm_base.specs.declared.names.TheConstants.{NEVER}
use Rattle.tm_base.specs.declared.faults.OpFault.TheVariants as faults
use Rattle.tree_plan.proofs.Below.{placed_laws}
use Rattle.play_rules.specs.State.{Cpu, State, all_cpus, cpu_at, cpu_count, has_group, is_active}
use Rattle.play_rules.specs.Hierarchy.{common_duty, duty, gone_offline, is_placed, least_told}
use Rattle.play_rules.specs.Hierarchy.{next_of, some_placed_active, woken}
use Rattle.play_rules.specs.Timers.{controller}
use Rattle.play_rules.specs.Operations.{last_online}
use Rattle.play_rules.specs.Play.{hands_on, plain_rules, successor}
use Rattle.play_laws.proofs.Answered.Invariant.{SomeWakes, put_other, teller_grouped}
use Rattle.play_laws.proofs.Answered.Ranges.{found_there, in_range, least_below, some_there}
use Rattle.play_laws.proofs.Answered.States.{IsKept, Nobody, Only, weaker}
use Rattle.play_laws.proofs.Answered.Wakes.{gone_cpus, goes_kept, wakes_kept}

-- WHERE NOTHING IS HANDED ON the top is kept all the same
module _ (s : State) (c : ℕ) (kept : IsKept Nobody (has_group s c ≡ false) s) where
  no_duty : has_group s c ≡ true → nat_lt (duty s c) NEVER ≡ false → SomeWakes s.tree (cpu_at s)
  no_duty grouped none quiet e told =
      elim (cases_Bool (some_placed_active s)) [
        | inl on ↦
            let at = some_there (λ d. is_placed s d && is_active s d) 0 (cpu_count s) on in
            let both = and_parts (is_placed s at.number) (is_active s at.number) at.passes in
            absurd (both_ways (is_active s at.number) (quiet at.number both.0) both.1)
        | inr off ↦
            let is : duty s c ≡ least_told s (all_cpus s) =
            cond-true (has_group s c) (common_duty s) (next_of s c) grouped
            ∙ cond-false (some_placed_active s) NEVER (least_told s (all_cpus s)) off in
            absurd (both_ways (nat_lt (duty s c) NEVER) none
            (lt-ltb (duty s c) NEVER (early e is told)))
      ]
    where
      early : (e : ℕ) → duty s c ≡ least_told s (all_cpus s) → (cpu_at s e).told < NEVER
          → duty s c < NEVER
      early e is told =
          elim (cases_lt e (cpu_count s)) [
            | inl low ↦
                let least = least_below (λ d. (cpu_at s d).told) NEVER (all_cpus s) e
                (in_range (cpu_count s) e low) in
                omega (arith, least, told, is)
            | inr high ↦
                let grouped_e = teller_grouped s.tree kept.planned (cpu_at s) s.clock e
                (kept.holds.each e) told in
                let low = (placed_laws s.tree kept.planned).in_range e
                ((placed_laws s.tree kept.planned).has_group e grouped_e) in
                let count = kept.cpus in
                absurd (omega (arith, low, count, high))
          ]

  pub stays_kept : hands_on s c ≡ false → IsKept Nobody (Unit {0}) s
  stays_kept none = record {
    planned = kept.planned;
    in_time = kept.in_time;
    cpus = kept.cpus;
    holds = record {
      each = kept.holds.each;
      led = kept.holds.led;
      answered = kept.holds.answered;
      top = λ _. (elim (cases_Bool (has_group s c)) [
        | inr out ↦ kept.holds.top out
        | inl grouped ↦ no_duty grouped (second grouped)
      ]);
    };
  }
    where
      second : has_group s c ≡ true → nat_lt (duty s c) NEVER ≡ false
      second grouped =
          elim (cases_Bool (nat_lt (duty s c) NEVER)) [
            | inr is ↦ is
            | inl on ↦ absurd (both_ways (hands_on s c) none
                (and_from (has_group s c) (nat_lt (duty s c) NEVER) grouped on))
          ]

  -- where it is handed on, there is somebody
  pub hands_placed : hands_on s c ≡ true → is_placed s c ≡ true
  hands_placed is =
      (placed_laws s.tree kept.planned).has_group c
      (and_parts (has_group s c) (nat_lt (duty s c) NEVER) is).0

-- THE SUCCESSOR is a placed online CPU
pub record IsSuccessor (s : State) (d : ℕ) : Type 0 where
  pub low : d < cpu_count s
  pub placed : is_placed s d ≡ true
  pub online : (cpu_at s d).online ≡ true

abbrev succeeds : State → (c d : ℕ) → Bool
succeeds s c d = not (d == c) && (is_placed s d && (cpu_at s d).online)

pub successor_is : (s : State) (c d : ℕ) → successor s c ≡ Some d → IsSuccessor s d
successor_is s c d is =
    let found = found_there (succeeds s c) 0 (cpu_count s) d is in
    let low = found.below in
    let both = (and_parts (not (d == c)) (is_placed s d && (cpu_at s d).online) found.passes).1 in
    let parts = and_parts (is_placed s d) (cpu_at s d).online both in
    record { low = omega (arith, low); placed = parts.0; online = parts.1 }

pub handed_kept : (s : State) (c d : ℕ) → IsKept Nobody (has_group s c ≡ false) s
    → successor s c ≡ Some d
    → IsKept Nobody (Unit {0}) (woken s d)
handed_kept s c d kept is =
    let to = successor_is s c d is in
    wakes_kept (has_group s c ≡ false) (Unit {0}) s d to.low
    (weaker Nobody (Only d) (has_group s c ≡ false) (has_group s c ≡ false) s
    (λ e none. absurd none) (λ h. h) kept) to.online
    (λ _ out. absurd (both_ways (is_placed s d) out to.placed))

-- it is the same before the CPU goes and after
module _ (s : State) (c : ℕ) (low : c < cpu_count s) (kept : IsKept Nobody (Unit {0}) s) where
  not_itself : (t : State) → succeeds t c c ≡ false
  not_itself t = ap (λ b. not b && (is_placed t c && (cpu_at t c).online)) (eq-eqb c c refl)

  same_succeeds : (d : ℕ) → succeeds (gone_offline s c) c d ≡ succeeds s c d
  same_succeeds d =
      elim (cases_eq d c) [
        | inl same ↦
            ap (succeeds (gone_offline s c) c) same ∙ not_itself (gone_offline s c)
            ∙ sym (not_itself s)
            ∙ ap (succeeds s c) (sym same)
        | inr other ↦
            let at : cpu_at (gone_offline s c) d ≡ cpu_at s d =
            ap (λ f. f d) (gone_cpus s c low kept) ∙ put_other (cpu_at s) c _ d other in
            ap (λ (x : Cpu). not (d == c) && (is_placed s d && x.online)) at
      ]

  same_count : cpu_count (gone_offline s c) ≡ cpu_count s
  same_count = (goes_kept s c low kept).cpus ∙ sym kept.cpus

  same_successor : successor (gone_offline s c) c ≡ successor s c
  same_successor = λ i. find (λ d. same_succeeds d i) (range_with_len 0 (same_count i))

  is_there : (o : Option ℕ) → (is_placed s c && is_none o) ≡ false → is_placed s c ≡ true
      → is_some o ≡ true
  is_there None out placed =
      absurd (both_ways (is_placed s c && true) out (and_from (is_placed s c) true placed refl))
  is_there (Some d) out placed = refl

  not_last : (b : Bool) → (if b then Some faults.LastOnline else None) ≡ None → b ≡ false
  not_last true none = absurd (none-some faults.LastOnline (sym none))
  not_last false none = refl

  pub others_online : last_online plain_rules s c ≡ None → is_placed s c ≡ true
      → is_some (successor (gone_offline s c) c) ≡ true
  others_online none placed =
      ap is_some same_successor
      ∙ is_there (successor s c) (not_last (is_placed s c && is_none (successor s c)) none) placed

-- CONTROL goes to an online CPU of the machine
pub record IsController (s : State) (d : ℕ) : Type 0 where
  pub low : d < cpu_count s
  pub online : (cpu_at s d).online ≡ true

abbrev first_active : State → (d : ℕ) → Bool
first_active s d = is_placed s d && ((cpu_at s d).online && not (cpu_at s d).idle)

abbrev first_online : State → (d : ℕ) → Bool
first_online s d = is_placed s d && (cpu_at s d).online

controller_by : (s : State) (o : Option ℕ) (d : ℕ) → find (first_active s) (all_cpus s) ≡ o
    → option_or o (find (first_online s) (all_cpus s)) ≡ Some d → IsController s d
controller_by s None d none is =
    let found = found_there (first_online s) 0 (cpu_count s) d is in
    let low = found.below in
    record {
      low = omega (arith, low);
      online = (and_parts (is_placed s d) (cpu_at s d).online found.passes).1;
    }
controller_by s (Some e) d at is =
    let found = found_there (first_active s) 0 (cpu_count s) d (at ∙ is) in
    let low = found.below in
    let both = (and_parts (is_placed s d) ((cpu_at s d).online && not (cpu_at s d).idle)
    found.passes).1 in
    record {
      low = omega (arith, low);
      online = (and_parts (cpu_at s d).online (not (cpu_at s d).idle) both).0;
    }

pub controller_is : (s : State) (d : ℕ) → controller s ≡ Some d → IsController s d
controller_is s d is = controller_by s (find (first_active s) (all_cpus s)) d refl is

-- for crates above: what carries the law, of a state, and what the rules of rest, wake and wakeups
-- make of it
use Rattle.std.proofs.Common.{◌≡◌, ℕ, ◌<◌, ◌≤◌, true, false, refl, sym, ap, ◌∙◌, subst, arith, inl}
use Rattle.std.proofs.Common.{inr, length, min}
use Rattle.std.specs.Prelude.{◌⊎◌, ◌&&◌, slice_set}
use Rattle.std.proofs.lemmas.Bool.{and_parts, both_ways, cases_Bool, cases_eq, cond-false}
use Rattle.std.proofs.lemmas.Bool.{cond-true}
use Rattle.std.proofs.lemmas.List.{get_or-set_other, get_or-set_same, length-set}
use Rattle.tm_base.specs.declared.names.TheConstants.{NEVER}
use Rattle.tm_base.specs.declared.limits.TheConstants.{SCRIPT_TIME_LIMIT}
use Rattle.tm_base.specs.declared.names.Class.{Class}
use Rattle.tm_base.specs.declared.names.Class.TheVariants.{Pinned, Global}
use Rattle.wheel_core.specs.declared.item.Item.{Item}
use Rattle.tree_plan.specs.Shape.{IsPlanned}
use Rattle.tree_plan.specs.Paths.{cpu_count_of}
use Rattle.tree_plan.proofs.Below.{placed_laws}
use Rattle.cpu_bases.specs.CpuBases.{CpuBases, base_of}
use Rattle.play_rules.specs.State.{Cpu, State, all_cpus, cpu_at, cpu_count, has_group, is_active}
use Rattle.play_rules.specs.State.{migrator_at, new_cpu, with_bases, with_cpu}
use Rattle.play_rules.specs.Hierarchy.{common_duty, duty, is_placed, least_told, next_of, pin_of}
use Rattle.play_rules.specs.Hierarchy.{programmed, some_placed_active, told_again}
use Rattle.play_laws.proofs.Answered.Bases.{Comes, IsBase}
use Rattle.play_laws.proofs.Answered.Invariant.{Answers, Invariant, NonePlacedActive, SomeWakes, apart_top}
use Rattle.play_laws.proofs.Answered.Invariant.{busy, put, put_alike, put_other, put_same, rests}
use Rattle.play_laws.proofs.Answered.Changes.{based_kept, programmed_kept, retold_kept, told_in}
use Rattle.play_laws.proofs.Answered.Ranges.{in_range, least_below, some_there}

-- ONE CPU IS WRITTEN
module _ (s : State) (c : ℕ) (x : Cpu) (low : c < cpu_count s) where
  written_at : (d : ℕ) → cpu_at (with_cpu s c x) d ≡ put (cpu_at s) c x d
  written_at d =
      elim (cases_eq d c) [
        | inl same ↦
            ap (cpu_at (with_cpu s c x)) same ∙ get_or-set_same s.cpus c x new_cpu low
            ∙ sym (put_same (cpu_at s) c x) ∙ ap (put (cpu_at s) c x) (sym same)
        | inr other ↦ get_or-set_other s.cpus c d x new_cpu other
            ∙ sym (put_other (cpu_at s) c x d other)
      ]

  pub written : cpu_at (with_cpu s c x) ≡ put (cpu_at s) c x
  written = λ i d. written_at d i

  pub here_is : cpu_at (with_cpu s c x) c ≡ x
  here_is = get_or-set_same s.cpus c x new_cpu low

  pub written_alike : {X : Type 0} (h : Cpu → X) → h x ≡ h (cpu_at s c) → (d : ℕ)
      → h (cpu_at (with_cpu s c x) d) ≡ h (cpu_at s d)
  written_alike {X} h same d = ap h (written_at d) ∙ put_alike (cpu_at s) c x h same d

-- where CPU c is written a second time
pub written_twice : (s : State) (c : ℕ) (x y : Cpu) → c < cpu_count s
    → cpu_at (with_cpu (with_cpu s c x) c y) ≡ put (cpu_at s) c y
written_twice s c x y low = λ i d. at d i
  where
    low_still : c < length (slice_set s.cpus c x)
    low_still = let same = length-set s.cpus c x in omega (arith, low, same)

    at : (d : ℕ) → cpu_at (with_cpu (with_cpu s c x) c y) d ≡ put (cpu_at s) c y d
    at d =
        elim (cases_eq d c) [
          | inl same ↦
              ap (cpu_at (with_cpu (with_cpu s c x) c y)) same
              ∙ get_or-set_same (slice_set s.cpus c x) c y new_cpu low_still
              ∙ sym (put_same (cpu_at s) c y) ∙ ap (put (cpu_at s) c y) (sym same)
          | inr other ↦
              get_or-set_other (slice_set s.cpus c x) c d y new_cpu other
              ∙ get_or-set_other s.cpus c d x new_cpu other
              ∙ sym (put_other (cpu_at s) c y d other)
        ]

-- WHAT IS KEPT
pub record IsKept (Owes : ℕ → Type 0) (Topped : Type 0) (s : State) : Type 0 where
  pub planned : IsPlanned s.tree
  pub in_time : s.clock < SCRIPT_TIME_LIMIT
  pub cpus : cpu_count s ≡ cpu_count_of s.tree
  pub holds : Invariant s.clock s.tree Owes Topped (cpu_at s) (migrator_at s)

-- no CPU owes anything
abbrev pub Nobody : ℕ → Type 0
Nobody d = ⊥

abbrev pub Only : ℕ → ℕ → Type 0
Only c d = d ≡ c

pub weaker : (Owes More : ℕ → Type 0) (Topped Keeps : Type 0) (s : State)
    → ((d : ℕ) → Owes d → More d) → (Keeps → Topped)
    → IsKept Owes Topped s → IsKept More Keeps s
weaker Owes More Topped Keeps s more tops kept = record {
  planned = kept.planned;
  in_time = kept.in_time;
  cpus = kept.cpus;
  holds = record {
    each = kept.holds.each;
    led = kept.holds.led;
    answered = λ d free. kept.holds.answered d (λ owes. free (more d owes));
    top = λ keeps. kept.holds.top (tops keeps);
  };
}

module _ (Owes : ℕ → Type 0) (Topped : Type 0) (s : State) (kept : IsKept Owes Topped s) (c : ℕ)
    (low : c < cpu_count s) where
  pub with_kept : (More : ℕ → Type 0) (Keeps : Type 0) (x : Cpu)
      → Invariant s.clock s.tree More Keeps (put (cpu_at s) c x) (migrator_at s)
      → IsKept More Keeps (with_cpu s c x)
  with_kept More Keeps x inv = record {
    planned = kept.planned;
    in_time = kept.in_time;
    cpus = length-set s.cpus c x ∙ kept.cpus;
    holds = subst (λ f. Invariant s.clock s.tree More Keeps f (migrator_at s))
        (sym (written s c x low)) inv;
  }

  -- its bases change
  pub bases_kept : (b : CpuBases) → IsBase Comes s.clock (base_of Pinned b)
      → IsBase Comes s.clock (base_of Global b)
      → ((Owes c → ⊥) → Answers s.clock (record (cpu_at s c) { bases = b }))
      → IsKept Owes Topped (with_bases s c b)
  bases_kept b pinned global answers =
      with_kept Owes Topped (record (cpu_at s c) { bases = b })
      (based_kept s.clock s.tree kept.planned (cpu_at s) (migrator_at s) Owes Topped kept.holds c b
      pinned global answers)

  -- they only lose items
  pub fewer_kept : (b : CpuBases)
      → ((Q : Item → Type 0) (k : Class) → IsBase Q s.clock (base_of k (cpu_at s c).bases)
      → IsBase Q s.clock (base_of k b))
      → IsKept Owes Topped (with_bases s c b)
  fewer_kept b fewer =
      let old = kept.holds.each c in
      let x = cpu_at s c in
      bases_kept b (fewer Comes Pinned old.pinned) (fewer Comes Global old.global) (λ free rest. (
      let was = kept.holds.answered c free rest in
      record {
        pinned = fewer (λ item. x.wakeup ≤ item.wheel) Pinned was.pinned;
        global = fewer (λ item. (x.wakeup ≤ item.wheel) ⊎ (x.told ≤ item.wheel)) Global was.global;
      }))

  -- it tells again
  pub told_kept : rests (cpu_at s c) ≡ true → (Topped → has_group s c ≡ false)
      → IsKept Owes Topped (told_again s c)
  told_kept sleeps out =
      with_kept Owes Topped (record (cpu_at s c)
      { told = told_in (has_group s c) (cpu_at s c).bases })
      (retold_kept s.clock s.tree kept.planned (cpu_at s) (migrator_at s) Owes Topped kept.holds c
      sleeps out)

-- A CPU PROGRAMS ITS WAKEUP
module _ (s : State) (c : ℕ) (low : c < cpu_count s)
    (kept : IsKept (Only c) (has_group s c ≡ false) s)
    (sleeps : rests (cpu_at s c) ≡ true)
    (told : (cpu_at s c).told ≡ told_in (has_group s c) (cpu_at s c).bases) where
  abbrev woken_by : Cpu
  woken_by = record (cpu_at s c) { wakeup = min (pin_of s c) (duty s c) }

  none_active : NonePlacedActive s.tree (put (cpu_at s) c woken_by) → some_placed_active s ≡ false
  none_active none =
      elim (cases_Bool (some_placed_active s)) [
        | inr off ↦ off
        | inl on ↦
            let at = some_there (λ d. is_placed s d && is_active s d) 0 (cpu_count s) on in
            let both = and_parts (is_placed s at.number) (is_active s at.number) at.passes in
            absurd (both_ways (is_active s at.number)
            (sym (put_alike (cpu_at s) c woken_by busy refl at.number) ∙ none at.number both.0)
            both.1)
      ]

  least_duty : has_group s c ≡ true → NonePlacedActive s.tree (put (cpu_at s) c woken_by)
      → duty s c ≡ least_told s (all_cpus s)
  least_duty grouped none =
      cond-true (has_group s c) (common_duty s) (next_of s c) grouped
      ∙ cond-false (some_placed_active s) NEVER (least_told s (all_cpus s)) (none_active none)

  wakes_top : has_group s c ≡ true → SomeWakes s.tree (put (cpu_at s) c woken_by)
  wakes_top grouped none e comes =
      let is = least_duty grouped none in
      let same : (put (cpu_at s) c woken_by c).wakeup ≡ min (pin_of s c) (duty s c) =
      ap (λ (x : Cpu). x.wakeup) (put_same (cpu_at s) c woken_by) in (
        c,
        record {
          placed = (placed_laws s.tree kept.planned).has_group c grouped;
          rests = ap rests (put_same (cpu_at s) c woken_by) ∙ sleeps;
          in_time = λ f below.
              let count = kept.cpus in
              let least = least_below (λ d. (cpu_at s d).told) NEVER (all_cpus s) f
              (in_range (cpu_count s) f (omega (arith, below, count))) in
              let told_f = put_alike (cpu_at s) c woken_by (λ (x : Cpu). x.told) refl f in
              omega (arith, least, told_f, same, is);
        },
      )

  programmed_top : SomeWakes s.tree (put (cpu_at s) c woken_by)
  programmed_top =
      elim (cases_Bool (has_group s c)) [
        | inl grouped ↦ wakes_top grouped
        | inr out ↦
            apart_top s.tree kept.planned (cpu_at s) s.clock kept.holds.each c woken_by out
            ((kept.holds.each c).ungrouped out) (kept.holds.top out)
      ]

  pub programs_kept : IsKept Nobody (Unit {0}) (programmed s c)
  programs_kept =
      with_kept (Only c) (has_group s c ≡ false) s kept c low Nobody (Unit {0}) woken_by
      (programmed_kept s.clock s.tree kept.planned (cpu_at s) (migrator_at s) c (duty s c)
      (has_group s c ≡ false) sleeps told
      (λ out. cond-false (has_group s c) (common_duty s) (next_of s c) out) kept.holds
      programmed_top)

-- a walk's steps, stage by stage: where it stands after them
use Rattle.std.proofs.Common.{◌≡◌, ◌⊎◌, ℕ, zero, suc, ◌+◌, ◌<◌, ◌≤◌, Bool, true, false}
use Rattle.std.proofs.Common.{true≢false, Some, None, length, get_or, refl, sym, ap, ◌∙◌, subst}
use Rattle.std.proofs.Common.{arith, cond, inl, inr}
use Rattle.std.specs.Prelude.{◌==◌, slice_set}
use Rattle.std.proofs.lemmas.Bool.{cases_eq, eq-eqb, ne_eqb}
use Rattle.std.proofs.lemmas.Option.{none-some, same_Some}
use Rattle.tm_base.specs.declared.names.TheConstants.{NEVER}
use Rattle.walk_rules.specs.declared.walk.Walk.{Walk}
use Rattle.walk_rules.specs.declared.walk.WalkKind.{WalkKind}
use Rattle.walk_rules.specs.declared.walk.WalkKind.TheVariants as kinds
use Rattle.walk_rules.specs.declared.walk.Stage.{Stage}
use Rattle.walk_rules.specs.declared.walk.Stage.TheVariants as stages
use Rattle.walk_rules.specs.Stages.{after_sight, at_stage, first_lock, first_sight, first_stage}
use Rattle.walk_rules.specs.Stages.{freed_next, free_group_next, higher}
use Rattle.walk_rules.specs.Stages.{mark_next, see_child_next, swap_next, up_next}
use Rattle.core_world.specs.Enabled.{MayGoOn}
use Rattle.core_world.specs.Steps.{finished, swapped, walked}
use Rattle.core_world.specs.World.{CpuRecord, World, cpu_of, group_of, no_cpu, stale_if}
use Rattle.core_world.proofs.Moves.{cpu_same}
use Rattle.core_facts.specs.Exchanges.{IsPast}
use Rattle.core_facts.specs.Exchanges.{past_exchange, stage_number}

-- the walk that a step of the general form leaves
is_next : (w : World) (g c : ℕ) (y : CpuRecord) (q : Bool) (j : Walk) → c < length w.cpus
    → (get_or (slice_set (stale_if w.tree q g w.cpus) c y) c no_cpu).walk ≡ Some j
    → y.walk ≡ Some j
is_next w g c y q j low is =
    sym (ap (λ (z : CpuRecord). z.walk) (cpu_same w g (group_of w g) c y q low)) ∙ is

-- GONE ON, of the stage at which the walk stood
pub record Goes (k : Walk) (at : Stage) (j : Walk) : Type 0 where
  pub kind : j.kind ≡ k.kind
  pub further : (at ≡ stages.Swap → k.fresh ≡ true)
      → (k.level < j.level) ⊎ ((j.level ≡ k.level) × (stage_number at < stage_number j.stage))
  pub exchanged : (at ≡ stages.Up) ⊎ ((at ≡ stages.Swap) × (k.fresh ≡ true)) → IsPast k.level j
  pub not_lower : k.level ≤ j.level

-- a walk that goes one level higher
up_higher : (k : Walk) (at next : Stage) → Goes k at (higher k next)
up_higher k at next = record {
  kind = refl;
  further = λ _. inl (omega arith);
  exchanged = λ _. inl (omega arith);
  not_lower = omega arith;
}

-- one that comes to a further stage which is past the exchange
comes_past : (k : Walk) (at : Stage) (j : Walk) → j.kind ≡ k.kind → j.level ≡ k.level
    → stage_number at < stage_number j.stage → past_exchange ≤ stage_number j.stage → Goes k at j
comes_past k at j kind level further past = record {
  kind = kind;
  further = λ _. inr (level, further);
  exchanged = λ _. inr (level, past);
  not_lower = omega (arith, level);
}

-- one that comes to a further stage and makes no exchange
comes_further : (k : Walk) (at : Stage) (j : Walk) → j.kind ≡ k.kind → j.level ≡ k.level
    → stage_number at < stage_number j.stage → (at ≡ stages.Up → ⊥) → (at ≡ stages.Swap → ⊥) → Goes k at j
comes_further k at j kind level further not_up not_swap = record {
  kind = kind;
  further = λ _. inr (level, further);
  exchanged = λ e. elim e [ inl up ↦ absurd (not_up up) | inr swap ↦ absurd (not_swap swap.0) ];
  not_lower = omega (arith, level);
}

-- STAGES
up_goes : (k j : Walk) (top more : Bool) → up_next top more k ≡ Some j → Goes k stages.Up j
up_goes k j true more is = absurd (none-some j is)
up_goes k j false more is =
    subst (Goes k stages.Up) (same_Some _ _ is)
    (comes_past k stages.Up (at_stage k (stages.Mark more)) refl refl (omega arith) (omega arith))

mark_goes : (k j : Walk) (more : Bool) → mark_next more k ≡ Some j → Goes k (stages.Mark more) j
mark_goes k j true is =
    subst (Goes k (stages.Mark true)) (same_Some _ _ is) (up_higher k (stages.Mark true) stages.Up)
mark_goes k j false is = absurd (none-some j is)

lock_late : (level : ℕ) → 6 ≤ stage_number (first_lock level)
lock_late zero = omega arith
lock_late (suc l) = omega arith

sight_late : (level : ℕ) → 8 ≤ stage_number (first_sight level)
sight_late zero = omega arith
sight_late (suc l) = omega arith

after_late : (level : ℕ) → 10 ≤ stage_number (after_sight level)
after_late zero = omega arith
after_late (suc l) = omega arith

scan_late : (n : ℕ) → 10 + n < stage_number (cond (n == 7) stages.Store (stages.Scan (n + 1)))
scan_late n = elim (cases_eq n 7) [
  | inl last ↦ rw (eq-eqb n 7 last) (omega (arith, last))
  | inr other ↦ rw (ne_eqb n 7 other) (omega arith)
]

first_late : (n : ℕ) → 19 + n < stage_number (cond (n == 7) stages.FreeGroup (stages.First (n + 1)))
first_late n = elim (cases_eq n 7) [
  | inl last ↦ rw (eq-eqb n 7 last) (omega (arith, last))
  | inr other ↦ rw (ne_eqb n 7 other) (omega arith)
]

store_late : (b : Bool) → 18 < stage_number (cond b (stages.First 0) stages.FreeGroup)
store_late true = omega arith
store_late false = omega arith

see_goes : (k : Walk) (on : Bool) → Goes k stages.SeeChild (see_child_next on k)
see_goes k true =
    comes_past k stages.SeeChild (see_child_next true k) refl refl (omega arith) (omega arith)
see_goes k false =
    comes_past k stages.SeeChild (see_child_next false k) refl refl (omega arith) (omega arith)

freed_goes : (k : Walk) (at : Stage) (over : Bool) → stage_number at < 29
    → Goes k at (freed_next over k)
freed_goes k at true low = comes_past k at (at_stage k stages.Finish) refl refl low (omega arith)
freed_goes k at false low = up_higher k at (first_stage k.kind)

free_goes : (k : Walk) (level : ℕ) → Goes k stages.FreeGroup (free_group_next level k)
free_goes k zero = freed_goes k stages.FreeGroup k.over (omega arith)
free_goes k (suc l) =
    comes_past k stages.FreeGroup (at_stage k stages.FreeChild) refl refl (omega arith)
    (omega arith)

handing_goes : (k j : Walk) (never : Bool)
    → cond never None (Some (at_stage k stages.Handing)) ≡ Some j → Goes k stages.Finish j
handing_goes k j true is = absurd (none-some j is)
handing_goes k j false is =
    subst (Goes k stages.Finish) (same_Some _ _ is)
    (comes_past k stages.Finish (at_stage k stages.Handing) refl refl (omega arith) (omega arith))

finish_goes : (y : CpuRecord) (k j : Walk) (kind : WalkKind) → (finished y k kind).walk ≡ Some j
    → Goes k stages.Finish j
finish_goes y k j kinds.Activate is = absurd (none-some j is)
finish_goes y k j kinds.Deactivate is = absurd (none-some j is)
finish_goes y k j kinds.Offline is = handing_goes k j (k.first == NEVER) is
finish_goes y k j kinds.Reeval is = absurd (none-some j is)
finish_goes y k j (kinds.Remote by) is = absurd (none-some j is)

store_goes : (k : Walk) (first : Bool)
    → Goes k stages.Store (at_stage k (cond first (stages.First 0) stages.FreeGroup))
store_goes k first =
    let late = store_late first in
    comes_past k stages.Store _ refl refl late (omega (arith, late))

module _ (w : World) (c : ℕ) (k j : Walk) (low : c < length w.cpus) where
  -- what the walk became is j
  to_it : (st : Stage) (n : Walk) → Some n ≡ Some j → Goes k st n → Goes k st j
  to_it st n is goes = subst (Goes k st) (same_Some n j is) goes

  swap_goes : (fresh : Bool) → fresh ≡ k.fresh → (cpu_of (swapped w c k fresh) c).walk ≡ Some j
      → Goes k stages.Swap j
  swap_goes true same is =
      let late = lock_late k.level in
      to_it stages.Swap _ (is_next w _ c _ true j low is)
      (comes_past k stages.Swap (swap_next true k) refl refl (omega (arith, late))
      (omega (arith, late)))
  swap_goes false same is =
      to_it stages.Swap _ (is_next w 0 c _ false j low is) (record {
        kind = refl;
        further = λ premise. absurd (true≢false (sym (premise refl) ∙ sym same));
        exchanged =
            λ e. elim e [
              | inl up ↦ cc
              | inr swap ↦ absurd (true≢false (sym swap.1 ∙ sym same))
            ];
        not_lower = omega arith;
      })

  pub stage_goes : (st : Stage) → MayGoOn w c k st → (cpu_of (walked w c k st) c).walk ≡ Some j
      → Goes k st j
  stage_goes stages.Own may is =
      to_it stages.Own _ (is_next w 0 c _ false j low is)
      (comes_further k stages.Own _ refl refl (omega arith) (λ e. cc) (λ e. cc))
  stage_goes stages.Up may is = up_goes k j _ _ (is_next w _ c _ true j low is)
  stage_goes (stages.Mark more) may is = mark_goes k j more (is_next w 0 c _ false j low is)
  stage_goes stages.Read may is =
      to_it stages.Read _ (is_next w 0 c _ false j low is)
      (comes_further k stages.Read _ refl refl (omega arith) (λ e. cc) (λ e. cc))
  stage_goes stages.Child may is =
      to_it stages.Child _ (is_next w 0 c _ false j low is)
      (comes_further k stages.Child _ refl refl (omega arith) (λ e. cc) (λ e. cc))
  stage_goes stages.Swap may is = swap_goes k.fresh refl is
  stage_goes stages.LockChild may is =
      to_it stages.LockChild _ (is_next w 0 c _ false j low is)
      (comes_past k stages.LockChild _ refl refl (omega arith) (omega arith))
  stage_goes stages.LockGroup may is =
      let late = sight_late k.level in
      to_it stages.LockGroup _ (is_next w 0 c _ false j low is)
      (comes_past k stages.LockGroup _ refl refl (omega (arith, late)) (omega (arith, late)))
  stage_goes stages.SeeChild may is =
      to_it stages.SeeChild _ (is_next w 0 c _ false j low is) (see_goes k _)
  stage_goes stages.SeeGroup may is =
      let late = after_late k.level in
      to_it stages.SeeGroup _ (is_next w 0 c _ false j low is)
      (comes_past k stages.SeeGroup _ refl refl (omega (arith, late)) (omega (arith, late)))
  stage_goes (stages.Scan n) may is =
      let late = scan_late n in
      to_it (stages.Scan n) _ (is_next w 0 c _ false j low is)
      (comes_past k (stages.Scan n) _ refl refl late (omega (arith, late)))
  stage_goes stages.Store may is =
      to_it stages.Store _ (is_next w 0 c _ false j low is) (store_goes k _)
  stage_goes (stages.First n) may is =
      let late = first_late n in
      to_it (stages.First n) _ (is_next w 0 c _ false j low is)
      (comes_past k (stages.First n) _ refl refl late (omega (arith, late)))
  stage_goes stages.FreeGroup may is =
      to_it stages.FreeGroup _ (is_next w 0 c _ false j low is) (free_goes k k.level)
  stage_goes stages.FreeChild may is =
      to_it stages.FreeChild _ (is_next w 0 c _ false j low is)
      (freed_goes k stages.FreeChild k.over (omega arith))
  stage_goes stages.Finish may is =
      finish_goes (cpu_of w c) k j k.kind (is_next w 0 c _ false j low is)
  stage_goes stages.Handing may is = absurd may

-- for crates above: what Play's state of a core says of CPUs and groups
use Rattle.std.proofs.Common.{◌≡◌, inl, inr, ℕ, ◌<◌, ◌≤◌, Bool, true, false, length}
use Rattle.std.proofs.Common.{None, refl, sym, ap, ◌∙◌, subst, arith, true≢false}
use Rattle.std.specs.Prelude.{◌&&◌, ◌==◌, is_some, not, nat_lt}
use Rattle.std.specs.List.{list_any, range_with_len}
use Rattle.std.specs.FinSet.{contains}
use Rattle.std.proofs.lemmas.Bool.{and_from, and_left, and_parts, cases_lt, eq-eqb, eqb-true}
use Rattle.std.proofs.lemmas.Bool.{le-ltb}
use Rattle.std.proofs.lemmas.List.{get_or_past}
use Rattle.std.proofs.lemmas.List.FromFn.{get_or-map-range_with_len, length-map-range_with_len}
use Rattle.tm_base.specs.declared.names.TheConstants.{NEVER}
use Rattle.tm_base.specs.declared.names.Child.{Child}
use Rattle.tm_base.specs.declared.names.Child.TheVariants as sorts
use Rattle.tree_plan.specs.Paths.{cpu_count_of, group_at_of, is_below, is_placed_in}
use Rattle.tree_plan.proofs.Below.{below_laws, paths}
use Rattle.play_rules.specs.State.{Cpu, all_cpus, cpu_at, cpu_count, migrator_at, new_cpu}
use Rattle.play_rules.specs.Hierarchy.{child_active, group_active}
use Rattle.walk_rules.specs.Scene.{Group, is_on, no_group}
use Rattle.core_world.specs.World.{World, cpu_of, group_of, is_active, no_cpu, scene_of}
use Rattle.step_play.specs.Rules.Live.{told_by, told_in}
use Rattle.step_play.specs.Rules.Seen.{cpu_seen, state_of}
use Rattle.step_play.specs.Queues.AtRest.{AtRest}
use Rattle.step_play.specs.Queues.Choices.{EachActiveBelow}
use Rattle.step_play.proofs.Queues.Active.{on_set, parent_on, path_on, runs, set_on}
use Rattle.step_play.proofs.Queues.Ranges.{InRun, any_is}

module _ (w : World) where
  -- there are as many CPUs
  pub count_seen : cpu_count (state_of w) ≡ length w.cpus
  count_seen = length-map-range_with_len (cpu_seen w) 0 (length w.cpus)

  pub cpus_seen : all_cpus (state_of w) ≡ range_with_len 0 (length w.cpus)
  cpus_seen = ap (range_with_len 0) count_seen

  -- each as it is
  pub seen_at : (d : ℕ) → d < length w.cpus → cpu_at (state_of w) d ≡ cpu_seen w d
  seen_at d low =
      get_or-map-range_with_len (cpu_seen w) 0 (length w.cpus) d d new_cpu low (omega arith)

  pub past_at : (d : ℕ) → length w.cpus ≤ d → cpu_at (state_of w) d ≡ new_cpu
  past_at d high =
      get_or_past (state_of w).cpus d new_cpu
      (let count = count_seen in omega (arith, count, high))

  pub past_of : (d : ℕ) → length w.cpus ≤ d → cpu_of w d ≡ no_cpu
  past_of d high = get_or_past w.cpus d no_cpu high

  -- and so the groups' migrators
  pub migrator_seen : (g : ℕ) → migrator_at (state_of w) g ≡ (group_of w g).migrator
  migrator_seen g = elim (cases_lt g (length w.groups)) [
    | inl low ↦
        get_or-map-range_with_len (λ x. (group_of w x).migrator) 0 (length w.groups) g g None low
        (omega arith)
    | inr high ↦
        get_or_past (state_of w).migrators g None
        (let count =
        length-map-range_with_len (λ x. (group_of w x).migrator) 0 (length w.groups) in
        omega (arith, count, high))
        ∙ sym (ap (λ (x : Group). x.migrator) (get_or_past w.groups g no_group high))
  ]

  pub runs_within : (d : ℕ) → is_active (cpu_of w d) ≡ true → d < length w.cpus
  runs_within d on = elim (cases_lt d (length w.cpus)) [
    | inl low ↦ low
    | inr high ↦ absurd (true≢false (sym on ∙ ap is_active (past_of d high)))
  ]

  -- an active CPU
  pub active_seen : (d : ℕ) → d < length w.cpus →
      ((cpu_at (state_of w) d).online && not (cpu_at (state_of w) d).idle)
      ≡ is_active (cpu_of w d)
  active_seen d low = ap (λ (y : Cpu). y.online && not y.idle) (seen_at d low)

module _ (w : World) (r : AtRest w) where
  -- a CPU that isn't placed has told nothing
  pub unplaced : (d l : ℕ) → is_placed_in w.tree d ≡ false → group_at_of w.tree d l ≡ None
  unplaced d l out = (paths w.tree r.planned).isolated d l out

  pub unplaced_told : (d : ℕ) → is_placed_in w.tree d ≡ false → told_by w d ≡ NEVER
  unplaced_told d out = ap (told_in w d) (unplaced d 0 out)

  pub past_unplaced : (d : ℕ) → length w.cpus ≤ d → is_placed_in w.tree d ≡ false
  past_unplaced d high =
      and_left (nat_lt d (cpu_count_of w.tree)) (not (contains w.tree.isolated d))
      (le-ltb d (cpu_count_of w.tree)
      (let sized = r.lawful.sized.cpus in omega (arith, sized, high)))

  pub told_seen : (d : ℕ) → (cpu_at (state_of w) d).told ≡ told_by w d
  told_seen d = elim (cases_lt d (length w.cpus)) [
    | inl low ↦ ap (λ (y : Cpu). y.told) (seen_at w d low)
    | inr high ↦
        ap (λ (y : Cpu). y.told) (past_at w d high)
        ∙ sym (unplaced_told d (past_unplaced d high))
  ]

  pub told_same : ◌≡◌ {A = ℕ → ℕ} (λ d. (cpu_at (state_of w) d).told) (told_by w)
  told_same = λ i d. told_seen d i

  -- ACTIVE BELOW
  abbrev runs_there : (g d : ℕ) → Bool
  runs_there g d =
      ((cpu_at (state_of w) d).online && not (cpu_at (state_of w) d).idle) && is_below w.tree d g

  abbrev is_it : (c d : ℕ) → Bool
  is_it c d = ((cpu_at (state_of w) d).online && not (cpu_at (state_of w) d).idle) && d == c

  pub group_seen : (g : ℕ) → is_some (group_of w g).migrator ≡ group_active (state_of w) g
  group_seen g =
      any_is (runs_there g) (length w.cpus) (is_some (group_of w g).migrator) to from
      ∙ ap (list_any (runs_there g)) (sym (cpus_seen w))
    where
      to : InRun (runs_there g) 0 (length w.cpus) → is_some (group_of w g).migrator ≡ true
      to at =
          let low : at.number < length w.cpus = omega (arith, at.within) in
          let parts = and_parts ((cpu_at (state_of w) at.number).online
          && not (cpu_at (state_of w) at.number).idle) (is_below w.tree at.number g) at.passes in
          let below = ((below_laws w.tree r.planned).tested_below at.number g).0 parts.1 in
          path_on w r at.number below.0 g (sym (active_seen w at.number low) ∙ parts.0) below.1

      from : is_some (group_of w g).migrator ≡ true → InRun (runs_there g) 0 (length w.cpus)
      from on =
          let run = runs w r g on in
          let low = runs_within w run.runner run.active in
          record {
            number = run.runner;
            from = omega arith;
            within = omega (arith, low);
            passes = and_from ((cpu_at (state_of w) run.runner).online
                && not (cpu_at (state_of w) run.runner).idle) (is_below w.tree run.runner g)
                (active_seen w run.runner low ∙ run.active)
                (((below_laws w.tree r.planned).tested_below run.runner g).1 run.below);
          }

  pub child_seen : (m : Child) → is_on (scene_of w) m ≡ child_active (state_of w) m
  child_seen (sorts.Group x) = group_seen x.0
  child_seen (sorts.Cpu c) =
      any_is (is_it c.0) (length w.cpus) (is_active (cpu_of w c.0)) to from
      ∙ ap (list_any (is_it c.0)) (sym (cpus_seen w))
    where
      to : InRun (is_it c.0) 0 (length w.cpus) → is_active (cpu_of w c.0) ≡ true
      to at =
          let low : at.number < length w.cpus = omega (arith, at.within) in
          let parts = and_parts ((cpu_at (state_of w) at.number).online
          && not (cpu_at (state_of w) at.number).idle) (at.number == c.0) at.passes in
          subst (λ d. is_active (cpu_of w d) ≡ true) (eqb-true at.number c.0 parts.1)
          (sym (active_seen w at.number low) ∙ parts.0)

      from : is_active (cpu_of w c.0) ≡ true → InRun (is_it c.0) 0 (length w.cpus)
      from on =
          let low = runs_within w c.0 on in
          record {
            number = c.0;
            from = omega arith;
            within = omega (arith, low);
            passes = and_from ((cpu_at (state_of w) c.0).online
                && not (cpu_at (state_of w) c.0).idle) (c.0 == c.0)
                (active_seen w c.0 low ∙ on) (eq-eqb c.0 c.0 refl);
          }

pub active_below : EachActiveBelow
active_below w r = record {
  group = group_seen w r;
  child = child_seen w r;
  bits = λ m g parent. (set_on w r m g parent, on_set w r m g parent);
  parent = parent_on w r;
}

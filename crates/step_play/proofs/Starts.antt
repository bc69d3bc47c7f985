-- for crates above: the core at the start of a play
use Rattle.std.proofs.Common.{◌≡◌, ℕ, ◌<◌, ◌≤◌, Bool, true, false, length, replicate, Option, Some}
use Rattle.std.proofs.Common.{None, refl, sym, ap, ◌∙◌, subst, inl, inr, arith}
use Rattle.std.specs.Prelude.{is_none, if◌then◌else◌}
use Rattle.std.proofs.lemmas.Bool.{cases_lt}
use Rattle.std.proofs.lemmas.List.{get_or-replicate, get_or_past, length-replicate}
use Rattle.std.proofs.lemmas.List.FromFn.{fill_by_all, get_or-map-range_with_len}
use Rattle.std.proofs.lemmas.List.FromFn.{length-map-range_with_len}
use Rattle.std.proofs.lemmas.Option.{none-some}
use Rattle.tm_base.specs.declared.names.TheConstants.{NEVER}
use Rattle.tm_base.specs.declared.names.Class.{Class}
use Rattle.tm_base.specs.declared.names.Class.TheVariants.{Pinned, Global, Deferrable}
use Rattle.wheel_core.specs.PlainBase.{NoneBehind}
use Rattle.cpu_bases.specs.CpuBases.{base_of, empty_bases}
use Rattle.event_queue.specs.declared.event.Event.{Event}
use Rattle.event_queue.specs.EventMap.{event_at}
use Rattle.tree_plan.specs.Shape.{IsPlanned, Shape}
use Rattle.tree_plan.specs.Paths.{child_count_of, cpu_count_of, group_at_of, group_count_of}
use Rattle.play_rules.specs.State.{new_cpu, start}
use Rattle.walk_rules.specs.Scene.{Group, no_group}
use Rattle.tm_script.specs.declared.syntax.Script.{Script}
use Rattle.tm_script.specs.Grammar.{IsScript}
use Rattle.play_laws.proofs.Answered.Scripts.{planned_for, tree_for}
use Rattle.core_facts.specs.core_laws.Start.Layer.{StartsLawful}
use Rattle.core_world.specs.Lawful.{IsLawful}
use Rattle.core_world.specs.Start.{start_cpu, start_group, start_of}
use Rattle.core_world.specs.World.{CpuRecord, World, cpu_of, group_of, no_cpu}
use Rattle.step_play.specs.Rules.Live.{counting, expiry_of, first_in, live, told_by, told_in}
use Rattle.step_play.specs.Rules.Seen.{InPlay, WalkFits, cpu_seen, resting, state_of}
use Rattle.step_play.specs.SamePlay.{core_start}

module _ (t : Shape) (timers : ℕ) where
  abbrev w : World
  w = start_of t timers

  -- GROUPS: each there is active, and no event is anywhere
  group_there : (g : ℕ) → g < group_count_of t → group_of w g ≡ start_group (child_count_of t g)
  group_there g low =
      get_or-map-range_with_len (λ h. start_group (child_count_of t h)) 0 (group_count_of t) g g
      no_group low (omega arith)

  group_past : (g : ℕ) → group_count_of t ≤ g → group_of w g ≡ no_group
  group_past g high =
      get_or_past w.groups g no_group
      (omega (
        arith,
        high,
        length-map-range_with_len (λ h. start_group (child_count_of t h)) 0
            (group_count_of t),
      ))

  none_at : (k : ℕ) → event_at (replicate 8 None) k ≡ None
  none_at k = elim (cases_lt k 8) [
    | inl low ↦ get_or-replicate 8 k None None low
    | inr high ↦
        get_or_past (replicate 8 None) k None
        (omega (arith, high, length-replicate {A = Option Event} 8 None))
  ]

  group_all : {X : Type 0} (f : Group → X) (x : X) → ((n : ℕ) → f (start_group n) ≡ x) →
      f no_group ≡ x → (g : ℕ) → f (group_of w g) ≡ x
  group_all f x there past g = elim (cases_lt g (group_count_of t)) [
    | inl low ↦ ap f (group_there g low) ∙ there (child_count_of t g)
    | inr high ↦ ap f (group_past g high) ∙ past
  ]

  no_event : (g k : ℕ) → live w g k ≡ None
  no_event g k =
      ap counting (group_all (λ z. event_at z.events k) None (λ n. none_at k) refl g)

  no_first : (g : ℕ) → first_in (group_of w g).events ≡ None
  no_first g = group_all (λ z. first_in z.events) None (λ n. refl) refl g

  nothing_told : (c : ℕ) → told_by w c ≡ NEVER
  nothing_told c = by_leaf (group_at_of t c 0)
    where
      by_leaf : (o : Option ℕ) → told_in w c o ≡ NEVER
      by_leaf None = refl
      by_leaf (Some leaf) = ap expiry_of (no_event leaf _)

  -- CPUS: all are alike
  cpu_there : (c : ℕ) → c < cpu_count_of t → cpu_of w c ≡ start_cpu
  cpu_there c low = get_or-replicate (cpu_count_of t) c start_cpu no_cpu low

  cpu_all : {X : Type 0} (f : CpuRecord → X) (x : X) → f start_cpu ≡ x → f no_cpu ≡ x → (c : ℕ) →
      f (cpu_of w c) ≡ x
  cpu_all f x there past c = elim (cases_lt c (cpu_count_of t)) [
    | inl low ↦ ap f (cpu_there c low) ∙ there
    | inr high ↦
        ap f (get_or_past w.cpus c no_cpu
        (omega (arith, high, length-replicate (cpu_count_of t) start_cpu))) ∙ past
  ]

  empty_whole : (class : Class) → NoneBehind (base_of class empty_bases)
  empty_whole Pinned wheel is = absurd (none-some wheel is)
  empty_whole Global wheel is = absurd (none-some wheel is)
  empty_whole Deferrable wheel is = absurd (none-some wheel is)

  pub start_in_play : IsLawful w → IsPlanned t → InPlay resting w
  start_in_play lawful planned = record {
    in_run = record {
      lawful = lawful;
      planned = planned;
      whole = λ c class.
          subst (λ b. NoneBehind (base_of class b))
          (sym (cpu_all (λ z. z.bases) empty_bases refl refl c)) (empty_whole class);
      inside = cpu_all (λ z. z.inside) false refl refl;
      marks = cpu_all (λ z. z.mark) None refl refl;
      walks = λ c.
          subst (WalkFits resting c) (sym (cpu_all (λ z. z.walk) None refl refl c)) refl;
    };
    exact = λ x p parent. no_event p _
        ∙ sym (by_migrator (is_none (group_of w x).migrator) (first_in (group_of w x).events)
        (no_first x));
    told = λ c off. nothing_told c;
  }
    where
      by_migrator : (b : Bool) (o : Option Event) → o ≡ None → (if b then o else None) ≡ None
      by_migrator true o none = none
      by_migrator false o none = refl

  -- what Play sees of it
  cpu_new : (c : ℕ) → c < cpu_count_of t → new_cpu ≡ cpu_seen w c
  cpu_new c low = λ i. record {
    online = (sym (cpu_there c low) i).online;
    idle = (sym (cpu_there c low) i).idle;
    wakeup = (sym (cpu_there c low) i).wakeup;
    told = sym (nothing_told c) i;
    bases = (sym (cpu_there c low) i).bases;
  }

  pub start_seen : state_of w ≡ start t timers
  start_seen = λ i. record {
    clock = 0;
    timers = timers;
    tree = t;
    cpus = sym (fill_by_all (cpu_seen w) (replicate (cpu_count_of t) new_cpu) (length w.cpus)
        new_cpu (length-replicate (cpu_count_of t) new_cpu ∙ sym (length-replicate (cpu_count_of t)
        start_cpu))
        (λ c low. let within : c < cpu_count_of t =
        omega (arith, low, length-replicate (cpu_count_of t) start_cpu) in
        get_or-replicate (cpu_count_of t) c new_cpu new_cpu within ∙ cpu_new c within)) i;
    migrators = sym (fill_by_all (λ g. (group_of w g).migrator)
        (replicate (group_count_of t) (Some 0)) (length w.groups) None
        (length-replicate (group_count_of t) (Some 0)
        ∙ sym (length-map-range_with_len (λ h. start_group (child_count_of t h)) 0
        (group_count_of t)))
        (λ g low. let within : g < group_count_of t =
        omega (
          arith,
          low,
          length-map-range_with_len (λ h. start_group (child_count_of t h)) 0
              (group_count_of t),
        ) in
        get_or-replicate (group_count_of t) g (Some 0) None within
        ∙ sym (ap (λ (z : Group). z.migrator) (group_there g within)))) i;
  }

-- THE START of every script is in play
pub core_starts : StartsLawful → (script : Script) → IsScript script →
    InPlay resting (core_start script)
core_starts starts script is =
    start_in_play (tree_for script) script.timers
    (starts script.nodes script.cpus script.timers script.isolated (planned_for script is).limits
    (let few = is.few_timers in omega (arith, few))) (planned_for script is)

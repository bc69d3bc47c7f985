-- for crates above: a look names whom Play names
use Rattle.std.proofs.Common.{◌≡◌, inl, inr, ℕ, ◌<◌, ◌≤◌, cond, Bool, true, false, List}
use Rattle.std.proofs.Common.{length, Option, Some, None, refl, sym, ap, ◌∙◌, subst, arith}
use Rattle.std.proofs.Common.{true≢false}
use Rattle.std.specs.Prelude.{◌&&◌, ◌==◌, IfSome, filter, find, is_none, nat_le, option_and_then}
use Rattle.std.specs.Prelude.{option_map}
use Rattle.std.specs.List.{range_with_len}
use Rattle.std.proofs.lemmas.Bool.{and_from, and_parts, cases_Bool, eq-eqb, eqb-true}
use Rattle.std.proofs.lemmas.Bool.{false_from_ne_true, le-leb, leb-false, leb-true, not-true}
use Rattle.std.proofs.lemmas.Bool.{not_from_false}
use Rattle.std.proofs.lemmas.Option.{none-some, same_Some}
use Rattle.tm_base.specs.CpuSet.{Cpus}
use Rattle.tm_base.specs.declared.names.TheConstants.{NEVER}
use Rattle.event_queue.specs.declared.event.Event.{Event}
use Rattle.event_queue.specs.EventMap.{Counts, event_at}
use Rattle.tree_plan.specs.Paths.{IsBelow, child_towards, group_at_of, is_below, level_of}
use Rattle.tree_plan.proofs.Below.{below_laws, paths, placed_laws}
use Rattle.tree_plan.proofs.Trees.{edge_laws}
use Rattle.play_rules.specs.State.{cpu_at}
use Rattle.play_rules.specs.Hierarchy.{due_sleeper, inactive_child, is_due_sleeper}
use Rattle.play_rules.specs.Hierarchy.{least_told, towards}
use Rattle.walk_rules.specs.Scene.{is_on}
use Rattle.core_world.specs.World.{World, cpu_of, group_of, scene_of}
use Rattle.step_play.specs.Rules.Live.{counting, due_only, first, first_due_in, live, told_by}
use Rattle.step_play.specs.Rules.Seen.{state_of}
use Rattle.step_play.specs.Rules.StepRules.{can_be_taken, named_at}
use Rattle.step_play.specs.Queues.AtRest.{AtRest}
use Rattle.step_play.specs.Queues.Choices.{IsBelowIdle, NamedCanBeTaken, NamesAlike, NoneDue}
use Rattle.step_play.specs.Queues.Leftmost.{IsLeftmost, Leftmost}
use Rattle.step_play.proofs.Queues.Dues.{Fresh, come, due_is, first_due}
use Rattle.step_play.proofs.Queues.Firsts.{any_first, each_slot}
use Rattle.step_play.proofs.Queues.Ranges.{found, least_is, none_pass}
use Rattle.step_play.proofs.Queues.Sights.{child_seen, cpus_seen, told_seen}

module _ (w : World) (r : AtRest w) where
  abbrev pub Below : (g d : ℕ) → Type 0
  Below g d = (k : ℕ) × IsBelowIdle w g k d

  -- who is below a group has a number
  pub below_within : (g d : ℕ) → IsBelow w.tree d g → d < length w.cpus
  below_within g d below =
      let low = (placed_laws w.tree r.planned).in_range d
      ((below_laws w.tree r.planned).placed d g below) in
      let sized = r.lawful.sized.cpus in
      omega (arith, low, sized)

  pub is_below_group : (g d : ℕ) → Below g d → IsBelow w.tree d g
  is_below_group g d b =
      (below_laws w.tree r.planned).group d g b.0 b.1.child b.1.there b.1.under

  -- SLEEPERS of Play
  module _ (g d : ℕ) where
    towards_as : (b : Bool) → is_below w.tree d g ≡ b →
        towards w.tree d g ≡ cond b (child_towards w.tree d (level_of w.tree g)) None
    towards_as b is = ap (λ v. cond v (child_towards w.tree d (level_of w.tree g)) None) is

    rests_to : inactive_child (state_of w) (towards w.tree d g) ≡ true → Below g d
    rests_to rests = elim (cases_Bool (is_below w.tree d g)) [
      | inl is ↦
          let below = ((below_laws w.tree r.planned).tested_below d g).0 is in
          let at = (paths w.tree r.planned).towards d (level_of w.tree g) g
          ((paths w.tree r.planned).below d g below) in
          let off : is_on (scene_of w) at.0 ≡ false =
          child_seen w r at.0 ∙ not-true _
          (sym (ap (inactive_child (state_of w)) (towards_as true is ∙ at.1)) ∙ rests) in (
            _,
            record {
              child = at.0;
              there = at.3;
              under = (paths w.tree r.planned).reached d (level_of w.tree g) at.0 at.1;
              off = off;
            },
          )
      | inr other ↦
          absurd (true≢false (sym rests
          ∙ ap (inactive_child (state_of w)) (towards_as false other)))
    ]

    rests_from : Below g d → inactive_child (state_of w) (towards w.tree d g) ≡ true
    rests_from b =
        let is = ((below_laws w.tree r.planned).tested_below d g).1 (is_below_group g d b) in
        let through = (paths w.tree r.planned).under d g b.1.child
        ((edge_laws w.tree r.planned).parent g b.0 b.1.child b.1.there) b.1.under in
        ap (inactive_child (state_of w)) (towards_as true is ∙ through)
        ∙ not_from_false _ (sym (child_seen w r b.1.child) ∙ b.1.off)

    sleeper_to : is_due_sleeper (state_of w) g d ≡ true → (told_by w d ≤ w.clock) × Below g d
    sleeper_to is =
        let parts = and_parts (nat_le (cpu_at (state_of w) d).told w.clock)
        (inactive_child (state_of w) (towards w.tree d g)) is in
        let soon = leb-true (cpu_at (state_of w) d).told w.clock parts.0 in
        let same = told_seen w r d in
        (omega (arith, soon, same), rests_to parts.1)

    sleeper_from : told_by w d ≤ w.clock → Below g d → is_due_sleeper (state_of w) g d ≡ true
    sleeper_from soon b =
        and_from (nat_le (cpu_at (state_of w) d).told w.clock)
        (inactive_child (state_of w) (towards w.tree d g))
        (le-leb (cpu_at (state_of w) d).told w.clock
        (let same = told_seen w r d in omega (arith, soon, same)))
        (rests_from b)

  -- Play's choice
  module _ (g : ℕ) where
    abbrev sleepers : List ℕ
    sleepers = filter (is_due_sleeper (state_of w) g) (range_with_len 0 (length w.cpus))

    abbrev tells_least : ℕ → ℕ → Bool
    tells_least m d = (cpu_at (state_of w) d).told == m

    choice_as : due_sleeper (state_of w) g
        ≡ find (tells_least (least_told (state_of w) sleepers)) sleepers
    choice_as =
        ap (λ cpus. find (tells_least (least_told (state_of w)
        (filter (is_due_sleeper (state_of w) g) cpus)))
        (filter (is_due_sleeper (state_of w) g) cpus)) (cpus_seen w)

    -- nobody, where nobody's time has come
    none_sleeps : ((d : ℕ) → Below g d → w.clock < told_by w d) →
        due_sleeper (state_of w) g ≡ None
    none_sleeps late =
        choice_as ∙ ap (λ cpus. find (tells_least (least_told (state_of w) cpus)) cpus)
        (none_pass (is_due_sleeper (state_of w) g) 0 (length w.cpus)
        (λ d from to. false_from_ne_true _ (λ is.
        let at = sleeper_to g d is in let far = late d at.1 in omega (arith, at.0, far))))

    -- else the leftmost
    module _ (e : Event) (one : IsLeftmost (told_by w) (Below g) e)
        (soon : e.expiry ≤ w.clock) where
      within : e.cpu.0 < length w.cpus
      within = below_within g e.cpu.0 (is_below_group g e.cpu.0 one.among)

      told_is : (cpu_at (state_of w) e.cpu.0).told ≡ e.expiry
      told_is = told_seen w r e.cpu.0 ∙ sym one.expiry

      sleeps : is_due_sleeper (state_of w) g e.cpu.0 ≡ true
      sleeps =
          sleeper_from g e.cpu.0 (let same = one.expiry in omega (arith, same, soon)) one.among

      least : least_told (state_of w) sleepers ≡ e.expiry
      least =
          least_is (λ d. (cpu_at (state_of w) d).told) (is_due_sleeper (state_of w) g)
          (length w.cpus) NEVER e.expiry (let comes = one.comes in omega (arith, comes))
          (λ d low is. let low = one.least d (sleeper_to g d is).1 in let same = told_seen w r d in
          omega (arith, low, same))
          (inr (e.cpu.0, within, sleeps, told_is))

      leftmost_sleeps : due_sleeper (state_of w) g ≡ Some e.cpu.0
      leftmost_sleeps =
          choice_as ∙ (ap (λ m. find (tells_least m) sleepers) least
          ∙ found (tells_least e.expiry) (is_due_sleeper (state_of w) g) 0 (length w.cpus) e.cpu.0
          (omega arith) (omega (arith, within)) sleeps
          (eq-eqb (cpu_at (state_of w) e.cpu.0).told e.expiry told_is)
          (λ d is tells. one.leftmost d (sleeper_to g d is).1
          (sym (told_seen w r d) ∙ eqb-true (cpu_at (state_of w) d).told e.expiry tells)))

  -- THE QUEUE'S
  module _ (tried : Cpus) (none_due : NoneDue w tried) (g : ℕ) where
    fresh : (k : ℕ) (o : Option Event) → event_at (group_of w g).events k ≡ o →
        IfSome o (λ e. Counts e → Fresh w.clock tried e)
    fresh k None is = tt
    fresh k (Some e) is = λ counts was.
        let there : live w g k ≡ Some e =
        ap counting is ∙ ap (λ b. cond b None (Some e)) counts in
        let one : IsLeftmost (told_by w) (λ d. IsBelowIdle w g k d) e =
        subst (Leftmost (told_by w) (λ d. IsBelowIdle w g k d)) there (each_slot w r g k) in
        let far = none_due e.cpu.0 was in
        let same = one.expiry in
        omega (arith, far, same)

    due_first : first_due_in w.clock tried (group_of w g).events
        ≡ due_only w.clock tried (first w g)
    due_first =
        first_due w.clock tried None (group_of w g).events tt
        (λ k. fresh k (event_at (group_of w g).events k) refl)

    due_as : (e : Event) → IsLeftmost (told_by w) (Below g) e →
        due_only w.clock tried (Some e) ≡ come w.clock tried e
    due_as e one =
        due_is w.clock tried e
        (λ was. let far = none_due e.cpu.0 was in let same = one.expiry in omega (arith, far, same))

    by_first : (o : Option Event) → Leftmost (told_by w) (Below g) o →
        option_map (λ (e : Event). e.cpu.0) (due_only w.clock tried o) ≡ due_sleeper (state_of w) g
    by_first None none =
        sym (none_sleeps g (λ d b. let never = none d b in let clock = r.lawful.times.clock in
        omega (arith, never, clock)))
    by_first (Some e) one =
        ap (option_map (λ (x : Event). x.cpu.0)) (due_as e one)
        ∙ elim (cases_Bool (nat_le e.expiry w.clock)) [
          | inl due ↦
              ap (λ b. option_map (λ (x : Event). x.cpu.0) (cond b (Some e) None)) due
              ∙ sym (leftmost_sleeps g e one (leb-true e.expiry w.clock due))
          | inr late ↦
              ap (λ b. option_map (λ (x : Event). x.cpu.0) (cond b (Some e) None)) late
              ∙ sym (none_sleeps g (λ d b.
              let far = leb-false e.expiry w.clock late in
              let low = one.least d b in
              omega (arith, far, low)))
        ]

    pub names_alike : named_at w tried g ≡ due_sleeper (state_of w) g
    names_alike =
        ap (option_map (λ (e : Event). e.cpu.0)) due_first ∙ by_first (first w g) (any_first w r g)

    -- whoever is named told a time that has come
    has_come : (d : ℕ) (o : Option Event) → Leftmost (told_by w) (Below g) o →
        option_map (λ (e : Event). e.cpu.0) (due_only w.clock tried o) ≡ Some d →
        (told_by w d ≤ w.clock) × (told_by w d < NEVER)
    has_come d None none is = absurd (none-some d is)
    has_come d (Some e) one is =
        elim (cases_Bool (nat_le e.expiry w.clock)) [
          | inl due ↦
              let named = sym (ap (option_map (λ (x : Event). x.cpu.0)) (due_as e one)
              ∙ ap (λ b. option_map (λ (x : Event). x.cpu.0) (cond b (Some e) None)) due) ∙ is in
              let same : e.expiry ≡ told_by w d =
              one.expiry ∙ ap (told_by w) (same_Some e.cpu.0 d named) in
              let soon = leb-true e.expiry w.clock due in
              let comes = one.comes in
              (omega (arith, same, soon), omega (arith, same, comes))
          | inr late ↦
              absurd (none-some d (sym (ap (option_map (λ (x : Event). x.cpu.0)) (due_as e one)
              ∙ ap (λ b. option_map (λ (x : Event). x.cpu.0) (cond b (Some e) None)) late) ∙ is))
        ]

    pub named_come : (d : ℕ) → named_at w tried g ≡ Some d →
        (told_by w d ≤ w.clock) × (told_by w d < NEVER)
    named_come d is =
        has_come d (first w g) (any_first w r g)
        (sym (ap (option_map (λ (e : Event). e.cpu.0)) due_first) ∙ is)

pub each_names_alike : NamesAlike
each_names_alike w r c level tried none_due =
    λ i. option_and_then (λ g. names_alike w r tried none_due g i) (group_at_of w.tree c level)

-- who told something is online and idle
can_take : (w : World) (r : AtRest w) (d : ℕ) → (told_by w d ≤ w.clock) × (told_by w d < NEVER) →
    (cpu_of w d).walk ≡ None → (cpu_of w d).mark ≡ None → can_be_taken w d ≡ true
can_take w r d come walk mark = elim (cases_Bool ((cpu_of w d).online && (cpu_of w d).idle)) [
  | inr other ↦ let never = r.told d other in absurd (omega (arith, never, come.1))
  | inl both ↦
      let parts = and_parts (cpu_of w d).online (cpu_of w d).idle both in
      let free : is_none (cpu_of w d).walk ≡ true = ap is_none walk in
      let unmarked : is_none (cpu_of w d).mark ≡ true = ap is_none mark in
      let due : nat_le (told_by w d) w.clock ≡ true = le-leb (told_by w d) w.clock come.0 in
      λ i. parts.0 i && (parts.1 i && (free i && (unmarked i && due i)))
]

pub each_can_be_taken : NamedCanBeTaken
each_can_be_taken w r c level d tried none_due named walk mark =
    by_group (group_at_of w.tree c level) named
  where
    by_group : (o : Option ℕ) → option_and_then (named_at w tried) o ≡ Some d →
        can_be_taken w d ≡ true
    by_group None is = absurd (none-some d is)
    by_group (Some g) is = can_take w r d (named_come w r tried none_due g d is) walk mark

-- for crates above: with no walk and no interrupt under way the choice answers
use Rattle.std.proofs.Common.{◌≡◌, ℕ, ◌+◌, ◌-◌, ◌<◌, ◌≤◌, Bool, true, false, length}
use Rattle.std.proofs.Common.{Option, Some, None, refl, sym, ap, ◌∙◌, subst, arith, inl, inr}
use Rattle.std.proofs.Common.{true≢false}
use Rattle.std.specs.Prelude.{◌&&◌, if◌then◌else◌, find, is_some, nat_le, not, option_and_then}
use Rattle.std.specs.Prelude.{option_map, unwrap_or}
use Rattle.std.proofs.lemmas.Bool.{and_from, and_parts, cases_Bool, cases_lt, cond-false, cond-true}
use Rattle.std.proofs.lemmas.Bool.{le-leb, leb-false, leb-true, not_from_false}
use Rattle.std.proofs.lemmas.Option.{none-some, same_Some}
use Rattle.tm_base.specs.declared.names.TheConstants.{NEVER}
use Rattle.tm_base.specs.Children.{of_cpu, of_group}
use Rattle.event_queue.specs.declared.event.Event.{Event}
use Rattle.event_queue.specs.EventMap.{event_at}
use Rattle.tree_plan.specs.Shape.{IsPlanned}
use Rattle.tree_plan.specs.Paths.{child_at, group_at_of, is_placed_in, level_count_of, level_of}
use Rattle.tree_plan.proofs.Below.{paths, placed_laws}
use Rattle.tree_plan.proofs.Trees.{edge_laws, level_laws}
use Rattle.coverage.specs.Coverage.{Held, IsAnsweredFor, Leads, TopWakes, to_cpu, to_group}
use Rattle.play_rules.specs.Covers.{led_from, led_to, lowest_active_group, waker_by}
use Rattle.play_rules.specs.Covers.{wakes_by}
use Rattle.play_rules.specs.State.{cpu_at}
use Rattle.step_play.proofs.play_laws.Answered.Ranges.{found_some, found_there}
use Rattle.walk_rules.specs.Hierarchy.{side}
use Rattle.core_world.specs.Covered.{IsSettled, kept_wakeup, live_expiry, machine_of}
use Rattle.core_world.specs.Lawful.{IsLawful}
use Rattle.core_world.specs.Wakeups.{is_undisturbed}
use Rattle.core_world.specs.World.{CpuRecord, World, cpu_of, group_of}
use Rattle.step_play.proofs.core_facts.Cover.Settling.{first_settled}
use Rattle.step_play.specs.Rules.Live.{counting, expiry_of, live}
use Rattle.step_play.specs.Rules.Seen.{state_of}
use Rattle.step_play.specs.Rules.StepRules.{event_at_top, time_at_top}
use Rattle.step_play.proofs.Queues.Sights.{cpus_seen, migrator_seen}
use Rattle.core_machine.proofs.Views.Seen.{idle_seen, online_seen, wakeup_seen}
use Rattle.core_machine.specs.declared.answers.cover.Cover.{Cover}
use Rattle.core_machine.specs.declared.answers.cover.Cover.TheVariants as covers
use Rattle.core_machine.specs.Covers.Answers.{IsHeldByMigrators, IsWokenAt, first_global_of}
use Rattle.core_machine.specs.Covers.Choice.{cover_by_migrator, cover_by_wakeup, choice_above, choice_for}
use Rattle.core_machine.specs.Covers.Choice.{choice_of}
use Rattle.core_machine.specs.Covers.Choice.{choice_where, first_wheel, waits}
use Rattle.core_machine.proofs.Covers.Leading.{led_step}
use Rattle.core_machine.proofs.Covers.Lowest.{lowest_at, lowest_none}

-- that a choice for CPU c answers
abbrev pub Answers : World → (c : ℕ) → Cover → Type 0
Answers w c (covers.Migrator g m) = IsHeldByMigrators w c g.0 m.0
Answers w c (covers.Wake d at) = IsWokenAt w c d.0 at

-- what is said of a CPU that keeps a wakeup
record KeepsAt (y : CpuRecord) (at : ℕ) : Type 0 where
  online : y.online ≡ true
  idle : y.idle ≡ true
  wakeup : y.wakeup ≡ at

keeper : (y : CpuRecord) (at : ℕ) → kept_wakeup y ≡ Some at → KeepsAt y at
keeper y at is =
    let rest = not y.inside && is_undisturbed y.walk in
    elim (cases_Bool (y.online && (y.idle && rest))) [
      | inl keeps ↦
          let parts = and_parts y.online (y.idle && rest) keeps in
          record {
            online = parts.0;
            idle = (and_parts y.idle rest parts.1).0;
            wakeup = same_Some y.wakeup at
                (sym (cond-true (y.online && (y.idle && rest)) (Some y.wakeup) None keeps) ∙ is);
          }
      | inr other ↦
          absurd (none-some at
          (sym (cond-false (y.online && (y.idle && rest)) (Some y.wakeup) None other) ∙ is))
    ]

-- an event that is known counts
known : (o : Option Event) (at : ℕ) → live_expiry o ≡ Some at → expiry_of (counting o) ≡ at
known None at is = absurd (none-some at is)
known (Some e) at is = by e.ignored refl
  where
    by : (b : Bool) → e.ignored ≡ b → expiry_of (counting (Some e)) ≡ at
    by true out =
        absurd (none-some at (sym (cond-true e.ignored None (Some e.expiry) out) ∙ is))
    by false counts =
        ap expiry_of (cond-false e.ignored None (Some e) counts)
        ∙ same_Some e.expiry at (sym (cond-false e.ignored None (Some e.expiry) counts) ∙ is)

module _ (w : World) (planned : IsPlanned w.tree) where
  -- THE MIGRATORS lead where they lead
  leads_on : (m g : ℕ) → Leads (machine_of w) m g → is_some (group_of w g).migrator ≡ true
  leads_on m g (to_cpu x k is at on) = ap is_some is
  leads_on m g (to_group x k h is at rest) = ap is_some is

  led_by : (m g n : ℕ) → Leads (machine_of w) m g → level_of w.tree g < n →
      led_from (state_of w) n g ≡ Some m
  led_by m g n (to_cpu x k is at on) low =
      led_step (state_of w) n g (Some (of_cpu m)) (omega (arith, low))
      (ap (option_and_then (child_at w.tree g)) (migrator_seen w g ∙ is) ∙ at)
  led_by m g n (to_group x k h is at rest) low =
      led_step (state_of w) n g (Some (of_group h)) (omega (arith, low))
      (ap (option_and_then (child_at w.tree g)) (migrator_seen w g ∙ is) ∙ at)
      ∙ led_by m h (n - 1) rest
      (let above = (level_laws w.tree planned).parent h g
      ((edge_laws w.tree planned).parent g k (of_group h) at) in
      omega (arith, above, low))

  on_path_low : (c level g : ℕ) → group_at_of w.tree c level ≡ Some g →
      level < level_count_of w.tree
  on_path_low c level g at = elim (cases_lt level (level_count_of w.tree)) [
    | inl low ↦ low
    | inr high ↦ absurd (none-some g (sym ((paths w.tree planned).beyond c level high) ∙ at))
  ]

  led_above : (c level m g : ℕ) → group_at_of w.tree c level ≡ Some g →
      Leads (machine_of w) m g → led_to (state_of w) g ≡ Some m
  led_above c level m g at leads =
      led_by m g (level_count_of w.tree) leads
      (let low = on_path_low c level g at in
      let same = (paths w.tree planned).level c level g at in
      omega (arith, low, same))

  -- THE TOP is on the last level
  last_is : (c level top : ℕ) → group_at_of w.tree c level ≡ Some top →
      group_at_of w.tree c (level + 1) ≡ None → level ≡ level_count_of w.tree - 1
  last_is c level top at none =
      let low = on_path_low c level top at in
      elim (cases_lt (level + 1) (level_count_of w.tree)) [
        | inr high ↦ omega (arith, low, high)
        | inl more ↦
            let next = (paths w.tree planned).there c (level + 1)
            ((paths w.tree planned).cpu_placed c level top at) more in
            absurd (none-some next.0 (sym none ∙ next.1))
      ]

  time_is : (c level top at : ℕ) → group_at_of w.tree c level ≡ Some top →
      group_at_of w.tree c (level + 1) ≡ None →
      live_expiry (event_at (group_of w top).events (side w.tree c level)) ≡ Some at →
      time_at_top w c ≡ at
  time_is c level top at here none event =
      let same = last_is c level top here none in
      ap (event_at_top w c) (ap (group_at_of w.tree c) (sym same) ∙ here)
      ∙ (ap (λ n. expiry_of (live w top (side w.tree c n))) (sym same)
      ∙ known (event_at (group_of w top).events (side w.tree c level)) at event)

module _ (w : World) (l : IsLawful w) (s : IsSettled w) (planned : IsPlanned w.tree) where
  -- every idle CPU keeps its wakeup
  kept : (d : ℕ) → (cpu_of w d).online ≡ true → (cpu_of w d).idle ≡ true →
      kept_wakeup (cpu_of w d) ≡ Some (cpu_of w d).wakeup
  kept d online idle =
      let y = cpu_of w d in
      let rest = not y.inside && is_undisturbed y.walk in
      cond-true (y.online && (y.idle && rest)) (Some y.wakeup) None
      (and_from y.online (y.idle && rest) online (and_from y.idle rest idle
      (and_from (not y.inside) (is_undisturbed y.walk) (not_from_false y.inside (s.outside d))
      (ap is_undisturbed (s.free d)))))

  -- a placed CPU is there
  placed_low : (d : ℕ) → is_placed_in w.tree d ≡ true → d < length w.cpus
  placed_low d placed =
      let low = (placed_laws w.tree planned).in_range d placed in
      let sized = l.sized.cpus in
      omega (arith, low, sized)

  -- WHO WAKES by a time is found where there is somebody
  record Wakes (time d : ℕ) : Type 0 where
    online : (cpu_of w d).online ≡ true
    idle : (cpu_of w d).idle ≡ true
    placed : is_placed_in w.tree d ≡ true
    in_time : (cpu_of w d).wakeup ≤ time

  passes : (time d : ℕ) → Wakes time d → wakes_by (state_of w) time d ≡ true
  passes time d is =
      let low = placed_low d is.placed in
      let x = cpu_at (state_of w) d in
      let soon = nat_le x.wakeup time in
      let in_time = is.in_time in
      let same = wakeup_seen w d low in
      and_from x.online (x.idle && (is_placed_in w.tree d && soon))
      (online_seen w d low ∙ is.online)
      (and_from x.idle (is_placed_in w.tree d && soon) (idle_seen w d low ∙ is.idle)
      (and_from (is_placed_in w.tree d) soon is.placed
      (le-leb x.wakeup time (omega (arith, in_time, same)))))

  wakes : (time d : ℕ) → d < length w.cpus → wakes_by (state_of w) time d ≡ true → Wakes time d
  wakes time d low is =
      let x = cpu_at (state_of w) d in
      let soon = nat_le x.wakeup time in
      let a = and_parts x.online (x.idle && (is_placed_in w.tree d && soon)) is in
      let b = and_parts x.idle (is_placed_in w.tree d && soon) a.1 in
      let e = and_parts (is_placed_in w.tree d) soon b.1 in
      let in_time = leb-true x.wakeup time e.1 in
      let same = wakeup_seen w d low in
      record {
        online = sym (online_seen w d low) ∙ a.0;
        idle = sym (idle_seen w d low) ∙ b.0;
        placed = e.0;
        in_time = omega (arith, in_time, same);
      }

  found : (time d : ℕ) → Wakes time d →
      (e : ℕ) × (waker_by (state_of w) time ≡ Some e) × Wakes time e
  found time d is = by_found (waker_by (state_of w) time) refl
    where
      by_found : (o : Option ℕ) → waker_by (state_of w) time ≡ o →
          (e : ℕ) × (waker_by (state_of w) time ≡ Some e) × Wakes time e
      by_found None none =
          absurd (found_some (wakes_by (state_of w) time) 0 (length w.cpus) d (omega arith)
          (let low = placed_low d is.placed in omega (arith, low)) (passes time d is)
          (sym (ap (find (wakes_by (state_of w) time)) (cpus_seen w)) ∙ none))
      by_found (Some e) at =
          let f = found_there (wakes_by (state_of w) time) 0 (length w.cpus) e
          (sym (ap (find (wakes_by (state_of w) time)) (cpus_seen w)) ∙ at) in
          (e, at, wakes time e (let below = f.below in omega (arith, below)) f.passes)

  -- THE CHOICE for a CPU
  module _ (c : ℕ) where
    abbrev wheel : ℕ
    wheel = first_global_of w c

    abbrev Chosen : Option Cover → Type 0
    Chosen o = (x : Cover) × (o ≡ Some x) × Answers w c x

    by_held : Held (machine_of w) c wheel →
        Chosen (choice_above w c (lowest_active_group (state_of w) c))
    by_held held =
        let g = held.in_group in
        let m = held.runner in (
          cover_by_migrator g m,
          ap (choice_above w c) (lowest_at w planned c held.level g held.told.inactive held.on_path
              (leads_on w planned m g held.leads))
              ∙ ap (option_map (cover_by_migrator g))
              (led_above w planned c held.level m g held.on_path held.leads),
          record { held = held; group = refl; runner = refl },
        )

    -- the top is answered by whoever wakes in time
    quiet_to : (top : TopWakes (machine_of w) c wheel) → (k g : ℕ) → k < top.level + 1 →
        group_at_of w.tree c k ≡ Some g → (group_of w g).migrator ≡ None
    quiet_to top k g low at = elim (cases_lt k top.level) [
      | inl less ↦ top.told.inactive k g less at
      | inr high ↦
          let same : k ≡ top.level = omega (arith, low, high) in
          let is : g ≡ top.top =
          same_Some g top.top (sym at ∙ (ap (group_at_of w.tree c) same ∙ top.on_path)) in
          ap (λ x. (group_of w x).migrator) is ∙ top.inactive
    ]

    woken_by : (top : TopWakes (machine_of w) c wheel) (d : ℕ) → Wakes top.expiry d →
        IsWokenAt w c d (cpu_of w d).wakeup
    woken_by top d is = record {
      woken = inr (record top {
        wakes = record {
          waker = d;
          at = (cpu_of w d).wakeup;
          placed = is.placed;
          keeps = kept d is.online is.idle;
          in_time = is.in_time;
        };
      });
      waker = refl;
      time = refl;
    }

    waker_wakes : (top : TopWakes (machine_of w) c wheel) → Wakes top.expiry top.wakes.waker
    waker_wakes top =
        let k = keeper (cpu_of w top.wakes.waker) top.wakes.at top.wakes.keeps in
        record {
          online = k.online;
          idle = k.idle;
          placed = top.wakes.placed;
          in_time = (let in_time = top.wakes.in_time in let same = k.wakeup in
              omega (arith, in_time, same));
        }

    above_top : (top : TopWakes (machine_of w) c wheel) →
        choice_above w c (lowest_active_group (state_of w) c)
        ≡ option_map (cover_by_wakeup w) (waker_by (state_of w) top.expiry)
    above_top top =
        ap (choice_above w c)
        (lowest_none w planned c (top.level + 1) (quiet_to top) top.is_top)
        ∙ ap (λ time. option_map (cover_by_wakeup w) (waker_by (state_of w) time))
        (time_is w planned c top.level top.top top.expiry top.on_path top.is_top top.event)

    by_top : TopWakes (machine_of w) c wheel →
        Chosen (choice_above w c (lowest_active_group (state_of w) c))
    by_top top =
        let one = found top.expiry top.wakes.waker (waker_wakes top) in (
          cover_by_wakeup w one.0,
          above_top top ∙ ap (option_map (cover_by_wakeup w)) one.1,
          woken_by top one.0 one.2,
        )

    module _ (online : (cpu_of w c).online ≡ true) (idle : (cpu_of w c).idle ≡ true) where
      by_answer : wheel < (cpu_of w c).wakeup → IsAnsweredFor (machine_of w) c wheel →
          Chosen (choice_above w c (lowest_active_group (state_of w) c))
      by_answer late (inl held) = by_held held
      by_answer late (inr (inl own)) =
          let same = same_Some (cpu_of w c).wakeup own.at (sym (kept c online idle) ∙ own.keeps) in
          let in_time = own.in_time in
          absurd (omega (arith, late, same, in_time))
      by_answer late (inr (inr top)) = by_top top

      for_first : Chosen (choice_for w c wheel)
      for_first =
          let own = Some (cover_by_wakeup w c) in
          let above = choice_above w c (lowest_active_group (state_of w) c) in
          elim (cases_Bool (nat_le (cpu_of w c).wakeup wheel)) [
            | inl soon ↦ (
              cover_by_wakeup w c,
              cond-true (nat_le (cpu_of w c).wakeup wheel) own above soon,
              record {
                woken = inl (record {
                  at = (cpu_of w c).wakeup;
                  keeps = kept c online idle;
                  in_time = leb-true (cpu_of w c).wakeup wheel soon;
                });
                waker = refl;
                time = refl;
              },
            )
            | inr late ↦
                let one = by_answer (leb-false (cpu_of w c).wakeup wheel late)
                (first_settled w l s c online idle) in
                (one.0, cond-false (nat_le (cpu_of w c).wakeup wheel) own above late ∙ one.1, one.2)
          ]

    first_is : (time : ℕ) → first_wheel (cpu_of w c) ≡ Some time → time ≡ wheel
    first_is time is = sym (ap (λ o. unwrap_or o NEVER) is)

    some_wheel : (o : Option ℕ) → is_some o ≡ true → (time : ℕ) × (o ≡ Some time)
    some_wheel None is = absurd (true≢false (sym is))
    some_wheel (Some time) is = (time, refl)

    pub chosen : waits (cpu_of w c) ≡ true → Chosen (choice_of w c)
    chosen is =
        let y = cpu_of w c in
        let a = and_parts y.online (y.idle && is_some (first_wheel y)) is in
        let b = and_parts y.idle (is_some (first_wheel y)) a.1 in
        let first = some_wheel (first_wheel y) b.1 in
        let one = for_first a.0 b.0 in (
          one.0,
          cond-true (y.online && y.idle) (choice_where w c (first_wheel y)) None
              (and_from y.online y.idle a.0 b.0)
              ∙ (ap (choice_where w c) first.1
              ∙ (ap (choice_for w c) (first_is first.0 first.1) ∙ one.1)),
          one.2,
        )

-- WITHOUT such a timer nobody is chosen
pub not_chosen : (w : World) (c : ℕ) → waits (cpu_of w c) ≡ false → choice_of w c ≡ None
not_chosen w c is =
    by_flags (cpu_of w c).online (cpu_of w c).idle (first_wheel (cpu_of w c)) is
  where
    by_flags : (online idle : Bool) (o : Option ℕ) → (online && (idle && is_some o)) ≡ false →
        (if online && idle then choice_where w c o else None) ≡ None
    by_flags true true None e = refl
    by_flags true true (Some time) e = absurd (true≢false e)
    by_flags true false o e = refl
    by_flags false idle o e = refl

module _ (w : World) (l : IsLawful w) (s : IsSettled w) (planned : IsPlanned w.tree) (c : ℕ) where
  pub chosen_by : (x : Cover) → choice_of w c ≡ Some x → Answers w c x
  chosen_by x is = elim (cases_Bool (waits (cpu_of w c))) [
    | inr out ↦ absurd (none-some x (sym (not_chosen w c out) ∙ is))
    | inl waiting ↦
        let one = chosen w l s planned c waiting in
        subst (Answers w c) (same_Some one.0 x (sym one.1 ∙ is)) one.2
  ]

  pub there_is : is_some (choice_of w c) ≡ waits (cpu_of w c)
  there_is = elim (cases_Bool (waits (cpu_of w c))) [
    | inl waiting ↦ ap is_some (chosen w l s planned c waiting).1 ∙ sym waiting
    | inr out ↦ ap is_some (not_chosen w c out) ∙ sym out
  ]

-- for crates above: where what carries the law holds, every idle CPU's global timers are answered
-- for
use Rattle.std.proofs.Common.{◌≡◌, ℕ, zero, suc, ◌+◌, ◌-◌, ◌<◌, ◌≤◌, true, Option, Some, None, refl}
use Rattle.std.proofs.Common.{sym, ap, ◌∙◌, arith, inl, inr, get_or, zero-add}
use Rattle.std.specs.Prelude.{◌⊎◌, ◌&&◌, ◌==◌, filter, nat_lt, option_map, unwrap_or}
use Rattle.std.proofs.lemmas.Bool.{and_from, cases_eq, cond-false, cond-true, eqb-true, lt-ltb}
use Rattle.std.proofs.lemmas.Bool.{ne_eqb, false_from_ne_true}
use Rattle.std.proofs.lemmas.Option.{same_Some}
use Rattle.tm_base.specs.declared.names.TheConstants.{NEVER}
use Rattle.tm_base.specs.declared.names.Child.{Child}
use Rattle.tm_base.specs.declared.names.Child.TheVariants as children
use Rattle.coverage.specs.Coverage.{HasEvent, Held, IsAnsweredFor, Leads, Told, TopWakes, to_cpu}
use Rattle.coverage.specs.Coverage.{to_group}
use Rattle.tree_plan.specs.Paths.{bit_of, bit_towards, child_at, child_towards, group_at_of}
use Rattle.tree_plan.specs.Paths.{group_count_of}
use Rattle.tree_plan.specs.Paths.{has_group_in, is_below, is_placed_in, is_under, level_count_of}
use Rattle.tree_plan.specs.Paths.{level_of}
use Rattle.tree_plan.proofs.Below.{below_laws, paths, placed_laws}
use Rattle.tree_plan.proofs.Trees.{edge_laws, level_laws}
use Rattle.play_rules.specs.State.{State, all_cpus, cpu_at, cpu_count, is_active, migrator_at}
use Rattle.play_rules.specs.Hierarchy.{least_told}
use Rattle.play_rules.specs.Covers.{told_below}
use Rattle.play_laws.specs.Answered.Settled.{EachAnswered, coming, kept_by, machine_of}
use Rattle.play_laws.proofs.Answered.Invariant.{NonePlacedActive, WakesForAll, levels_there, rests}
use Rattle.play_laws.proofs.Answered.Invariant.{teller_grouped}
use Rattle.play_laws.proofs.Answered.Ranges.{filter_member, in_range, least_above, least_below, member_was}
use Rattle.play_laws.proofs.Answered.Ranges.{range_low}
use Rattle.play_laws.proofs.Answered.States.{IsKept, Nobody}

pub some_or_none : {X : Type 0} (o : Option X) → (o ≡ None) ⊎ ((x : X) × (o ≡ Some x))
some_or_none None = inl refl
some_or_none (Some x) = inr (x, refl)

comes : (time : ℕ) → time < NEVER → coming time ≡ Some time
comes time soon = cond-false (time == NEVER) None (Some time)
    (ne_eqb time NEVER (λ same. omega (arith, soon, same)))

module _ (s : State) (kept : IsKept Nobody (Unit {0}) s) where
  pub keeps : (w : ℕ) → rests (cpu_at s w) ≡ true → kept_by (cpu_at s w) ≡ Some (cpu_at s w).wakeup
  keeps w is = cond-true (rests (cpu_at s w)) (Some (cpu_at s w).wakeup) None is

  -- LEADS: from a group with a migrator one comes to an active CPU
  leads_by : (n g k : ℕ) (m : Child) (d : ℕ) → level_of s.tree g < suc n → migrator_at s g ≡ Some k
      → child_at s.tree g k ≡ Some m → is_active s d ≡ true → is_under s.tree d m ≡ true
      → ((h : ℕ) → level_of s.tree h < n → h < group_count_of s.tree → is_below s.tree d h ≡ true
      → (e : ℕ) × Leads (machine_of s) e h)
      → (e : ℕ) × Leads (machine_of s) e g
  leads_by n g k (children.Cpu e) d high migrator at on under below =
      let same : d ≡ e.0 = eqb-true d e.0 under in
      let placed = (edge_laws s.tree kept.planned).cpu_placed e.0 g
      ((edge_laws s.tree kept.planned).parent g k (children.Cpu e) at) in
      let low = (placed_laws s.tree kept.planned).in_range e.0 placed in
      let count = kept.cpus in
      let active : (nat_lt e.0 (cpu_count s) && is_active s e.0) ≡ true =
      and_from (nat_lt e.0 (cpu_count s)) (is_active s e.0)
      (lt-ltb e.0 (cpu_count s) (omega (arith, low, count)))
      (ap (is_active s) (sym same) ∙ on) in
      (e.0, to_cpu g k migrator at active)
  leads_by n g k (children.Group h) d high migrator at on under below =
      let up = (edge_laws s.tree kept.planned).parent g k (children.Group h) at in
      let rises = (level_laws s.tree kept.planned).parent h.0 g up in
      let within = (edge_laws s.tree kept.planned).group_within h.0 g up in
      let rest = below h.0 (omega (arith, high, rises)) (omega (arith, within)) under in
      (rest.0, to_group g k h.0 migrator at rest.1)

  leads_from : (n g : ℕ) → level_of s.tree g < n → g < group_count_of s.tree → (d : ℕ)
      → is_active s d ≡ true
      → is_below s.tree d g ≡ true → (e : ℕ) × Leads (machine_of s) e g
  leads_from zero g high within d on below = absurd (omega (arith, high))
  leads_from (suc n) g high within d on below =
      elim (some_or_none (migrator_at s g)) [
        | inl none ↦ absurd (kept.holds.led.none g d within none on below)
        | inr there ↦
            let child = kept.holds.led.some g there.0 within there.1 in
            leads_by n g there.0 child.child child.cpu high there.1 child.there child.on child.under
            (λ h lower within_h below_h. leads_from n h lower within_h child.cpu child.on below_h)
      ]

  -- a group with a migrator leads on
  pub leads_on : (g k : ℕ) → g < group_count_of s.tree → migrator_at s g ≡ Some k
      → (e : ℕ) × Leads (machine_of s) e g
  leads_on g k within migrator =
      let child = kept.holds.led.some g k within migrator in
      leads_by (level_of s.tree g) g k child.child child.cpu (omega arith) migrator child.there
      child.on child.under
      (λ h lower within_h below_h. leads_from (level_of s.tree g) h lower within_h child.cpu
      child.on below_h)

  -- EVENTS of a CPU that told a time
  module _ (c : ℕ) (low : c < cpu_count s) (told : (cpu_at s c).told < NEVER) where
    pub grouped : has_group_in s.tree c ≡ true
    grouped = teller_grouped s.tree kept.planned (cpu_at s) s.clock c (kept.holds.each c) told

    pub placed_c : is_placed_in s.tree c ≡ true
    placed_c = (placed_laws s.tree kept.planned).has_group c grouped

    -- the event at a level of its path
    pub record EventAt (level : ℕ) : Type 0 where
      pub group : ℕ
      pub child : Child
      pub on_path : group_at_of s.tree c level ≡ Some group
      pub towards : child_towards s.tree c level ≡ Some child
      pub is : child_at s.tree group (bit_towards s.tree c level) ≡ Some child
      pub by_told : least_told s (filter (λ d. is_under s.tree d child) (all_cpus s))
          ≤ (cpu_at s c).told

    pub event_at : (level : ℕ) → level < level_count_of s.tree → EventAt level
    event_at level below =
        let there = (paths s.tree kept.planned).there c level placed_c below in
        let way = (paths s.tree kept.planned).towards c level there.0 there.1 in
        let bit : bit_towards s.tree c level ≡ bit_of s.tree way.0 =
        ap (λ o. unwrap_or (option_map (bit_of s.tree) o) 0) way.1 in
        let under = ((below_laws s.tree kept.planned).tested_under c way.0).1
        ((paths s.tree kept.planned).reached c level way.0 way.1) in
        record {
          group = there.0;
          child = way.0;
          on_path = there.1;
          towards = way.1;
          is = ap (child_at s.tree there.0) bit ∙ way.3;
          by_told = least_below (λ d. (cpu_at s d).told) NEVER
              (filter (λ d. is_under s.tree d way.0) (all_cpus s)) c
              (filter_member (λ d. is_under s.tree d way.0) (all_cpus s) c
              (in_range (cpu_count s) c low) under);
        }

    abbrev pub expiry : (level : ℕ) → EventAt level → ℕ
    expiry level e = least_told s (filter (λ d. is_under s.tree d e.child) (all_cpus s))

    pub event_is : (level : ℕ) (e : EventAt level)
        → coming (told_below s (child_at s.tree e.group (bit_towards s.tree c level)))
        ≡ Some (expiry level e)
    event_is level e =
        let before = e.by_told in
        ap (λ o. coming (told_below s o)) e.is
        ∙ comes (expiry level e) (omega (arith, before, told))

    module _ (wheel : ℕ) (in_time : (cpu_at s c).told ≤ wheel) where
      has_event : (level : ℕ) → level < level_count_of s.tree
          → HasEvent (machine_of s) c wheel level
      has_event level below =
          let e = event_at level below in
          let before = e.by_told in
          record {
            in_group = e.group;
            expiry = expiry level e;
            on_path = e.on_path;
            there = event_is level e;
            in_time = omega (arith, before, in_time);
          }

      -- the groups of its path below a level are inactive
      abbrev pub Quiet : ℕ → Type 0
      Quiet level = (k g : ℕ) → k < level → group_at_of s.tree c k ≡ Some g → migrator_at s g ≡ None

      pub told_to : (level : ℕ) → level < level_count_of s.tree → Quiet level
          → Told (machine_of s) c wheel level
      told_to level below quiet = record {
        inactive = quiet;
        events = λ k up. has_event k (omega (arith, below, up));
      }

      -- HELD by the first active group of its path
      held_at : (level g k : ℕ) → level < level_count_of s.tree → Quiet level
          → group_at_of s.tree c level ≡ Some g
          → migrator_at s g ≡ Some k → Held (machine_of s) c wheel
      held_at level g k below quiet on_path migrator =
          let within = (paths s.tree kept.planned).group_within c level g on_path in
          let leads = leads_on g k within migrator in
          record {
            level = level;
            in_group = g;
            runner = leads.0;
            on_path = on_path;
            told = told_to level below quiet;
            leads = leads.1;
          }

      -- WOKEN, where none of them is active
      pub none_placed : (level g : ℕ) → suc level ≡ level_count_of s.tree
          → group_at_of s.tree c level ≡ Some g
          → migrator_at s g ≡ None → NonePlacedActive s.tree (cpu_at s)
      none_placed level g last on_path none d placed =
          let within = (paths s.tree kept.planned).group_within c level g on_path in
          let at = (paths s.tree kept.planned).level c level g on_path in
          let top = ((level_laws s.tree kept.planned).highest g within).0 (ap suc at ∙ last) in
          let below = ((below_laws s.tree kept.planned).tested_below d g).1
          ((below_laws s.tree kept.planned).top d g top placed) in
          false_from_ne_true (is_active s d) (λ on. kept.holds.led.none g d within none on below)

      pub waker_by : (w : ℕ) (e : Child) → WakesForAll s.tree (cpu_at s) w
          → (cpu_at s w).wakeup ≤ least_told s (filter (λ d. is_under s.tree d e) (all_cpus s))
      waker_by w e wakes =
          let count = kept.cpus in
          let first = wakes.in_time c (omega (arith, low, count)) in
          least_above (λ d. (cpu_at s d).told) (cpu_at s w).wakeup NEVER
          (filter (λ d. is_under s.tree d e) (all_cpus s))
          (omega (arith, first, told))
          (λ d is.
          let there = range_low (cpu_count s) d
          (member_was (λ f. is_under s.tree f e) (all_cpus s) d is) in
          wakes.in_time d (omega (arith, there, count)))

      woken_at : (level : ℕ) → suc level ≡ level_count_of s.tree → Quiet (suc level)
          → TopWakes (machine_of s) c wheel
      woken_at level last quiet =
          let below : level < level_count_of s.tree = omega (arith, last) in
          let e = event_at level below in
          let none = quiet level e.group (omega arith) e.on_path in
          let waker = kept.holds.top tt (none_placed level e.group last e.on_path none) c told in
          record {
            level = level;
            top = e.group;
            expiry = expiry level e;
            on_path = e.on_path;
            is_top = (paths s.tree kept.planned).beyond c (level + 1) (omega (arith, last));
            told = told_to level below (λ k g up at. quiet k g (omega (arith, up)) at);
            inactive = none;
            event = event_is level e;
            wakes = record {
              waker = waker.0;
              at = (cpu_at s waker.0).wakeup;
              placed = waker.1.placed;
              keeps = keeps waker.0 waker.1.rests;
              in_time = waker_by waker.0 e.child waker.1;
            };
          }

      -- from a level upwards, below which the path is inactive
      pub one_more : (level h : ℕ) → Quiet level → group_at_of s.tree c level ≡ Some h
          → migrator_at s h ≡ None
          → Quiet (level + 1)
      one_more level h quiet at none k g up on_path =
          elim (cases_eq k level) [
            | inl same ↦
                let is : h ≡ g = same_Some h g
                (sym at ∙ ap (group_at_of s.tree c) (sym same) ∙ on_path) in
                ap (migrator_at s) (sym is) ∙ none
            | inr other ↦ quiet k g (omega (arith, up, other)) on_path
          ]

      answered_from : (n level : ℕ) → level + n ≡ level_count_of s.tree → Quiet level
          → IsAnsweredFor (machine_of s) c wheel
      answered_from zero level all quiet =
          let some = levels_there s.tree c kept.planned grouped in
          let under : suc (level - 1) ≡ level = omega (arith, all, some) in
          inr (inr (woken_at (level - 1) (omega (arith, all, some))
          (λ k g up at. quiet k g (omega (arith, up, under)) at)))
      answered_from (suc n) level all quiet =
          let there = (paths s.tree kept.planned).there c level placed_c (omega (arith, all)) in
          elim (some_or_none (migrator_at s there.0)) [
            | inr on ↦ inl (held_at level there.0 on.0 (omega (arith, all)) quiet there.1 on.1)
            | inl none ↦ answered_from n (level + 1) (omega (arith, all))
                (one_more level there.0 quiet there.1 none)
          ]

  item_answered : (c wheel : ℕ) → c < cpu_count s → rests (cpu_at s c) ≡ true → wheel < NEVER
      → ((cpu_at s c).wakeup ≤ wheel) ⊎ ((cpu_at s c).told ≤ wheel)
      → IsAnsweredFor (machine_of s) c wheel
  item_answered c wheel low rest soon (inl wakes) =
      inr (inl (record { at = (cpu_at s c).wakeup; keeps = keeps c rest; in_time = wakes }))
  item_answered c wheel low rest soon (inr told) =
      answered_from c low (omega (arith, told, soon)) wheel told (level_count_of s.tree) 0
      (zero-add (level_count_of s.tree))
      (λ k g up at. absurd (omega (arith, up)))

  pub settled : EachAnswered s
  settled c low online idle k d below =
      let rest = and_from (cpu_at s c).online (cpu_at s c).idle online idle in
      item_answered c (get_or (cpu_at s c).bases.bases.global.items k d).wheel low rest
      ((kept.holds.each c).global.all k d below)
      ((kept.holds.answered c (λ none. none) rest).global.all k d below)

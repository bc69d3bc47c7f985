-- what a `cover` line shows answers
use Rattle.std.proofs.Common.{◌≡◌, ℕ, zero, suc, ◌+◌, ◌-◌, ◌<◌, ◌≤◌, Bool, true, false, List, []}
use Rattle.std.proofs.Common.{◌∷◌, Option, Some, None, refl, sym, ap, ◌∙◌, subst, arith, inl, inr}
use Rattle.std.proofs.Common.{min, zero-add}
use Rattle.std.specs.Prelude.{◌⊎◌, All, find, is_some, nat_le, option_and_then}
use Rattle.std.specs.Prelude.{option_map, slice_get}
use Rattle.std.proofs.lemmas.Bool.{and_from, and_parts, cases_Bool, cases_lt, cond-false, cond-true}
use Rattle.std.proofs.lemmas.Bool.{le-leb}
use Rattle.std.proofs.lemmas.List.Elements.{All-head, All-tail}
use Rattle.std.proofs.lemmas.Bool.{leb-false, leb-true}
use Rattle.std.proofs.lemmas.Option.{none-some, same_Some}
use Rattle.tm_base.specs.declared.names.TheConstants.{NEVER}
use Rattle.tm_base.specs.declared.names.Child.{Child}
use Rattle.tm_base.specs.Children.{of_cpu, of_group}
use Rattle.tm_report.specs.declared.lines.ShownCover.{ShownCover}
use Rattle.tree_plan.specs.Paths.{child_at, child_towards, cpu_count_of, group_at_of}
use Rattle.tree_plan.specs.Paths.{level_count_of}
use Rattle.tree_plan.specs.Paths.{level_of, path_of}
use Rattle.tree_plan.proofs.Below.{paths, placed_laws}
use Rattle.tree_plan.proofs.Trees.{edge_laws, level_laws}
use Rattle.wheel_core.specs.declared.item.Item.{Item}
use Rattle.wheel_core.specs.PlainBase.{least, sooner}
use Rattle.coverage.specs.Coverage.{Leads, to_cpu, to_group}
use Rattle.play_rules.specs.Covers.{by_migrator, by_wakeup, cover_above, cover_for, led_from}
use Rattle.play_rules.specs.Covers.{led_through, led_to, lowest_active_group, told_below}
use Rattle.play_rules.specs.Covers.{told_to_top, waker_by as finds_waker, wakes_by}
use Rattle.play_rules.specs.Hierarchy.{is_placed}
use Rattle.play_rules.specs.State.{State, cpu_at, cpu_count, migrator_at}
use Rattle.play_laws.specs.Answered.Settled.{machine_of}
use Rattle.play_laws.specs.Told.Covers.{Answers}
use Rattle.play_laws.proofs.Answered.Covered.{Quiet, event_at, event_is, expiry, grouped, keeps}
use Rattle.play_laws.proofs.Answered.Covered.{leads_on, none_placed, one_more, placed_c}
use Rattle.play_laws.proofs.Answered.Covered.{some_or_none, told_to, waker_by}
use Rattle.play_laws.proofs.Answered.Invariant.{levels_there, rests}
use Rattle.play_laws.proofs.Answered.Ranges.{found_some, found_there}
use Rattle.play_laws.proofs.Answered.States.{IsKept, Nobody}

-- the first of a list that passes, and none where none does
first_in : (p : ℕ → Bool) (xs : List ℕ) (n x : ℕ) → slice_get xs n ≡ Some x → p x ≡ true
    → ((k y : ℕ) → k < n → slice_get xs k ≡ Some y → p y ≡ false) → find p xs ≡ Some x
first_in p [] n x at is before = absurd (none-some x at)
first_in p (y ∷ ys) zero x at is before =
    cond-true (p y) (Some y) (find p ys) (ap p (same_Some y x at) ∙ is) ∙ at
first_in p (y ∷ ys) (suc n) x at is before =
    cond-false (p y) (Some y) (find p ys) (before 0 y (omega arith) refl)
    ∙ first_in p ys n x at is (λ k z low there. before (suc k) z (omega (arith, low)) there)

none_in : (p : ℕ → Bool) (xs : List ℕ) (n : ℕ) → slice_get xs n ≡ None
    → ((k y : ℕ) → k < n → slice_get xs k ≡ Some y → p y ≡ false) → find p xs ≡ None
none_in p [] n at before = refl
none_in p (y ∷ ys) zero at before = absurd (none-some y (sym at))
none_in p (y ∷ ys) (suc n) at before =
    cond-false (p y) (Some y) (find p ys) (before 0 y (omega arith) refl)
    ∙ none_in p ys n at (λ k z low there. before (suc k) z (omega (arith, low)) there)

-- what holds of each wheel expiry holds of the least
least_with : (Q : ℕ → Type 0) (first : Item) (items : List Item) (wheel : ℕ) (rest : Option ℕ)
    → Some (sooner first.wheel rest) ≡ Some wheel → Q first.wheel
    → ((other : ℕ) → rest ≡ Some other → Q other) → Q wheel
least_with Q first items wheel None is here there = subst Q (same_Some first.wheel wheel is) here
least_with Q first items wheel (Some other) is here there =
    let same = same_Some (min first.wheel other) wheel is in
    elim (cases_lt other first.wheel) [
      | inl below ↦
          let at : other ≡ wheel = omega (arith, below, same) in subst Q at (there other refl)
      | inr above ↦
          let at : first.wheel ≡ wheel = omega (arith, above, same) in subst Q at here
    ]

least_fits : (Q : ℕ → Type 0) (items : List Item) (wheel : ℕ) → least items ≡ Some wheel
    → All (λ item. Q item.wheel) items → Q wheel
least_fits Q [] wheel is all = absurd (none-some wheel is)
least_fits Q (item ∷ items) wheel is all =
    least_with Q item items wheel (least items) is
    (All-head (λ (i : Item). Q i.wheel) item items all)
    (λ other there.
    least_fits Q items other there (All-tail (λ (i : Item). Q i.wheel) item items all))

-- where the migrators lead, one level after another
led_step : (s : State) (n g : ℕ) (m : Option Child) → 0 < n
    → option_and_then (child_at s.tree g) (migrator_at s g) ≡ m
    → led_from s n g ≡ led_through m (led_from s (n - 1))
unfolding led_from
led_step s zero g m some is = absurd (omega (arith, some))
led_step s (suc n) g m some is =
    let same : n ≡ suc n - 1 = omega arith in
    ap (λ o. led_through o (led_from s n)) is ∙ ap (λ k. led_through m (led_from s k)) same

module _ (s : State) (kept : IsKept Nobody (Unit {0}) s) where
  led_by : (m g n : ℕ) → Leads (machine_of s) m g → level_of s.tree g < n
      → led_from s n g ≡ Some m
  led_by m g n (to_cpu x k is at on) low =
      led_step s n g (Some (of_cpu m)) (omega (arith, low))
      (ap (option_and_then (child_at s.tree g)) is ∙ at)
  led_by m g n (to_group x k h is at rest) low =
      led_step s n g (Some (of_group h)) (omega (arith, low))
      (ap (option_and_then (child_at s.tree g)) is ∙ at)
      ∙ led_by m h (n - 1) rest
      (let above = (level_laws s.tree kept.planned).parent h g
      ((edge_laws s.tree kept.planned).parent g k (of_group h) at) in
      omega (arith, above, low))

  -- a CPU that told a time in time
  module _ (c : ℕ) (low : c < cpu_count s) (told : (cpu_at s c).told < NEVER) (wheel : ℕ)
      (in_time : (cpu_at s c).told ≤ wheel) where
    abbrev QuietTo : ℕ → Type 0
    QuietTo level = Quiet s kept c low told wheel in_time level

    before : (level : ℕ) → QuietTo level → (k g : ℕ) → k < level
        → slice_get (path_of s.tree c) k ≡ Some g → is_some (migrator_at s g) ≡ false
    before level quiet k g below at =
        ap is_some (quiet k g below (sym ((paths s.tree kept.planned).listed c k) ∙ at))

    -- what answers from above, and the line shows it
    pub record FromAbove : Type 0 where
      pub cover : ShownCover
      pub is : cover_above s c (lowest_active_group s c) ≡ Some cover
      pub answers : Answers s c wheel cover

    held_at : (level g k : ℕ) → level < level_count_of s.tree → QuietTo level
        → group_at_of s.tree c level ≡ Some g → migrator_at s g ≡ Some k → FromAbove
    held_at level g k below quiet on_path migrator =
        let way = paths s.tree kept.planned in
        let at = way.level c level g on_path in
        let leads = leads_on s kept g k (way.group_within c level g on_path) migrator in
        let lowest : lowest_active_group s c ≡ Some g =
        first_in (λ h. is_some (migrator_at s h)) (path_of s.tree c) level g
        (way.listed c level ∙ on_path) (ap is_some migrator) (before level quiet) in
        let led : led_to s g ≡ Some leads.0 =
        led_by leads.0 g (level_count_of s.tree) leads.1 (omega (arith, at, below)) in
        record {
          cover = by_migrator s g leads.0;
          is = ap (cover_above s c) lowest ∙ ap (option_map (by_migrator s g)) led;
          answers = record {
            held = record {
              level = level;
              in_group = g;
              runner = leads.0;
              on_path = on_path;
              told = told_to s kept c low told wheel in_time level below quiet;
              leads = leads.1;
            };
            level_is = refl;
            place_is = refl;
            runner_is = refl;
          };
        }

    -- none of the path is active
    module _ (level : ℕ) (last : suc level ≡ level_count_of s.tree)
        (quiet : QuietTo (suc level)) where
      below : level < level_count_of s.tree
      below = omega (arith, last)

      top : ℕ
      top = (event_at s kept c low told level below).group

      abbrev time : ℕ
      time = told_to_top s c

      time_is : time ≡ expiry s kept c low told level (event_at s kept c low told level below)
      time_is =
          let same : level_count_of s.tree - 1 ≡ level = omega (arith, last) in
          ap (told_below s)
          (ap (child_towards s.tree c) same ∙ (event_at s kept c low told level below).towards)

      none_active : lowest_active_group s c ≡ None
      none_active =
          none_in (λ h. is_some (migrator_at s h)) (path_of s.tree c) (suc level)
          ((paths s.tree kept.planned).listed c (suc level)
          ∙ (paths s.tree kept.planned).beyond c (suc level) (omega (arith, last)))
          (before (suc level) quiet)

      none_there : migrator_at s (event_at s kept c low told level below).group ≡ None
      none_there =
          quiet level (event_at s kept c low told level below).group (omega arith)
          (event_at s kept c low told level below).on_path

      some_waker : finds_waker s time ≡ None → ⊥
      some_waker none =
          let e = event_at s kept c low told level below in
          let wakes = kept.holds.top tt
          (none_placed s kept c low told wheel in_time level e.group last e.on_path none_there) c
          told in
          let w = wakes.0 in
          let by = waker_by s kept c low told wheel in_time w e.child wakes.1 in
          let same = time_is in
          let both = and_parts (cpu_at s w).online (cpu_at s w).idle wakes.1.rests in
          let in_machine = (placed_range w wakes.1.placed) in
          found_some (wakes_by s time) 0 (cpu_count s) w (omega arith) (omega (arith, in_machine))
          (and_from (cpu_at s w).online _ both.0
          (and_from (cpu_at s w).idle _ both.1
          (and_from (is_placed s w) _ wakes.1.placed
          (le-leb (cpu_at s w).wakeup time (omega (arith, by, same))))))
          none
        where
          placed_range : (w : ℕ) → is_placed s w ≡ true → w < cpu_count s
          placed_range w is =
              let count = kept.cpus in
              let within = in_tree w is in omega (arith, count, within)
            where
              in_tree : (w : ℕ) → is_placed s w ≡ true → w < cpu_count_of s.tree
              in_tree w is = (placed_laws s.tree kept.planned).in_range w is

      woken_by : (w : ℕ) → finds_waker s time ≡ Some w → FromAbove
      woken_by w found =
          let e = event_at s kept c low told level below in
          let at = found_there (wakes_by s time) 0 (cpu_count s) w found in
          let one = and_parts (cpu_at s w).online _ at.passes in
          let two = and_parts (cpu_at s w).idle _ one.1 in
          let three = and_parts (is_placed s w) _ two.1 in
          let rest = and_from (cpu_at s w).online (cpu_at s w).idle one.0 two.0 in
          let soon = leb-true (cpu_at s w).wakeup time three.1 in
          let same = time_is in
          record {
            cover = by_wakeup s w;
            is =
                ap (cover_above s c) none_active ∙ ap (option_map (by_wakeup s)) found;
            answers = record {
              woken = inr (record {
                level = level;
                top = e.group;
                expiry = expiry s kept c low told level e;
                on_path = e.on_path;
                is_top = (paths s.tree kept.planned).beyond c (level + 1) (omega (arith, last));
                told =
                    told_to s kept c low told wheel in_time level below
                    (λ k g up there. quiet k g (omega (arith, up)) there);
                inactive = none_there;
                event = event_is s kept c low told level e;
                wakes = record {
                  waker = w;
                  at = (cpu_at s w).wakeup;
                  placed = three.0;
                  keeps = keeps s kept w rest;
                  in_time = omega (arith, soon, same);
                };
              });
              waker_is = refl;
              time_is = refl;
            };
          }

      woken_at : FromAbove
      woken_at =
          elim (some_or_none (finds_waker s time)) [
            | inl none ↦ absurd (some_waker none)
            | inr there ↦ woken_by there.0 there.1
          ]

    -- from a level upwards, below which the path is inactive
    above_from : (n level : ℕ) → level + n ≡ level_count_of s.tree → QuietTo level → FromAbove
    above_from zero level all quiet =
        let some = levels_there s.tree c kept.planned (grouped s kept c low told) in
        let under : suc (level - 1) ≡ level = omega (arith, all, some) in
        woken_at (level - 1) (omega (arith, all, some))
        (λ k g up at. quiet k g (omega (arith, up, under)) at)
    above_from (suc n) level all quiet =
        let there = (paths s.tree kept.planned).there c level (placed_c s kept c low told)
        (omega (arith, all)) in
        elim (some_or_none (migrator_at s there.0)) [
          | inr on ↦ held_at level there.0 on.0 (omega (arith, all)) quiet there.1 on.1
          | inl none ↦
              above_from n (level + 1) (omega (arith, all))
              (one_more s kept c low told wheel in_time level there.0 quiet there.1 none)
        ]

    pub answered_above : FromAbove
    answered_above =
        above_from (level_count_of s.tree) 0 (zero-add (level_count_of s.tree))
        (λ k g up at. absurd (omega (arith, up)))

  -- WHAT IS CHOSEN for the first global timer of a CPU that rests answers
  pub record Chosen (c wheel : ℕ) : Type 0 where
    pub cover : ShownCover
    pub is : cover_for s c wheel ≡ Some cover
    pub answers : Answers s c wheel cover

  module _ (c wheel : ℕ) (low : c < cpu_count s) (rest : rests (cpu_at s c) ≡ true)
      (first : least (cpu_at s c).bases.bases.global.items ≡ Some wheel) where
    abbrev soon : Bool
    soon = nat_le (cpu_at s c).wakeup wheel

    by_itself : soon ≡ true → Chosen c wheel
    by_itself is = record {
      cover = by_wakeup s c;
      is =
          cond-true soon (Some (by_wakeup s c)) (cover_above s c (lowest_active_group s c)) is;
      answers = record {
        woken = inl (record {
          at = (cpu_at s c).wakeup;
          keeps = keeps s kept c rest;
          in_time = leb-true (cpu_at s c).wakeup wheel is;
        });
        waker_is = refl;
        time_is = refl;
      };
    }

    -- the first timer
    abbrev Fits : ℕ → Type 0
    Fits w = (((cpu_at s c).wakeup ≤ w) ⊎ ((cpu_at s c).told ≤ w)) × (w < NEVER)

    fits : Fits wheel
    fits =
        least_fits Fits (cpu_at s c).bases.bases.global.items wheel first
        (λ k item below. (
          (kept.holds.answered c (λ none. none) rest).global.all k item below,
          (kept.holds.each c).global.all k item below,
        ))

    by_others : soon ≡ false → Chosen c wheel
    by_others is =
        let late = leb-false (cpu_at s c).wakeup wheel is in
        elim fits.0 [
          | inl by ↦ absurd (omega (arith, late, by))
          | inr by ↦
              let comes = fits.1 in
              let from = answered_above c low (omega (arith, by, comes)) wheel by in
              record {
                cover = from.cover;
                is =
                    cond-false soon (Some (by_wakeup s c))
                    (cover_above s c (lowest_active_group s c)) is
                    ∙ from.is;
                answers = from.answers;
              }
        ]

    pub chosen : Chosen c wheel
    chosen =
        elim (cases_Bool soon) [
          | inl is ↦ by_itself is
          | inr is ↦ by_others is
        ]

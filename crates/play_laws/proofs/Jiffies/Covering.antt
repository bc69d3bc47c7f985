-- each CPU that is asleep with a time that has come is found by the look of a CPU that is due an
-- interrupt
use Rattle.std.proofs.Common.{◌≡◌, ℕ, zero, suc, ◌+◌, ◌-◌, ◌<◌, ◌≤◌, List, true, Option, Some, None}
use Rattle.std.proofs.Common.{refl, sym, ap, ◌∙◌, subst, arith, inl, inr, zero-add}
use Rattle.std.specs.Prelude.{◌⊎◌, ◌&&◌, ◌||◌, ◌==◌, filter, nat_le, not, option_map}
use Rattle.std.specs.List.{list_any}
use Rattle.std.specs.Ordering.{nat_cmp}
use Rattle.std.specs.FinSet as set
use Rattle.std.specs.FinSet.{contains-from_list_nat}
use Rattle.std.proofs.lemmas.Bool.{and_from, and_parts, both_ways, cases_eq, eq-eqb, eqb-true}
use Rattle.std.proofs.lemmas.Bool.{false_from_ne_true, le-leb, or_left, or_right}
use Rattle.std.proofs.lemmas.Option.{same_Some}
use Rattle.tm_base.specs.declared.names.TheConstants.{NEVER}
use Rattle.tm_base.specs.declared.names.Child.{Child}
use Rattle.tm_base.specs.declared.names.Child.TheVariants as children
use Rattle.tree_plan.specs.Paths.{bit_of, child_at, group_at_of, group_count_of, has_group_in}
use Rattle.tree_plan.specs.Paths.{is_below, is_placed_in, is_under, level_count_of, level_of}
use Rattle.tree_plan.proofs.Below.{below_laws, paths, placed_laws}
use Rattle.tree_plan.proofs.Trees.{edge_laws, level_laws}
use Rattle.play_rules.specs.State.{State, all_cpus, cpu_at, cpu_count, is_active, migrator_at}
use Rattle.play_rules.specs.Hierarchy.{child_active, inactive_child, is_number, looks_after}
use Rattle.play_rules.specs.Hierarchy.{looks_after_where, looks_at, number_towards, towards}
use Rattle.play_rules.specs.Interrupts.{having_interrupt}
use Rattle.play_rules.specs.Play.{has_interrupt, plain_rules}
use Rattle.play_laws.proofs.Answered.Invariant.{NonePlacedActive, levels_there, rests, teller_grouped}
use Rattle.play_laws.proofs.Answered.Migrators.{below_low, through, under_below}
use Rattle.play_laws.proofs.Answered.Ranges.{filter_member, in_range, some_there}
use Rattle.play_laws.proofs.Answered.States.{IsKept, Nobody}
use Rattle.play_laws.proofs.Jiffies.Inside.{Covers}

some_or_none : {X : Type 0} (o : Option X) → (o ≡ None) ⊎ ((x : X) × (o ≡ Some x))
some_or_none None = inl refl
some_or_none (Some x) = inr (x, refl)

-- WHO HAS an interrupt is due one
member_there : (xs : List ℕ) (d : ℕ) → list_any (λ x. x == d) xs ≡ true
    → set.contains (set.from_list {R = nat_cmp} xs) d ≡ true
member_there xs d is = contains-from_list_nat xs d ∙ is

pub is_due : (s : State) (c : ℕ) → c < cpu_count s → has_interrupt s c ≡ true
    → set.contains (having_interrupt plain_rules s) c ≡ true
is_due s c low has =
    member_there (filter (has_interrupt s) (all_cpus s)) c
    (filter_member (has_interrupt s) (all_cpus s) c (in_range (cpu_count s) c low) has)

active_due : (s : State) (c : ℕ) → is_active s c ≡ true → has_interrupt s c ≡ true
active_due s c on =
    let both = and_parts (cpu_at s c).online (not (cpu_at s c).idle) on in
    and_from (cpu_at s c).online (not (cpu_at s c).idle || nat_le (cpu_at s c).wakeup s.clock)
    both.0
    (or_left (not (cpu_at s c).idle) (nat_le (cpu_at s c).wakeup s.clock) both.1)

resting_due : (s : State) (c : ℕ) → rests (cpu_at s c) ≡ true → (cpu_at s c).wakeup ≤ s.clock
    → has_interrupt s c ≡ true
resting_due s c rest by =
    and_from (cpu_at s c).online (not (cpu_at s c).idle || nat_le (cpu_at s c).wakeup s.clock)
    (and_parts (cpu_at s c).online (cpu_at s c).idle rest).0
    (or_right (not (cpu_at s c).idle) (nat_le (cpu_at s c).wakeup s.clock)
    (le-leb (cpu_at s c).wakeup s.clock by))

module _ (s : State) (kept : IsKept Nobody (Unit {0}) s) where
  -- a CPU looks where the child towards it is the migrator
  looks_with : (c level g k : ℕ) (m : Child) → group_at_of s.tree c level ≡ Some g
      → migrator_at s g ≡ Some k
      → child_at s.tree g k ≡ Some m → is_under s.tree c m ≡ true → looks_after s c level ≡ true
  looks_with c level g k m at migrator there under =
      let below = under_below s.tree c g k m kept.planned there under in
      let way = through s.tree c g kept.planned below in
      let same : bit_of s.tree way.child ≡ k =
      (below_laws s.tree kept.planned).one_child c g
      (bit_of s.tree way.child) k way.child m way.there there
      (((below_laws s.tree kept.planned).tested_under c way.child).0 way.under)
      (((below_laws s.tree kept.planned).tested_under c m).0 under) in
      let number : number_towards s.tree c g ≡ Some k =
      ap (option_map (bit_of s.tree)) way.is ∙ ap Some same in
      ap (looks_after_where s c) at
      ∙ ap (looks_at s.tree c g) migrator
      ∙ ap (λ o. is_number o k) number
      ∙ eq-eqb k k refl

  -- and where there is none
  looks_alone : (c level g : ℕ) → group_at_of s.tree c level ≡ Some g → migrator_at s g ≡ None
      → looks_after s c level ≡ true
  looks_alone c level g at none = ap (looks_after_where s c) at ∙ ap (looks_at s.tree c g) none

  -- FROM A GROUP with an active CPU the migrators lead to one that looks up to it
  record LooksUp (c g : ℕ) : Type 0 where
    on : is_active s c ≡ true
    at : group_at_of s.tree c (level_of s.tree g) ≡ Some g
    looks : (l : ℕ) → l ≤ level_of s.tree g → looks_after s c l ≡ true

  leads_by : (n g k : ℕ) (m : Child) (d : ℕ) → level_of s.tree g < suc n → migrator_at s g ≡ Some k
      → child_at s.tree g k ≡ Some m → is_active s d ≡ true → is_under s.tree d m ≡ true
      → ((h : ℕ) → level_of s.tree h < n → h < group_count_of s.tree → is_below s.tree d h ≡ true
      → (e : ℕ) × LooksUp e h)
      → (e : ℕ) × LooksUp e g
  leads_by n g k (children.Cpu e) d high migrator there on under below =
      let same : d ≡ e.0 = eqb-true d e.0 under in
      let up = (edge_laws s.tree kept.planned).parent g k (children.Cpu e) there in
      let leaf = (level_laws s.tree kept.planned).leaf e.0 g up in
      let at : group_at_of s.tree e.0 0 ≡ Some g = (paths s.tree kept.planned).leaf e.0 ∙ up in (
        e.0,
        record {
          on = ap (is_active s) (sym same) ∙ on;
          at = ap (group_at_of s.tree e.0) leaf ∙ at;
          looks = λ l by. (
              let zero_level : 0 ≡ l = omega (arith, by, leaf) in
              subst (λ j. looks_after s e.0 j ≡ true) zero_level
              (looks_with e.0 0 g k (children.Cpu e) at migrator there (eq-eqb e.0 e.0 refl)));
        },
      )
  leads_by n g k (children.Group h) d high migrator there on under below =
      let up = (edge_laws s.tree kept.planned).parent g k (children.Group h) there in
      let rises = (level_laws s.tree kept.planned).parent h.0 g up in
      let within = (edge_laws s.tree kept.planned).group_within h.0 g up in
      let rest = below h.0 (omega (arith, high, rises)) (omega (arith, within)) under in
      let c = rest.0 in
      let at : group_at_of s.tree c (level_of s.tree g) ≡ Some g =
      ap (group_at_of s.tree c) rises
      ∙ (paths s.tree kept.planned).climb c (level_of s.tree h.0) h.0 rest.1.at ∙ up in
      let there_under : is_under s.tree c (children.Group h) ≡ true =
      ((below_laws s.tree kept.planned).tested_below c h.0).1 (level_of s.tree h.0, rest.1.at) in (
        c,
        record {
          on = rest.1.on;
          at = at;
          looks = λ l by. (
              elim (cases_eq l (level_of s.tree g)) [
                | inl same ↦
                    subst (λ j. looks_after s c j ≡ true) (sym same)
                    (looks_with c (level_of s.tree g) g k
                    (children.Group h) at migrator there there_under)
                | inr other ↦ rest.1.looks l (omega (arith, by, other, rises))
              ]);
        },
      )

  leads_from : (n g : ℕ) → level_of s.tree g < n → g < group_count_of s.tree → (d : ℕ)
      → is_active s d ≡ true
      → is_below s.tree d g ≡ true → (e : ℕ) × LooksUp e g
  leads_from zero g high within d on below = absurd (omega (arith, high))
  leads_from (suc n) g high within d on below =
      elim (some_or_none (migrator_at s g)) [
        | inl none ↦ absurd (kept.holds.led.none g d within none on below)
        | inr there ↦
            let child = kept.holds.led.some g there.0 within there.1 in
            leads_by n g there.0 child.child child.cpu high there.1 child.there child.on child.under
            (λ h lower within_h below_h. leads_from n h lower within_h child.cpu child.on below_h)
      ]

  leads_on : (g k : ℕ) → g < group_count_of s.tree → migrator_at s g ≡ Some k → (e : ℕ)
      × LooksUp e g
  leads_on g k within migrator =
      let child = kept.holds.led.some g k within migrator in
      leads_from (suc (level_of s.tree g)) g (omega arith) within child.cpu child.on
      (under_below s.tree child.cpu g k child.child kept.planned child.there child.under)

  -- ASLEEP is a child below which no CPU is active
  asleep_by : (d g : ℕ) → is_below s.tree d g ≡ true
      → ((m : Child) → child_at s.tree g (bit_of s.tree m) ≡ Some m → is_under s.tree d m ≡ true
      → (e : ℕ) → is_active s e ≡ true → is_under s.tree e m ≡ true → ⊥)
      → inactive_child s (towards s.tree d g) ≡ true
  asleep_by d g below none =
      let way = through s.tree d g kept.planned below in
      ap (inactive_child s) way.is
      ∙ ap not (false_from_ne_true (child_active s way.child) (λ is.
      let one = some_there (λ e. is_active s e && is_under s.tree e way.child) 0 (cpu_count s) is in
      let both =
      and_parts (is_active s one.number) (is_under s.tree one.number way.child) one.passes in
      none way.child way.there way.under one.number both.0 both.1))

  -- ONE SLEEPER
  module _ (d : ℕ) (low : d < cpu_count s) (rest : rests (cpu_at s d) ≡ true)
      (by : (cpu_at s d).told ≤ s.clock) where
    early : (cpu_at s d).told < NEVER
    early = let in_time = kept.in_time in omega (arith, by, in_time)

    grouped : has_group_in s.tree d ≡ true
    grouped = teller_grouped s.tree kept.planned (cpu_at s) s.clock d (kept.holds.each d) early

    placed : is_placed_in s.tree d ≡ true
    placed = (placed_laws s.tree kept.planned).has_group d grouped

    -- the groups of its path below a level are inactive
    abbrev Quiet : ℕ → Type 0
    Quiet level = (k g : ℕ) → k < level → group_at_of s.tree d k ≡ Some g → migrator_at s g ≡ None

    abbrev Found : Type 0
    Found =
        (c : ℕ) × (level : ℕ)
        × Covers (cpu_count s) (level_count_of s.tree) s (having_interrupt plain_rules s) d c level

    below_at : (level g : ℕ) → group_at_of s.tree d level ≡ Some g → is_below s.tree d g ≡ true
    below_at level g at = ((below_laws s.tree kept.planned).tested_below d g).1 (level, at)

    -- towards it no CPU is active
    none_towards : (level g : ℕ) → Quiet level → group_at_of s.tree d level ≡ Some g → (m : Child)
        → child_at s.tree g (bit_of s.tree m) ≡ Some m → is_under s.tree d m ≡ true
        → (e : ℕ) → is_active s e ≡ true → is_under s.tree e m ≡ true → ⊥
    none_towards level g quiet at (children.Cpu x) there under e on e_under =
        let same : e ≡ d = eqb-true e x.0 e_under ∙ sym (eqb-true d x.0 under) in
        let idle = (and_parts (cpu_at s d).online (cpu_at s d).idle rest).1 in
        let awake =
        (and_parts (cpu_at s d).online (not (cpu_at s d).idle)
        (ap (is_active s) (sym same) ∙ on)).1 in
        both_ways (not (cpu_at s d).idle) (ap not idle) awake
    none_towards level g quiet at (children.Group h) there under e on e_under =
        let up =
        (edge_laws s.tree kept.planned).parent g (bit_of s.tree (children.Group h))
        (children.Group h) there in
        let rises = (level_laws s.tree kept.planned).parent h.0 g up in
        let is_level = (paths s.tree kept.planned).level d level g at in
        let within = (edge_laws s.tree kept.planned).group_within h.0 g up in
        let at_h =
        (paths s.tree kept.planned).below d h.0
        (((below_laws s.tree kept.planned).tested_below d h.0).0 under) in
        kept.holds.led.none h.0 e (omega (arith, within))
        (quiet (level_of s.tree h.0) h.0 (omega (arith, rises, is_level)) at_h) on e_under

    -- HELD by the first active group of its path
    held : (level g k : ℕ) → level < level_count_of s.tree → Quiet level
        → group_at_of s.tree d level ≡ Some g
        → migrator_at s g ≡ Some k → Found
    held level g k below quiet at migrator =
        let within = (paths s.tree kept.planned).group_within d level g at in
        let is_level = (paths s.tree kept.planned).level d level g at in
        let leads = leads_on g k within migrator in
        let c = leads.0 in
        let there : group_at_of s.tree c level ≡ Some g =
        ap (group_at_of s.tree c) (sym is_level) ∙ leads.1.at in
        let in_tree =
        below_low s.tree c g kept.planned
        (((below_laws s.tree kept.planned).tested_below c g).1 (level, there)) in
        let count = kept.cpus in
        let c_low : c < cpu_count s = omega (arith, in_tree, count) in (
          c,
          level,
          record {
            is_due = is_due s c c_low (active_due s c leads.1.on);
            low = c_low;
            below = below;
            looks = λ l up. leads.1.looks l (omega (arith, up, is_level));
            group = g;
            at = there;
            asleep = asleep_by d g (below_at level g at) (none_towards level g quiet at);
          },
        )

    -- WOKEN FOR, where none of them is active
    none_placed : (level g : ℕ) → suc level ≡ level_count_of s.tree
        → group_at_of s.tree d level ≡ Some g
        → migrator_at s g ≡ None → NonePlacedActive s.tree (cpu_at s)
    none_placed level g last at none e is_placed =
        let within = (paths s.tree kept.planned).group_within d level g at in
        let is_level = (paths s.tree kept.planned).level d level g at in
        let top = ((level_laws s.tree kept.planned).highest g within).0 (ap suc is_level ∙ last) in
        let under_top =
        ((below_laws s.tree kept.planned).tested_below e g).1
        ((below_laws s.tree kept.planned).top e g top is_placed) in
        false_from_ne_true (is_active s e) (λ on. kept.holds.led.none g e within none on under_top)

    -- then no group has a migrator
    no_migrator : NonePlacedActive s.tree (cpu_at s) → (g : ℕ) → g < group_count_of s.tree
        → migrator_at s g ≡ None
    no_migrator none g within =
        elim (some_or_none (migrator_at s g)) [
          | inl is ↦ is
          | inr there ↦
              let child = kept.holds.led.some g there.0 within there.1 in
              let below =
              under_below s.tree child.cpu g there.0 child.child kept.planned child.there
              child.under in
              let is_placed =
              (below_laws s.tree kept.planned).placed child.cpu g
              (((below_laws s.tree kept.planned).tested_below child.cpu g).0 below) in
              absurd (both_ways (is_active s child.cpu) (none child.cpu is_placed) child.on)
        ]

    woken_for : (level : ℕ) → suc level ≡ level_count_of s.tree → Quiet (suc level) → Found
    woken_for level last quiet =
        let below : level < level_count_of s.tree = omega (arith, last) in
        let there = (paths s.tree kept.planned).there d level placed below in
        let g = there.0 in
        let none = none_placed level g last there.1 (quiet level g (omega arith) there.1) in
        let waker = kept.holds.top tt none d early in
        let w = waker.0 in
        let count = kept.cpus in
        let wakes = waker.1.in_time d (omega (arith, low, count)) in
        let in_tree = (placed_laws s.tree kept.planned).in_range w waker.1.placed in
        let w_low : w < cpu_count s = omega (arith, in_tree, count) in
        let within = (paths s.tree kept.planned).group_within d level g there.1 in
        let is_level = (paths s.tree kept.planned).level d level g there.1 in
        let top =
        ((level_laws s.tree kept.planned).highest g within).0 (ap suc is_level ∙ last) in (
          w,
          level,
          record {
            is_due = is_due s w w_low (resting_due s w waker.1.rests (omega (arith, wakes, by)));
            low = w_low;
            below = below;
            looks = λ l up. (
                let at =
                (paths s.tree kept.planned).there w l waker.1.placed
                (omega (arith, up, last)) in
                looks_alone w l at.0 at.1
                (no_migrator none at.0
                ((paths s.tree kept.planned).group_within w l at.0 at.1)));
            group = g;
            at = (paths s.tree kept.planned).top w level g waker.1.placed last top;
            asleep = asleep_by d g (below_at level g there.1) (λ m is under e on e_under. (
                let e_below = under_below s.tree e g (bit_of s.tree m) m kept.planned is e_under in
                let e_placed =
                (below_laws s.tree kept.planned).placed e g
                (((below_laws s.tree kept.planned).tested_below e g).0 e_below) in
                both_ways (is_active s e) (none e e_placed) on));
          },
        )

    one_more : (level h : ℕ) → Quiet level → group_at_of s.tree d level ≡ Some h
        → migrator_at s h ≡ None → Quiet (level + 1)
    one_more level h quiet at none k g up on_path =
        elim (cases_eq k level) [
          | inl same ↦
              let is : h ≡ g =
              same_Some h g (sym at ∙ ap (group_at_of s.tree d) (sym same) ∙ on_path) in
              ap (migrator_at s) (sym is) ∙ none
          | inr other ↦ quiet k g (omega (arith, up, other)) on_path
        ]

    -- from a level upwards, below which its path is inactive
    found_from : (n level : ℕ) → level + n ≡ level_count_of s.tree → Quiet level → Found
    found_from zero level all quiet =
        let some = levels_there s.tree d kept.planned grouped in
        let under : suc (level - 1) ≡ level = omega (arith, all, some) in
        woken_for (level - 1) (omega (arith, all, some))
        (λ k g up at. quiet k g (omega (arith, up, under)) at)
    found_from (suc n) level all quiet =
        let there = (paths s.tree kept.planned).there d level placed (omega (arith, all)) in
        elim (some_or_none (migrator_at s there.0)) [
          | inr on ↦ held level there.0 on.0 (omega (arith, all)) quiet there.1 on.1
          | inl none ↦
              found_from n (level + 1) (omega (arith, all))
              (one_more level there.0 quiet there.1 none)
        ]

    pub found : Found
    found =
        found_from (level_count_of s.tree) 0 (zero-add (level_count_of s.tree))
        (λ k g up at. absurd (omega (arith, up)))

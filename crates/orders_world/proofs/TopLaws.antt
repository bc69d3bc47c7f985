-- how far up a wheel expiry was told, and what stands at the top
use Rattle.std.proofs.Common.{◌≡◌, ℕ, ◌+◌, ◌<◌, ◌≤◌, true, Option, Some, None}
use Rattle.std.proofs.Common.{sym, ap, ◌∙◌, subst, arith, inl, inr, true≢false}
use Rattle.std.specs.Prelude.{IfNone, is_some}
use Rattle.std.proofs.lemmas.Bool.{cases_lt}
use Rattle.std.proofs.lemmas.Option.{none-some, same_Some}
use Rattle.event_queue.specs.EventMap.{event_at}
use Rattle.tree_plan.specs.Laws.{PathLaws}
use Rattle.tree_plan.specs.Paths.{group_at_of, level_count_of}
use Rattle.tree_plan.specs.Shape.{Shape}
use Rattle.coverage.specs.Coverage.{HasEvent, Told}
use Rattle.walk_rules.specs.Hierarchy.{side}
use Rattle.core_world.specs.Covered.{live_expiry, machine_of}
use Rattle.core_world.specs.World.{World, group_of}
use Rattle.orders_world.specs.Seeking.{GoesThrough, TopTold}

-- the level of the last group of a path is the highest of the tree
pub highest_level : (t : Shape) → PathLaws t → (c l g : ℕ) → group_at_of t c l ≡ Some g →
    group_at_of t c (l + 1) ≡ None → l + 1 ≡ level_count_of t
highest_level t laws c l g here none = elim (cases_lt l (level_count_of t)) [
  | inr high ↦ absurd (none-some g (sym (laws.beyond c l high) ∙ here))
  | inl low ↦ elim (cases_lt (l + 1) (level_count_of t)) [
    | inl more ↦
        let above = laws.there c (l + 1) (laws.cpu_placed c l g here) more in
        absurd (none-some above.0 (sym none ∙ above.1))
    | inr last ↦ omega (arith, low, last)
  ]
]

module _ (w : World) (c wheel : ℕ) where
  pub told_to : (level n : ℕ) → level ≤ n → ((k : ℕ) → k < n → GoesThrough w c wheel k) →
      HasEvent (machine_of w) c wheel level → Told (machine_of w) c wheel level
  told_to level n enough each event = record {
    inactive = λ k g low at. (each k (omega (arith, low, enough))).asleep g at;
    events = λ k low. elim (cases_lt k level) [
      | inl less ↦ (each k (omega (arith, less, enough))).event
      | inr high ↦
          let same : level ≡ k = omega (arith, low, high) in
          subst (HasEvent (machine_of w) c wheel) same event
    ];
  }

  pub told_through : (level k : ℕ) → Told (machine_of w) c wheel level → k < level →
      GoesThrough w c wheel k
  told_through level k told low = record {
    event = told.events k (omega (arith, low));
    asleep = λ g at. told.inactive k g low at;
  }

  pub told_event : (level : ℕ) → Told (machine_of w) c wheel level →
      HasEvent (machine_of w) c wheel level
  told_event level told = told.events level (omega arith)

  module _ (laws : PathLaws w.tree) where
    -- there is one top
    pub one_level : (a b : ℕ) (one : TopTold w c wheel a) (other : TopTold w c wheel b) →
        one.level ≡ other.level
    one_level a b one other =
        let at = highest_level w.tree laws c one.level one.top one.on_path one.is_top in
        let there = highest_level w.tree laws c other.level other.top other.on_path other.is_top in
        omega (arith, at, there)

    module _ (level : ℕ) (last : level + 1 ≡ level_count_of w.tree) (time : ℕ)
        (told : TopTold w c wheel time) where
      level_is : told.level ≡ level
      level_is =
          let at = highest_level w.tree laws c told.level told.top told.on_path told.is_top in
          omega (arith, at, last)

      path_is : group_at_of w.tree c level ≡ Some told.top
      path_is = ap (group_at_of w.tree c) (sym level_is) ∙ told.on_path

      group_is : (g : ℕ) → group_at_of w.tree c level ≡ Some g → told.top ≡ g
      group_is g here = same_Some told.top g (sym path_is ∙ here)

      pub none_here : group_at_of w.tree c level ≡ None → ⊥
      none_here none = none-some told.top (sym none ∙ path_is)

      pub not_active : (g : ℕ) → group_at_of w.tree c level ≡ Some g →
          is_some (group_of w g).migrator ≡ true → ⊥
      not_active g here on =
          true≢false (sym on
          ∙ ap is_some (ap (λ x. (group_of w x).migrator) (sym (group_is g here)) ∙ told.inactive))

      pub is_told_here : Told (machine_of w) c wheel level
      is_told_here = subst (Told (machine_of w) c wheel) level_is told.told

      pub event_here : (g : ℕ) → group_at_of w.tree c level ≡ Some g →
          live_expiry (event_at (group_of w g).events (side w.tree c level)) ≡ Some time
      event_here g here =
          ap (λ x. live_expiry (event_at (group_of w x).events (side w.tree c level)))
          (sym (group_is g here))
          ∙ (ap (λ l. live_expiry (event_at (group_of w told.top).events (side w.tree c l)))
          (sym level_is)
          ∙ told.event)

    -- and none where there is no group
    pub no_levels : level_count_of w.tree ≡ 0 → (time : ℕ) → TopTold w c wheel time → ⊥
    no_levels none time told =
        let at = highest_level w.tree laws c told.level told.top told.on_path told.is_top in
        omega (arith, at, none)

    -- and so one time
    pub one_time : (a b : ℕ) → TopTold w c wheel a → TopTold w c wheel b → a ≡ b
    one_time a b one other =
        let last = highest_level w.tree laws c one.level one.top one.on_path one.is_top in
        same_Some a b
        (sym one.event ∙ event_here one.level last b other one.top one.on_path)

    pub no_event : (level g : ℕ) → level + 1 ≡ level_count_of w.tree →
        group_at_of w.tree c level ≡ Some g → (o : Option ℕ) →
        o ≡ live_expiry (event_at (group_of w g).events (side w.tree c level)) →
        IfNone o ((time : ℕ) → TopTold w c wheel time → ⊥)
    no_event level g last here (Some x) is = tt
    no_event level g last here None is = λ time told.
        none-some time (is ∙ event_here level last time told g here)

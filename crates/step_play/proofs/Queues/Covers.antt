-- for crates above: who covers a timer
use Rattle.std.proofs.Common.{◌≡◌, inl, inr, ℕ, zero, suc, ◌-◌, ◌<◌, ◌≤◌, cond, Bool, true, false}
use Rattle.std.proofs.Common.{List, [], ◌∷◌, length, Option, Some, None, refl, sym, ap, ◌∙◌, subst}
use Rattle.std.proofs.Common.{arith, true≢false}
use Rattle.std.specs.Prelude.{◌&&◌, find, is_some, nat_le, option_map, slice_get}
use Rattle.std.specs.Option.{option_map_or}
use Rattle.std.proofs.lemmas.Bool.{cases_Bool, cases_lt}
use Rattle.std.proofs.lemmas.Option.{none-some, same_Some}
use Rattle.tm_base.specs.declared.names.TheConstants.{NEVER}
use Rattle.tm_base.specs.declared.names.Child.{Child}
use Rattle.tm_base.specs.declared.names.Child.TheVariants as sorts
use Rattle.tm_base.specs.Children.{of_cpu}
use Rattle.tree_plan.specs.Paths.{IsUnder, bit_of, child_at, child_towards, group_at_of, is_under}
use Rattle.tree_plan.specs.Paths.{level_count_of, parent_of, path_of}
use Rattle.tree_plan.proofs.Below.{below_laws, paths}
use Rattle.wheel_core.specs.PlainBase.{least}
use Rattle.play_rules.specs.State.{Cpu, migrator_at}
use Rattle.play_rules.specs.Covers as plain
use Rattle.walk_rules.specs.Hierarchy.{side}
use Rattle.walk_rules.specs.Scene.{is_on}
use Rattle.core_world.specs.World.{CpuRecord, World, cpu_of, group_of, scene_of}
use Rattle.step_play.specs.Rules.Live.{expiry_of, live, told_by, told_in}
use Rattle.step_play.specs.Rules.Seen.{state_of}
use Rattle.step_play.specs.Rules.StepRules as steps
use Rattle.step_play.specs.Queues.AtRest.{AtRest}
use Rattle.step_play.specs.Queues.Choices.{CoversAlike, IsBelowIdle}
use Rattle.step_play.proofs.Queues.Active.{parent_on}
use Rattle.step_play.proofs.Queues.Firsts.{each_slot}
use Rattle.step_play.proofs.Queues.Looks.{below_within}
use Rattle.step_play.proofs.Queues.Sights.{migrator_seen, past_at, past_of, seen_at}
use Rattle.step_play.proofs.Queues.Tops.{least_from}

-- what isn't found passes nowhere
none_found : (p : ℕ → Bool) (xs : List ℕ) (i x : ℕ) → find p xs ≡ None → slice_get xs i ≡ Some x →
    p x ≡ false
none_found p [] i x none at = absurd (none-some x at)
none_found p (y ∷ xs) zero x none at = elim (cases_Bool (p y)) [
  | inl is ↦ absurd (none-some y (sym none ∙ ap (λ b. cond b (Some y) (find p xs)) is))
  | inr other ↦ ap p (sym (same_Some y x at)) ∙ other
]
none_found p (y ∷ xs) (suc i) x none at = elim (cases_Bool (p y)) [
  | inl is ↦ absurd (none-some y (sym none ∙ ap (λ b. cond b (Some y) (find p xs)) is))
  | inr other ↦
      none_found p xs i x (sym (ap (λ b. cond b (Some y) (find p xs)) other) ∙ none) at
]

inactive : (m : Option ℕ) → is_some m ≡ false → m ≡ None
inactive None e = refl
inactive (Some k) e = absurd (true≢false e)

module _ (w : World) (r : AtRest w) (c : ℕ) where
  abbrev last : ℕ
  last = level_count_of w.tree - 1

  -- WITHOUT A TOP nobody told anything
  module _ (none : group_at_of w.tree c last ≡ None) where
    no_leaf : (d : ℕ) → group_at_of w.tree d 0 ≡ None → told_by w d ≡ NEVER
    no_leaf d out = ap (told_in w d) out

    never_under : (m : Child) → child_towards w.tree c last ≡ Some m → (d : ℕ) →
        IsUnder w.tree d m → told_by w d ≡ NEVER
    never_under (sorts.Cpu e) at d is =
        no_leaf d ((paths w.tree r.planned).leaf d
        ∙ (ap (λ n. parent_of w.tree (of_cpu n)) is
        ∙ (sym ((paths w.tree r.planned).onwards c last (sorts.Cpu e) at) ∙ none)))
    never_under (sorts.Group x) at d is =
        let on = (paths w.tree r.planned).reached c last (sorts.Group x) at in
        let placed = (paths w.tree r.planned).cpu_placed c on.0 x.0 on.1 in
        let low : on.0 < level_count_of w.tree =
        elim (cases_lt on.0 (level_count_of w.tree)) [
          | inl less ↦ less
          | inr high ↦
              absurd (none-some x.0 (sym ((paths w.tree r.planned).beyond c on.0 high) ∙ on.1))
        ] in
        let top = (paths w.tree r.planned).there c last placed (omega (arith, low)) in
        absurd (none-some top.0 (sym none ∙ top.1))

    nothing_below : (o : Option Child) → child_towards w.tree c last ≡ o →
        plain.told_below (state_of w) o ≡ NEVER
    nothing_below None at = refl
    nothing_below (Some m) at =
        least_from w r (λ d. (d < length w.cpus) × (is_under w.tree d m ≡ true))
        (λ d. is_under w.tree d m) None (λ d low is. (low, is)) (λ d among. among)
        (λ d among. never_under m at d
        (((below_laws w.tree r.planned).tested_under d m).0 among.1))

    without_top : steps.time_at_top w c ≡ plain.told_to_top (state_of w) c
    without_top =
        ap (steps.event_at_top w c) none
        ∙ sym (nothing_below (child_towards w.tree c last) refl)

  -- AT THE TOP
  module _ (top : ℕ) (here : group_at_of w.tree c last ≡ Some top)
      (off : (group_of w top).migrator ≡ None) where
    module _ (m : Child) (at : child_towards w.tree c last ≡ Some m)
        (parent : parent_of w.tree m ≡ Some top)
        (there : child_at w.tree top (bit_of w.tree m) ≡ Some m) where
      rests : is_on (scene_of w) m ≡ false
      rests = elim (cases_Bool (is_on (scene_of w) m)) [
        | inr out ↦ out
        | inl on ↦ absurd (true≢false (sym (parent_on w r m top parent on) ∙ ap is_some off))
      ]

      side_is : side w.tree c last ≡ bit_of w.tree m
      side_is = ap (λ o. option_map_or (bit_of w.tree) o 0) at

      below_m : (d : ℕ) → IsBelowIdle w top (bit_of w.tree m) d → IsUnder w.tree d m
      below_m d b = subst (IsUnder w.tree d) (same_Some b.child m (sym b.there ∙ there)) b.under

      least_below : plain.told_below (state_of w) (Some m)
          ≡ expiry_of (live w top (bit_of w.tree m))
      least_below =
          least_from w r (λ d. IsBelowIdle w top (bit_of w.tree m) d) (λ d. is_under w.tree d m)
          (live w top (bit_of w.tree m))
          (λ d low is. record {
            child = m;
            there = there;
            under = ((below_laws w.tree r.planned).tested_under d m).0 is;
            off = rests;
          })
          (λ d b.
          let under = below_m d b in (
            below_within w r top d
                ((below_laws w.tree r.planned).group d top (bit_of w.tree m) m there under),
            ((below_laws w.tree r.planned).tested_under d m).1 under,
          ))
          (each_slot w r top (bit_of w.tree m))

      through : steps.time_at_top w c ≡ plain.told_to_top (state_of w) c
      through =
          ap (steps.event_at_top w c) here
          ∙ (ap (λ k. expiry_of (live w top k)) side_is
          ∙ (sym least_below ∙ sym (ap (plain.told_below (state_of w)) at)))

    with_top : steps.time_at_top w c ≡ plain.told_to_top (state_of w) c
    with_top =
        let way = (paths w.tree r.planned).towards c last top here in
        through way.0 way.1 way.2 way.3

  -- WHERE NO GROUP OF THE PATH IS ACTIVE
  module _ (none : plain.lowest_active_group (state_of w) c ≡ None) where
    off_at : (level g : ℕ) → group_at_of w.tree c level ≡ Some g → (group_of w g).migrator ≡ None
    off_at level g at =
        inactive (group_of w g).migrator (sym (ap is_some (migrator_seen w g))
        ∙ none_found (λ x. is_some (migrator_at (state_of w) x)) (path_of w.tree c) level g none
        ((paths w.tree r.planned).listed c level ∙ at))

    by_top : (o : Option ℕ) → group_at_of w.tree c last ≡ o →
        steps.time_at_top w c ≡ plain.told_to_top (state_of w) c
    by_top None at = without_top at
    by_top (Some top) at = with_top top at (off_at last top at)

    pub top_told : steps.time_at_top w c ≡ plain.told_to_top (state_of w) c
    top_told = by_top (group_at_of w.tree c last) refl

  above : (o : Option ℕ) → plain.lowest_active_group (state_of w) c ≡ o →
      steps.cover_above w c o ≡ plain.cover_above (state_of w) c o
  above (Some g) is = refl
  above None is =
      ap (λ time. option_map (plain.by_wakeup (state_of w)) (plain.waker_by (state_of w) time))
      (top_told is)

  module _ (low : c < length w.cpus) where
    for_wheel : (wheel : ℕ) → steps.cover_for w c wheel ≡ plain.cover_for (state_of w) c wheel
    for_wheel wheel =
        let lowest = plain.lowest_active_group (state_of w) c in
        ap (λ o. cond (nat_le (cpu_of w c).wakeup wheel) (Some (plain.by_wakeup (state_of w) c)) o)
        (above lowest refl)
        ∙ sym (ap (λ (y : Cpu). cond (nat_le y.wakeup wheel) (Some (plain.by_wakeup (state_of w) c))
        (plain.cover_above (state_of w) c lowest)) (seen_at w c low))

    where_wheel : (o : Option ℕ) → steps.cover_where w c o ≡ plain.cover_where (state_of w) c o
    where_wheel None = refl
    where_wheel (Some wheel) = ap (option_map (plain.answerer wheel)) (for_wheel wheel)

    within : steps.cover_by_queue w c ≡ plain.cover_of (state_of w) c
    within =
        ap (λ o. cond ((cpu_of w c).online && (cpu_of w c).idle) o None)
        (where_wheel (least (cpu_of w c).bases.bases.global.items))
        ∙ sym (ap (λ (y : Cpu). cond (y.online && y.idle)
        (plain.cover_where (state_of w) c (least y.bases.bases.global.items)) None)
        (seen_at w c low))

  past : length w.cpus ≤ c → steps.cover_by_queue w c ≡ plain.cover_of (state_of w) c
  past high =
      ap (λ (y : CpuRecord). cond (y.online && y.idle)
      (steps.cover_where w c (least y.bases.bases.global.items)) None) (past_of w c high)
      ∙ sym (ap (λ (y : Cpu). cond (y.online && y.idle)
      (plain.cover_where (state_of w) c (least y.bases.bases.global.items)) None)
      (past_at w c high))

pub covers_alike : CoversAlike
covers_alike w r c = elim (cases_lt c (length w.cpus)) [
  | inl low ↦ within w r c low
  | inr high ↦ past w r c high
]

-- what is known before a step, and tops
use Rattle.std.proofs.Common.{◌≡◌, inl, inr, ℕ, zero, suc, ◌<◌, ◌≤◌, true, false, true≢false}
use Rattle.std.proofs.Common.{length, List, [], ◌∷◌, get_or, Option, Some, None, refl, sym, ap, ◌∙◌}
use Rattle.std.proofs.Common.{arith}
use Rattle.std.specs.Prelude.{is_none}
use Rattle.std.proofs.lemmas.Bool.{cases_lt}
use Rattle.std.proofs.lemmas.List.Elements.{All-contains}
use Rattle.std.proofs.lemmas.Option.{none-some}
use Rattle.tm_base.specs.declared.names.TheConstants.{NEVER, TIME_LIMIT}
use Rattle.tm_base.specs.declared.names.Child.{Child}
use Rattle.tm_base.specs.Children.{of_group}
use Rattle.event_queue.specs.declared.event.Event.{Event}
use Rattle.event_queue.specs.EventMap.{event_at}
use Rattle.cpu_bases.specs.declared.entry.Entry.{Entry}
use Rattle.tree_plan.specs.Shape.{Shape, joined}
use Rattle.tree_plan.specs.Paths.{group_at_of, group_count_of, groups_of, is_placed_in}
use Rattle.tree_plan.specs.Paths.{level_count_of, parent_of}
use Rattle.walk_rules.specs.Clearing.{MarksHold}
use Rattle.walk_rules.specs.Hierarchy.{HasGroup, IsHierarchy, at_top}
use Rattle.walk_rules.specs.Queues.{SightsHold}
use Rattle.walk_rules.specs.Scene.{Group, no_group}
use Rattle.core_world.specs.Frames.{IsSized}
use Rattle.core_world.specs.IdleTop.{IsTopGroup, TopAnswered}
use Rattle.core_world.specs.Marks.{MarkersFit}
use Rattle.core_world.specs.Origins.{EventsHaveOrigins, HasOrigin}
use Rattle.core_world.specs.Timers.{NoNever, TimersHold}
use Rattle.core_world.specs.World.{World, cpu_of, group_of, scene_of}
use Rattle.core_laws.specs.Walks.Fit.{WalksFit}
use Rattle.core_laws.specs.Edges.Layer.{EdgesFit}
use Rattle.core_laws.proofs.Edges.Facts.{through_group}
use Rattle.core_laws.specs.Cpus.Layer.{CpusFit}
use Rattle.core_laws.proofs.Tops.Rising.{none_is}

-- the world before a step
pub record Before (w : World) : Type 0 where
  pub tree : IsHierarchy w.tree
  pub sized : IsSized w
  pub walks : WalksFit w.tree (scene_of w)
  pub edges : EdgesFit w.tree (scene_of w)
  pub marks : MarksHold w.tree (scene_of w)
  pub sights : SightsHold w.tree (scene_of w)
  pub cpus : CpusFit w
  pub markers : MarkersFit w
  pub timers : TimersHold w
  pub origins : EventsHaveOrigins w
  pub no_never : NoNever w
  pub answered : TopAnswered w

-- a slot's number is below eight
none_after : {A : Type 0} (xs : List A) (k : ℕ) (d : A) → length xs ≤ k → get_or xs k d ≡ d
none_after [] k d h = refl
none_after (x ∷ xs) zero d h = absurd (omega (arith, h))
none_after (x ∷ xs) (suc k) d h = none_after xs k d (omega (arith, h))

few : (w : World) → Before w → (g : ℕ) → length (group_of w g).events ≤ 8
few w b g = elim (cases_lt g (length w.groups)) [
  | inl within ↦ (let eight = b.sized.slots g within in omega (arith, eight))
  | inr out ↦
      (let none = ap (λ (z : Group). length z.events) (none_after w.groups g no_group out) in
      omega (arith, none))
]

pub slot_below : (w : World) → Before w → (g k : ℕ) (e : Event) →
    event_at (group_of w g).events k ≡ Some e → k < 8
slot_below w b g k e is = elim (cases_lt k 8) [
  | inl low ↦ low
  | inr high ↦
      (let eight = few w b g in
      absurd (none-some e
      (sym (none_after (group_of w g).events k None (omega (arith, high, eight))) ∙ is)))
]

-- WHERE EVENTS COME FROM says that their time comes
to_come : (w : World) (b : Before w) (time : ℕ) → HasOrigin w time → time ≤ NEVER
to_come w b time (inl never) = omega (arith, never)
to_come w b time (inr a) =
    let low : a.entry.wheel ≤ TIME_LIMIT =
    All-contains (λ (entry : Entry). entry.wheel ≤ TIME_LIMIT) (cpu_of w a.cpu).bases.journal
    a.entry (b.timers.consistent a.cpu).in_time a.written in
    omega (arith, low, a.wheel)

pub in_time : (w : World) → Before w → (g k : ℕ) (e : Event) →
    event_at (group_of w g).events k ≡ Some e → e.expiry < NEVER
in_time w b g k e is =
    let low = to_come w b e.expiry (b.origins.expiry g k e is) in
    let never = b.no_never.slots g k e is in
    omega (arith, low, never)

-- a tree with a group has a level
no_levels : (t : Shape) → level_count_of t ≡ 0 → group_count_of t ≡ 0
unfolding groups_of
no_levels t none = by_levels t.levels none
  where
    by_levels : (levels : List (List (List Child))) → length levels ≡ 0 → length (joined levels) ≡ 0
    by_levels [] e = refl
    by_levels (level ∷ levels) e = absurd (omega (arith, e))

goes_on : (m : Option ℕ) → is_none m ≡ false → (p : ℕ) × (m ≡ Some p)
goes_on None e = absurd (true≢false e)
goes_on (Some p) e = (p, refl)

module _ (w : World) (b : Before w) where
  -- where any CPU has a group, each placed one has
  pub placed_has : (c d : ℕ) → HasGroup w.tree c → is_placed_in w.tree d ≡ true → HasGroup w.tree d
  placed_has c d has placed = b.tree.placed d placed (above (level_count_of w.tree) refl)
    where
      above : (n : ℕ) → level_count_of w.tree ≡ n → 0 < level_count_of w.tree
      above zero e = let within = b.tree.within c 0 has.0 has.1 in let none = no_levels w.tree e in
          absurd (omega (arith, within, none))
      above (suc n) e = omega (arith, e)

  -- there is one top
  pub one_top : (h c l g : ℕ) → IsTopGroup w h → group_at_of w.tree c l ≡ Some g →
      at_top w.tree c l ≡ true → h ≡ g
  one_top h c l g top there last =
      b.tree.one_top top.cpu c top.level l h g top.there
      (none_is (group_at_of w.tree top.cpu (suc top.level)) top.last) there
      (none_is (group_at_of w.tree c (suc l)) last)

  up_of : (c l g : ℕ) → group_at_of w.tree c l ≡ Some g →
      group_at_of w.tree c (suc l) ≡ parent_of w.tree (of_group g)
  up_of c l g there = b.tree.onwards c (suc l) (of_group g) (through_group w.tree c l g there)

  -- and no path goes on from there
  pub not_above : (h c l : ℕ) → IsTopGroup w h → group_at_of w.tree c l ≡ Some h →
      at_top w.tree c l ≡ false → ⊥
  not_above h c l top there more =
      let p = goes_on (group_at_of w.tree c (suc l)) more in
      none-some p.0 (sym (none_is (group_at_of w.tree top.cpu (suc top.level)) top.last)
      ∙ (up_of top.cpu top.level h top.there ∙ (sym (up_of c l h there) ∙ p.1)))

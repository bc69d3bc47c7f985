-- the groups at the start
use Rattle.std.proofs.Common.{◌≡◌, ℕ, ◌-◌, ◌^◌, ◌<◌, ◌≤◌, length, replicate, Option, Some, None, sym, ap, ◌∙◌, inl, inr, subst, arith}
use Rattle.std.specs.Prelude.{map}
use Rattle.std.specs.List.{range_with_len}
use Rattle.std.proofs.lemmas.Bool.{cases_lt}
use Rattle.std.proofs.lemmas.List.{get_or-replicate, get_or_past, length-replicate}
use Rattle.std.proofs.lemmas.List.FromFn.{get_or-map-range_with_len, length-map-range_with_len}
use Rattle.std.proofs.lemmas.Nat.Bits.{bit_at-zero, bit_at_ones, bit_at_ones_above}
use Rattle.std.proofs.Math.Nat.{pow-le-pow_right}
use Rattle.event_queue.specs.declared.event.Event.{Event}
use Rattle.event_queue.specs.EventMap.{event_at}
use Rattle.group_word.specs.Group.{GroupLaw, IsActive}
use Rattle.tm_base.specs.declared.names.Child.{Child}
use Rattle.tree_plan.specs.Laws.{CutLaws, EdgeLaws}
use Rattle.tree_plan.specs.Shape.{Shape}
use Rattle.tree_plan.specs.Paths.{bit_of, child_count_of, group_count_of, parent_of}
use Rattle.walk_rules.specs.Scene.{Group, no_group}
use Rattle.core_world.specs.Start.{start_group, start_of}
use Rattle.core_world.specs.World.{group_of}

none_at : (n k : ℕ) → event_at (replicate n None) k ≡ None
none_at n k = elim (cases_lt k n) [
  | inl within ↦ get_or-replicate n k None None within
  | inr past ↦ get_or_past (replicate n None) k None (omega (arith, length-replicate {A = Option Event} n None))
]

module _ (t : Shape) (timers : ℕ) where
  pub group_there : (g : ℕ) → g < group_count_of t → group_of (start_of t timers) g ≡ start_group (child_count_of t g)
  group_there g within = get_or-map-range_with_len (λ h. start_group (child_count_of t h)) 0 (group_count_of t) g g no_group within (omega arith)

  pub group_past : (g : ℕ) → group_count_of t ≤ g → group_of (start_of t timers) g ≡ no_group
  group_past g past = get_or_past (map (λ h. start_group (child_count_of t h)) (range_with_len 0 (group_count_of t))) g no_group
      (omega (arith, length-map-range_with_len (λ h. start_group (child_count_of t h)) 0 (group_count_of t)))

  pub no_event : (g k : ℕ) → event_at (group_of (start_of t timers) g).events k ≡ None
  no_event g k = elim (cases_lt g (group_count_of t)) [
    | inl within ↦ ap (λ (z : Group). event_at z.events k) (group_there g within) ∙ none_at 8 k
    | inr past ↦ ap (λ (z : Group). event_at z.events k) (group_past g past)
  ]

  pub no_lock : (g : ℕ) → (group_of (start_of t timers) g).lock ≡ None
  no_lock g = elim (cases_lt g (group_count_of t)) [
    | inl within ↦ ap (λ (z : Group). z.lock) (group_there g within)
    | inr past ↦ ap (λ (z : Group). z.lock) (group_past g past)
  ]

  module _ (edges : EdgeLaws t) (cuts : CutLaws t) where
    first_on : (g : ℕ) → g < group_count_of t → IsActive (2 ^ child_count_of t g - 1) 0
    first_on g within = bit_at_ones (child_count_of t g) 0 (let some = cuts.some_child g within in omega (arith, some))

    pub law_at_start : (g : ℕ) → GroupLaw (group_of (start_of t timers) g).active (group_of (start_of t timers) g).migrator
    law_at_start g = elim (cases_lt g (group_count_of t)) [
      | inl within ↦ subst (λ (z : Group). GroupLaw z.active z.migrator) (sym (group_there g within)) (first_on g within)
      | inr past ↦ subst (λ (z : Group). GroupLaw z.active z.migrator) (sym (group_past g past)) (λ k on. (let none = bit_at-zero k in omega (arith, on, none)))
    ]

    few : (g : ℕ) → 2 ^ child_count_of t g - 1 < 2 ^ 8
    few g = let most : 2 ^ child_count_of t g ≤ 2 ^ 8 = pow-le-pow_right {n = 2} (omega arith) (cuts.at_most_8 g) in omega (arith, most)

    pub eight_at_start : (g : ℕ) → (group_of (start_of t timers) g).active < 2 ^ 8
    eight_at_start g = elim (cases_lt g (group_count_of t)) [
      | inl within ↦ subst (λ (z : Group). z.active < 2 ^ 8) (sym (group_there g within)) (few g)
      | inr past ↦ subst (λ (z : Group). z.active < 2 ^ 8) (sym (group_past g past)) (omega arith)
    ]

    child_of : (g k : ℕ) → IsActive (2 ^ child_count_of t g - 1) k → (m : Child) × (parent_of t m ≡ Some g) × (bit_of t m ≡ k)
    child_of g k on = elim (cases_lt k (child_count_of t g)) [
      | inl within ↦ let m = edges.some_at g k within in (m.0, edges.parent g k m.0 m.1, edges.bit g k m.0 m.1)
      | inr past ↦ let off = bit_at_ones_above (child_count_of t g) k past in absurd (omega (arith, on, off))
    ]

    pub children_at_start : (g k : ℕ) → IsActive (group_of (start_of t timers) g).active k → (m : Child) × (parent_of t m ≡ Some g) × (bit_of t m ≡ k)
    children_at_start g k on = elim (cases_lt g (group_count_of t)) [
      | inl within ↦ child_of g k (subst (λ (z : Group). IsActive z.active k) (group_there g within) on)
      | inr past ↦ let set = subst (λ (z : Group). IsActive z.active k) (group_past g past) on in let none = bit_at-zero k in absurd (omega (arith, set, none))
    ]

    pub bit_at_start : (m : Child) (g : ℕ) → parent_of t m ≡ Some g → IsActive (group_of (start_of t timers) g).active (bit_of t m)
    bit_at_start m g up = subst (λ (z : Group). IsActive z.active (bit_of t m)) (sym (group_there g (edges.parent_within g m up)))
        (bit_at_ones (child_count_of t g) (bit_of t m) (edges.bit_within g m up))

pub slots_at_start : (t : Shape) (timers g : ℕ) → g < group_count_of t → length (group_of (start_of t timers) g).events ≡ 8
slots_at_start t timers g within = ap (λ (z : Group). length z.events) (group_there t timers g within) ∙ length-replicate {A = Option Event} 8 None

-- the event that each CPU has in its leaf, as a step changes one group
use Rattle.std.proofs.Common.{◌≡◌, ◌≢◌, ◌⊎◌, inl, inr, ℕ, zero, suc, ◌<◌, Bool, length, set, Option, Some, None, refl, sym, ap, ◌∙◌, subst, arith}
use Rattle.std.specs.Option.{option_map_or}
use Rattle.std.proofs.lemmas.Bool.{cases_eq}
use Rattle.std.proofs.lemmas.List.{get_or-set_same, get_or-set_other}
use Rattle.event_queue.specs.declared.event.Event.{Event}
use Rattle.event_queue.specs.EventMap.{event_at}
use Rattle.tm_base.specs.Children.{of_cpu}
use Rattle.tree_plan.specs.Shape.{Shape}
use Rattle.tree_plan.specs.Paths.{bit_of, group_at_of, parent_of}
use Rattle.walk_rules.specs.Hierarchy.{IsHierarchy, side}
use Rattle.walk_rules.specs.Scene.{Group}
use Rattle.core_world.specs.Frames.{IsSized}
use Rattle.core_world.specs.World.{CpuRecord, World, group_of, moved}
use Rattle.core_world.proofs.Moves.{moved_laws}
use Rattle.core_world.proofs.Quiet.{moved_group_field}
use Rattle.core_laws.proofs.Edges.Facts.{own_child, own_edge}

abbrev pub slot_at : World → (c : ℕ) → (leaf : Option ℕ) → Option Event
slot_at w c None = None
slot_at w c (Some leaf) = event_at (group_of w leaf).events (side w.tree c 0)

-- the event that CPU c has in its leaf
abbrev pub slot_of : World → ℕ → Option Event
slot_of w c = slot_at w c (group_at_of w.tree c 0)

own_side : (t : Shape) (c : ℕ) → side t c 0 ≡ bit_of t (of_cpu c)
own_side t c = ap (λ m. option_map_or (bit_of t) m 0) (own_child t c)

leaf_parent : (t : Shape) → IsHierarchy t → (c : ℕ) → parent_of t (of_cpu c) ≡ group_at_of t c 0
leaf_parent t h c = sym (h.onwards c 0 (of_cpu c) (own_child t c))

-- two CPUs of one leaf have numbers of their own
apart_in_leaf : (t : Shape) → IsHierarchy t → (c d g : ℕ) → group_at_of t c 0 ≡ Some g → group_at_of t d 0 ≡ Some g → side t d 0 ≡ side t c 0 → d ≡ c
apart_in_leaf t h c d g ec ed same =
    let one = h.apart (of_cpu d) (of_cpu c) g (leaf_parent t h d ∙ ed) (leaf_parent t h c ∙ ec) (sym (own_side t d) ∙ (same ∙ own_side t c)) in
    own_edge t d 0 c (own_child t d ∙ ap Some one)

module _ (w : World) (g : ℕ) (x : Group) (c : ℕ) (y : CpuRecord) (r : Bool) where
  -- a step that leaves the group's events
  pub slots_same : x.events ≡ (group_of w g).events → (d : ℕ) → slot_of (moved w g x c y r) d ≡ slot_of w d
  slots_same e d = at_leaf (group_at_of w.tree d 0)
    where
      at_leaf : (m : Option ℕ) → slot_at (moved w g x c y r) d m ≡ slot_at w d m
      at_leaf None = refl
      at_leaf (Some leaf) = ap (λ events. event_at events (side w.tree d 0)) (moved_group_field w g x c y r (λ z. z.events) e leaf)

  -- a step that writes the event through which CPU c's path comes into the group
  module _ (h : IsHierarchy w.tree) (l : ℕ) (here : group_at_of w.tree c l ≡ Some g) (e : Option Event) (written : x.events ≡ set (group_of w g).events (side w.tree c l) e) where
    same_slot : (d leaf : ℕ) → (side w.tree d 0 ≡ side w.tree c l → leaf ≢ g) → event_at (group_of (moved w g x c y r) leaf).events (side w.tree d 0) ≡ event_at (group_of w leaf).events (side w.tree d 0)
    same_slot d leaf other = elim (cases_eq (side w.tree d 0) (side w.tree c l)) [
      | inl same ↦ ap (λ (z : Group). event_at z.events (side w.tree d 0)) ((moved_laws w g x c y r).changes.group leaf (other same))
      | inr ne ↦ moved_group_field w g x c y r (λ z. event_at z.events (side w.tree d 0))
          (ap (λ events. event_at events (side w.tree d 0)) written ∙ get_or-set_other (group_of w g).events (side w.tree c l) (side w.tree d 0) e None ne) leaf
    ]

    elsewhere : (d leaf n : ℕ) → l ≡ n → (d ≢ c) ⊎ (0 < n) → group_at_of w.tree d 0 ≡ Some leaf → side w.tree d 0 ≡ side w.tree c n → leaf ≢ g
    elsewhere d leaf zero at (inl ne) path same is = ne (apart_in_leaf w.tree h c d g (subst (λ n. group_at_of w.tree c n ≡ Some g) at here) (path ∙ ap Some is) same)
    elsewhere d leaf zero at (inr above) path same is = absurd (omega (arith, above))
    elsewhere d leaf (suc n) at other path same is =
        let level = h.one_level d c 0 l g (path ∙ ap Some is) here in absurd (omega (arith, level, at))

    pub slots_else : (d : ℕ) → (d ≢ c) ⊎ (0 < l) → slot_of (moved w g x c y r) d ≡ slot_of w d
    slots_else d other = at_leaf (group_at_of w.tree d 0) refl
      where
        at_leaf : (m : Option ℕ) → group_at_of w.tree d 0 ≡ m → slot_at (moved w g x c y r) d m ≡ slot_at w d m
        at_leaf None is = refl
        at_leaf (Some leaf) is = same_slot d leaf (elsewhere d leaf l refl other is)

    -- and at the leaf it is what CPU c has there
    pub slot_written : IsSized w → l ≡ 0 → slot_of (moved w g x c y r) c ≡ e
    slot_written sized low =
        let path : group_at_of w.tree c 0 ≡ Some g = subst (λ n. group_at_of w.tree c n ≡ Some g) low here in
        let within : g < length w.groups = (let groups = sized.groups in let low = h.within c 0 g path in omega (arith, groups, low)) in
        let slot : side w.tree c 0 < length (group_of w g).events = (let at = own_side w.tree c in let eight = h.eight (of_cpu c) in let slots = sized.slots g within in omega (arith, at, eight, slots)) in
        let now : x.events ≡ set (group_of w g).events (side w.tree c 0) e = subst (λ n. x.events ≡ set (group_of w g).events (side w.tree c n) e) low written in
        ap (slot_at (moved w g x c y r) c) path ∙ (ap (λ (z : Group). event_at z.events (side w.tree c 0)) ((moved_laws w g x c y r).group within)
        ∙ (ap (λ events. event_at events (side w.tree c 0)) now ∙ get_or-set_same (group_of w g).events (side w.tree c 0) e None slot))

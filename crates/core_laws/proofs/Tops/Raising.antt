-- activations: Own, Up and Mark keep an idle top answered
use Rattle.std.proofs.Common.{◌≡◌, inl, inr, ℕ, suc, ◌<◌, Bool, true, false, length, Option, Some}
use Rattle.std.proofs.Common.{None, refl, sym, ap, ◌∙◌, subst, arith}
use Rattle.std.specs.Prelude.{is_some, unwrap_or}
use Rattle.std.specs.Option.{option_or}
use Rattle.std.proofs.lemmas.Option.{none-some}
use Rattle.event_queue.specs.EventMap.{event_at}
use Rattle.tree_plan.specs.Paths.{group_at_of}
use Rattle.walk_rules.specs.declared.walk.Walk.{Walk}
use Rattle.walk_rules.specs.declared.walk.WalkKind.TheVariants as kinds
use Rattle.walk_rules.specs.declared.walk.Stage.TheVariants as stages
use Rattle.walk_rules.specs.Clearing.{MarksActive}
use Rattle.walk_rules.specs.Hierarchy.{HasGroup, at_top, group_on, side}
use Rattle.walk_rules.specs.Edges.{edge_level}
use Rattle.walk_rules.specs.Scene.{Group}
use Rattle.walk_rules.specs.Stages.{at_stage, forget, higher, joined_by, mark_next, up_next}
use Rattle.walk_rules.specs.Stages.{with_mark}
use Rattle.core_world.specs.IdleTop.{Answered, TopAnswered}
use Rattle.core_world.specs.Steps.{here, walked, with_walk}
use Rattle.core_world.specs.World.{World, cpu_of, group_of, moved, scene_of}
use Rattle.core_world.proofs.Moves.{moved_laws}
use Rattle.core_laws.proofs.Walks.Stands.{stands_in}
use Rattle.core_laws.proofs.Tops.Slots.{group_cases, marked_counts}
use Rattle.core_laws.proofs.Tops.Answering.{By, OwnGoesOn, WasThere, answered_own, tame, tops_step}
use Rattle.core_laws.proofs.Tops.Answering.By.{activation}
use Rattle.core_laws.proofs.Tops.Rising.{group_rises}
use Rattle.core_laws.proofs.Tops.Tops.{Before, one_top}
use Rattle.core_laws.proofs.Tops.Walking.{fits, goes_on, no_kind, not_climbing, one_kind, rising_answers}
use Rattle.core_laws.proofs.Tops.Walking.{walk_is}

joined_some : (m : Option ℕ) (k : ℕ) → option_or m (Some k) ≡ None → ⊥
joined_some None k e = none-some k (sym e)
joined_some (Some a) k e = none-some a (sym e)

module _ (w : World) (c : ℕ) (k : Walk) (hc : c < length w.cpus) (b : Before w)
    (is : (cpu_of w c).walk ≡ Some k) where
  -- an activation's walk that goes on as one, or whose end doesn't matter
  activating : (g : ℕ) (x : Group) (m : Option Walk) (r : Bool) (child time : ℕ) →
      k.kind ≡ kinds.Activate → ((j : Walk) → m ≡ Some j → j.kind ≡ k.kind)
      → Answered (moved w g x c (with_walk (cpu_of w c) m) r) child time → HasGroup w.tree c →
      By w.tree c (cpu_of w c) child time →
      Answered (moved w g x c (with_walk (cpu_of w c) m) r) child time
  activating g x m r child time kind same answer leaf by =
      goes_on w c k hc b is g x m r child time same (record {
        activation = λ act. answer;
        climbing = λ climbs over. absurd (not_climbing k.kind kind climbs);
        reading = λ climbs top on yet. absurd (not_climbing k.kind kind climbs);
        first = λ climbs low. absurd (not_climbing k.kind kind climbs);
      }) leaf by

  goes_as : (g : ℕ) (x : Group) (j : Walk) (r : Bool) (child time : ℕ) → k.kind ≡ kinds.Activate →
      j.kind ≡ k.kind → HasGroup w.tree c →
      Answered (moved w g x c (with_walk (cpu_of w c) (Some j)) r) child time
  goes_as g x j r child time kind same leaf =
      answered_own w g x c (with_walk (cpu_of w c) (Some j)) r hc child time leaf
      (activation j refl (same ∙ kind))

  marked_back : (g j : ℕ) (m : Option Walk) →
      WasThere w g (with_mark (group_of w g) j) c (with_walk (cpu_of w c) m) false hc
  marked_back g j m =
      tame w g (with_mark (group_of w g) j) c (with_walk (cpu_of w c) m) false hc refl
      (λ i e at counts. marked_counts (group_of w g).events j i e at counts)

  pub own : k.stage ≡ stages.Own → TopAnswered (walked w c k stages.Own)
  own at =
      let kind = (fits w c k hc b is stages.Own at (λ z. cc)).0 in
      tops_step w _ _ c _ false hc b.answered (marked_back _ _ _)
      (λ h child e top was off event counts leaf by.
      activating _ _ (Some (at_stage k stages.Up)) false child e.expiry kind
      (one_kind k (at_stage k stages.Up) refl)
      (goes_as _ _ (at_stage k stages.Up) false child e.expiry kind refl leaf) leaf by)

  -- the group of its level
  at_here : k.stage ≡ stages.Up → (group_at_of w.tree c k.level ≡ Some (here w c k))
      × (here w c k < length w.groups)
  at_here at =
      let g = stands_in w.tree (scene_of w) b.walks c (forget k) (walk_is w c k hc b is)
      (λ z. up_only (sym at ∙ z)) in
      let named : here w c k ≡ g.0 = ap (λ m. unwrap_or m 0) g.1 in
      let low = b.tree.within c k.level g.0 g.1 in
      (g.1 ∙ ap Some (sym named), omega (arith, named, low, b.sized.groups))
    where
      up_only : stages.Up ≡ stages.Finish → ⊥
      up_only z = cc

  -- the group that its child joins has a migrator
  abbrev joined : Group
  joined = joined_by (group_of w (here w c k)) (side w.tree c k.level)

  up_back : (m : Option Walk) → WasThere w (here w c k) joined c (with_walk (cpu_of w c) m) true hc
  up_back m h child e top off event counts =
      elim (group_cases w (here w c k) joined c (with_walk (cpu_of w c) m) true h) [
        | inl p ↦
            absurd (joined_some (group_of w (here w c k)).migrator (side w.tree c k.level)
            (sym (ap (λ (z : Group). z.migrator) p.1) ∙ off))
        | inr same ↦
            inl (
              sym (ap (λ (z : Group). z.migrator) same) ∙ off,
              sym (ap (λ (z : Group). event_at z.events child) same) ∙ event,
            )
      ]

  up_own : (top more : Bool) → at_top w.tree c k.level ≡ top → k.stage ≡ stages.Up →
      OwnGoesOn w (here w c k) joined c (with_walk (cpu_of w c) (up_next top more k)) true hc
  up_own true more last at h child e top was off event counts leaf by =
      let u = at_here at in
      activating _ _ None true child e.expiry (fits w c k hc b is stages.Up at (λ z. cc))
      (no_kind k)
      (absurd (joined_some (group_of w (here w c k)).migrator (side w.tree c k.level)
      (sym (ap (λ (z : Group). z.migrator)
      ((moved_laws w (here w c k) joined c (with_walk (cpu_of w c) None) true).group u.1))
      ∙ (ap (λ n.
      (group_of (moved w (here w c k) joined c (with_walk (cpu_of w c) None) true) n).migrator)
      (sym (one_top w b h c k.level (here w c k) top u.0 last)) ∙ off))))
      leaf by
  up_own false more last at h child e top was off event counts leaf by =
      let kind = fits w c k hc b is stages.Up at (λ z. cc) in
      activating _ _ (Some (at_stage k (stages.Mark more))) true child e.expiry kind
      (one_kind k (at_stage k (stages.Mark more)) refl)
      (goes_as _ _ (at_stage k (stages.Mark more)) true child e.expiry kind refl leaf) leaf by

  pub up : k.stage ≡ stages.Up → TopAnswered (walked w c k stages.Up)
  up at = tops_step w (here w c k) joined c _ true hc b.answered (up_back _)
      (up_own (at_top w.tree c k.level) _ refl at)

  -- where Mark ends the activation, the group that it marks is active
  mark_own : (more : Bool) → k.stage ≡ stages.Mark more
      → OwnGoesOn w (group_on w.tree c (suc k.level))
      (with_mark (group_of w (group_on w.tree c (suc k.level))) (side w.tree c (suc k.level))) c
      (with_walk (cpu_of w c) (mark_next more k)) false hc
  mark_own true at h child e top was off event counts leaf by =
      let kind = (fits w c k hc b is (stages.Mark true) at (λ z. cc)).0 in
      activating _ _ (Some (higher k stages.Up)) false child e.expiry kind
      (one_kind k (higher k stages.Up) refl)
      (goes_as _ _ (higher k stages.Up) false child e.expiry kind refl leaf) leaf by
  mark_own false at h child e top was off event counts leaf by =
      let kind = (fits w c k hc b is (stages.Mark false) at (λ z. cc)).0 in
      let g = (b.walks.placed.in_tree c (forget k) (walk_is w c k hc b is) leaf).there in
      let on = subst (MarksActive w.tree (scene_of w) c k.level) at
      (b.marks c (forget k) (walk_is w c k hc b is)) g.0 g.1 in
      let rising =
      group_rises w.tree (scene_of w) b.tree b.walks b.edges c k.level g.0 g.1 on top.cpu
      top.level h top.there top.last (ap is_some was) in
      activating _ _ None false child e.expiry kind (no_kind k)
      (rising_answers w c k hc b is _ _ None false child e.expiry rising
      (ap (edge_level k.level) at)) leaf by

  pub mark : (more : Bool) → k.stage ≡ stages.Mark more →
      TopAnswered (walked w c k (stages.Mark more))
  mark more at = tops_step w _ _ c _ false hc b.answered (marked_back _ _ _) (mark_own more at)

-- for crates above: in a core at rest no walk stands at an edge, and what is active is known above
use Rattle.std.proofs.Common.{◌≡◌, inl, inr, ℕ, zero, suc, cond, Bool, true, false, Option}
use Rattle.std.proofs.Common.{Some, None, refl, sym, ap, ◌∙◌, subst, arith}
use Rattle.std.specs.Prelude.{is_some, option_and_then, option_map}
use Rattle.std.specs.Int.{bit_at}
use Rattle.std.proofs.lemmas.Bool.{cases_Bool, cases_eq}
use Rattle.std.proofs.lemmas.Option.{none-some}
use Rattle.group_word.specs.Group.{GroupLaw, IsActive}
use Rattle.tm_base.specs.declared.names.Child.{Child}
use Rattle.tm_base.specs.declared.names.Child.TheVariants as sorts
use Rattle.tm_base.specs.Children.{of_cpu, of_group}
use Rattle.tree_plan.specs.Paths.{IsBelow, bit_of, child_towards, group_at_of, level_of, parent_of}
use Rattle.tree_plan.proofs.Below.{paths}
use Rattle.tree_plan.proofs.Trees.{level_laws}
use Rattle.walk_rules.specs.declared.walk.Walk.{Walk}
use Rattle.walk_rules.specs.declared.walk.Stage.TheVariants as stages
use Rattle.walk_rules.specs.Clearing.{IsSeenTo, StandsUnder, clears_at, clears_by}
use Rattle.walk_rules.specs.Clearing.{side_of_exchange}
use Rattle.walk_rules.specs.Edges.{StandsAt, StandsBelow, edge_level, edge_of}
use Rattle.walk_rules.specs.Hierarchy.{HasGroup, at_top}
use Rattle.walk_rules.specs.Scene.{HasBit, is_on}
use Rattle.walk_rules.specs.Stages.{forget}
use Rattle.walk_rules.specs.Standing.{FlagsAt, is_leaving}
use Rattle.core_world.specs.World.{World, cpu_of, group_of, is_active, scene_of}
use Rattle.step_play.specs.Queues.AtRest.{AtRest}

some_of : (m : Option ℕ) → is_some m ≡ true → (k : ℕ) × (m ≡ Some k)
some_of None e = absurd (cc)
some_of (Some k) e = (k, refl)

-- a group with an active child is active
active_by : (active : ℕ) (m : Option ℕ) (k : ℕ) → GroupLaw active m → IsActive active k →
    is_some m ≡ true
active_by active None k law set = absurd (law k set)
active_by active (Some m) k law set = refl

-- an active CPU below a group
pub record RunsBelow (w : World) (g : ℕ) : Type 0 where
  pub runner : ℕ
  pub below : IsBelow w.tree runner g
  pub active : is_active (cpu_of w runner) ≡ true

module _ (w : World) (r : AtRest w) where
  -- no walk stands at an edge
  no_edge : (c : ℕ) (m : Option Walk) → (cpu_of w c).walk ≡ m →
      edge_of (option_map forget m) ≡ None
  no_edge c None is = refl
  no_edge c (Some k) is = ap (edge_level k.level) (r.walks c k is)

  no_edges : (c : ℕ) → edge_of ((scene_of w).walk c) ≡ None
  no_edges c = no_edge c (cpu_of w c).walk refl

  none_at : (m : Child) → StandsAt w.tree (scene_of w) m → ⊥
  none_at m (d, e) = none-some m
      (sym (ap (option_and_then (child_towards w.tree d)) (no_edges d)) ∙ e)

  none_below : (x : ℕ) → StandsBelow w.tree (scene_of w) x → ⊥
  none_below x (d, e) = none-some x
      (sym (ap (option_and_then (group_at_of w.tree d)) (no_edges d)) ∙ e)

  -- a walk that waits has ended its way up
  has_leaf : (c : ℕ) (k : Walk) → (cpu_of w c).walk ≡ Some k → (o : Option ℕ) →
      group_at_of w.tree c 0 ≡ o → HasGroup w.tree c
  has_leaf c k is (Some g) at = (g, at)
  has_leaf c k is None at =
      let alone = r.lawful.placed.alone c (forget k) (ap (option_map forget) is)
      (λ has. none-some has.0 (sym at ∙ has.1)) in
      let finishes : k.stage ≡ stages.Finish = alone.finishing in
      let hands : k.stage ≡ stages.Handing = r.walks c k is in
      absurd (cc)

  over_is : (c : ℕ) (k : Walk) → (cpu_of w c).walk ≡ Some k → k.over ≡ true
  over_is c k is =
      subst (λ st. FlagsAt (at_top w.tree c k.level) k.on k.over st) (r.walks c k is)
      (r.lawful.flags c (forget k) (ap (option_map forget) is)
      (has_leaf c k is (group_at_of w.tree c 0) refl))

  none_clears : (d : ℕ) (fresh : Bool) (m : Option Walk) (z : Child) → (cpu_of w d).walk ≡ m →
      clears_by w.tree d fresh (option_map forget m) ≡ Some z → ⊥
  none_clears d fresh None z is e = none-some z e
  none_clears d fresh (Some k) z is e =
      none-some z (sym (either (is_leaving k.kind)
      (clears_at w.tree d k.level k.child_on fresh k.over (side_of_exchange k.stage)) nothing) ∙ e)
    where
      nothing :
          clears_at w.tree d k.level k.child_on fresh k.over (side_of_exchange k.stage) ≡ None
      nothing =
          ap (λ st. clears_at w.tree d k.level k.child_on fresh k.over (side_of_exchange st))
          (r.walks d k is)
          ∙ ap (λ b. cond b None (option_map of_group (group_at_of w.tree d k.level)))
          (over_is d k is)

      either : (b : Bool) (o : Option Child) → o ≡ None → cond b o None ≡ None
      either true o none = none
      either false o none = refl

  none_under : (m : Child) → StandsUnder w.tree (scene_of w) m → ⊥
  none_under (sorts.Cpu c) stands = stands
  none_under (sorts.Group x) stands = none_below x.0 stands

  none_sees_to : (m : Child) → IsSeenTo w.tree (scene_of w) m → ⊥
  none_sees_to m (inl (d, e)) = none_clears d ((scene_of w).fresh d) (cpu_of w d).walk m refl e
  none_sees_to m (inr stands) = none_under m stands

  -- a bit is set exactly where its child is active
  pub set_on : (m : Child) (g : ℕ) → parent_of w.tree m ≡ Some g →
      HasBit w.tree (scene_of w) m g → is_on (scene_of w) m ≡ true
  set_on m g parent set = elim (cases_Bool (is_on (scene_of w) m)) [
    | inl on ↦ on
    | inr off ↦ absurd (none_sees_to m (r.lawful.bits m g parent off set))
  ]

  pub on_set : (m : Child) (g : ℕ) → parent_of w.tree m ≡ Some g →
      is_on (scene_of w) m ≡ true → HasBit w.tree (scene_of w) m g
  on_set m g parent on = elim (cases_eq (bit_at (group_of w g).active (bit_of w.tree m)) 1) [
    | inl set ↦ set
    | inr unset ↦ absurd (none_at m (r.lawful.edges.needs m g parent on unset))
  ]

  -- what has an active child is active, and so on to the top
  pub parent_on : (m : Child) (g : ℕ) → parent_of w.tree m ≡ Some g →
      is_on (scene_of w) m ≡ true → is_some (group_of w g).migrator ≡ true
  parent_on m g parent on =
      active_by (group_of w g).active (group_of w g).migrator (bit_of w.tree m)
      (r.lawful.groups.law g) (on_set m g parent on)

  pub path_on : (d level g : ℕ) → is_active (cpu_of w d) ≡ true →
      group_at_of w.tree d level ≡ Some g → is_some (group_of w g).migrator ≡ true
  path_on d zero g on here =
      parent_on (of_cpu d) g (sym ((paths w.tree r.planned).leaf d) ∙ here) on
  path_on d (suc level) g on here =
      let x = r.lawful.hierarchy.lower d level g here in
      parent_on (of_group x.0) g
      (sym ((paths w.tree r.planned).climb d level x.0 x.1) ∙ here) (path_on d level x.0 on x.1)

  -- and what is active has an active CPU below it
  module _ (g : ℕ) (deeper : (x : ℕ) → level_of w.tree g ≡ suc (level_of w.tree x) →
      is_some (group_of w x).migrator ≡ true → RunsBelow w x) where
    by_child : (m : Child) → parent_of w.tree m ≡ Some g → is_on (scene_of w) m ≡ true →
        RunsBelow w g
    by_child (sorts.Cpu c) parent on = record {
      runner = c.0;
      below = (0, (paths w.tree r.planned).leaf c.0 ∙ parent);
      active = on;
    }
    by_child (sorts.Group x) parent on =
        let run = deeper x.0 ((level_laws w.tree r.planned).parent x.0 g parent) on in
        record {
          runner = run.runner;
          below = (
            suc run.below.0,
            (paths w.tree r.planned).climb run.runner run.below.0 x.0 run.below.1 ∙ parent,
          );
          active = run.active;
        }

    runs_below : is_some (group_of w g).migrator ≡ true → RunsBelow w g
    runs_below on =
        let k = some_of (group_of w g).migrator on in
        let set : IsActive (group_of w g).active k.0 =
        subst (GroupLaw (group_of w g).active) k.1 (r.lawful.groups.law g) in
        let m = r.lawful.groups.children g k.0 set in
        by_child m.0 m.1
        (set_on m.0 g m.1 (subst (IsActive (group_of w g).active) (sym m.2) set))

  runs_at : (n g : ℕ) → level_of w.tree g ≡ n → is_some (group_of w g).migrator ≡ true →
      RunsBelow w g
  runs_at zero g level on = runs_below g (λ x up is. absurd (omega (arith, level, up))) on
  runs_at (suc n) g level on =
      runs_below g (λ x up is. runs_at n x (omega (arith, level, up)) is) on

  pub runs : (g : ℕ) → is_some (group_of w g).migrator ≡ true → RunsBelow w g
  runs g on = runs_at (level_of w.tree g) g refl on

-- where a walk stands
use Rattle.std.proofs.Common.{◌≡◌, ◌⊎◌, ℕ, zero, suc, ◌<◌, Bool, true, false, true≢false}
use Rattle.std.proofs.Common.{Option, Some, None, length, refl, sym, ◌∙◌, subst, arith, inl, inr}
use Rattle.std.specs.Prelude.{is_none}
use Rattle.std.specs.Option.{option_map_or}
use Rattle.tm_base.specs.declared.names.Child.{Child}
use Rattle.tree_plan.specs.Shape.{Shape}
use Rattle.tree_plan.specs.Paths.{bit_of, child_towards, group_at_of}
use Rattle.walk_rules.specs.declared.walk.Walk.{Walk}
use Rattle.walk_rules.specs.declared.walk.Stage.{Stage}
use Rattle.walk_rules.specs.declared.walk.Stage.TheVariants as stages
use Rattle.walk_rules.specs.Hierarchy.{HasGroup, IsHierarchy, at_top}
use Rattle.walk_rules.specs.Queues.{group_under}
use Rattle.walk_rules.specs.Stages.{forget}
use Rattle.walk_rules.specs.Standing.{FitsStage, FlagsAt, GoesOn}
use Rattle.core_world.specs.Lawful.{IsLawful}
use Rattle.core_world.specs.World.{World, cpu_of}
use Rattle.core_facts.specs.Places.{EachPlaceFits, IsGroupAt, StandsAtGroup}
use Rattle.core_facts.proofs.Scenes.{in_scene, stands_where}

side_low : (t : Shape) → IsHierarchy t → (m : Option Child) → option_map_or (bit_of t) m 0 < 8
side_low t tree None = omega arith
side_low t tree (Some m) = tree.eight m

-- below the top a path goes on
goes_on : (t : Shape) (c l : ℕ) (m : Option ℕ) → group_at_of t c (suc l) ≡ m → is_none m ≡ false
    → GoesOn t c l
goes_on t c l None is top = absurd (true≢false top)
goes_on t c l (Some p) is top = (p, is)

not_over : (top over : Bool) → (top ≡ true → over ≡ true) → over ≡ false → top ≡ false
not_over true over then off = absurd (true≢false (sym (then refl) ∙ off))
not_over false over then off = refl

-- at the stages that give a lock back, the walk is over at the top
over_at_top : (top on over : Bool) (stage : Stage) → FlagsAt top on over stage
    → (stage ≡ stages.FreeGroup) ⊎ (stage ≡ stages.FreeChild) → top ≡ true → over ≡ true
over_at_top top on over stage flags (inl at) = subst (FlagsAt top on over) at flags
over_at_top top on over stage flags (inr at) = subst (FlagsAt top on over) at flags

module _ (w : World) (l : IsLawful w) (c : ℕ) (k : Walk) (is : (cpu_of w c).walk ≡ Some k)
    (has : HasGroup w.tree c) where
  at_group : (g : ℕ) → group_at_of w.tree c k.level ≡ Some g → IsGroupAt w c k.level g
  at_group g there =
      let within = l.hierarchy.within c k.level g there in
      let sized = l.sized.groups in
      let low : g < length w.groups = omega arith in
      let eight = l.sized.slots g low in
      let side = side_low w.tree l.hierarchy (child_towards w.tree c k.level) in
      record { path = there; in_range = low; slot = omega arith }

  in_groups : (level h : ℕ) → group_at_of w.tree c level ≡ Some h → h < length w.groups
  in_groups level h there =
      let within = l.hierarchy.within c level h there in
      let sized = l.sized.groups in
      omega arith

  stands : StandsAtGroup w c k
  stands =
      let place = l.placed.in_tree c (forget k) (in_scene w c k is) has in
      let flags = l.flags c (forget k) (in_scene w c k is) has in
      record {
        group = (place.there.0, at_group place.there.0 place.there.1);
        child = λ high. under k.level place.there.0 place.there.1 high;
        fits = place.fits;
        flags = flags;
        marks = λ more at. (subst (FitsStage w.tree c k.kind k.level) at place.fits).1;
        goes_on =
            λ at off. goes_on w.tree c k.level (group_at_of w.tree c (suc k.level)) refl
            (not_over (at_top w.tree c k.level) k.over
            (over_at_top (at_top w.tree c k.level) k.on k.over k.stage flags at) off);
      }
    where
      under : (level g : ℕ) → group_at_of w.tree c level ≡ Some g → 0 < level
          → (h : ℕ) × (group_under w.tree c level ≡ Some h) × (h < length w.groups)
      under zero g there high = absurd (omega arith)
      under (suc level) g there high =
          let lower = l.hierarchy.lower c level g there in
          (lower.0, lower.1, in_groups level lower.0 lower.1)

pub each_place_fits : EachPlaceFits
each_place_fits w l = record {
  in_tree = λ c k is has. stands w l c k is has;
  alone =
      λ c k is none. (let a = l.placed.alone c (forget k) (in_scene w c k is) none in
      record {
        finishing = a.finishing;
        tells = a.tells;
        own = a.own;
        no_best = a.no_best;
        offline = a.offline;
      });
  stages_of = stands_where w l;
}

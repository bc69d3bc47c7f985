-- for crates above: where the migrators of an active group lead
use Rattle.std.proofs.Common.{◌≡◌, ◌⊎◌, inl, inr, ℕ, zero, suc, ◌+◌, ◌<◌, ◌≤◌, Bool, true, false}
use Rattle.std.proofs.Common.{Option, Some, None, refl, sym, ap, ◌∙◌, subst, arith}
use Rattle.std.specs.Prelude.{◌&&◌, is_some, option_and_then, option_map, if◌then◌else◌}
use Rattle.std.proofs.lemmas.Option.{none-some}
use Rattle.walk_rules.specs.group_word.Group.{GroupLaw, IsActive}
use Rattle.tm_base.specs.declared.names.Child.{Child}
use Rattle.tm_base.specs.declared.names.Child.TheVariants as sorts
use Rattle.tm_base.specs.Children.{of_group}
use Rattle.tree_plan.specs.Shape.{Shape}
use Rattle.tree_plan.specs.Paths.{bit_of, child_at, child_towards, group_at_of, group_count_of}
use Rattle.tree_plan.specs.Paths.{parent_of}
use Rattle.core_world.specs.coverage.Coverage.{to_cpu, to_group}
use Rattle.walk_rules.specs.declared.walk.Walk.{Walk}
use Rattle.walk_rules.specs.Clearing.{IsSeenTo, Side, StandsUnder, after, before, clears_at}
use Rattle.walk_rules.specs.Clearing.{clears_by, side_of_exchange, swapping}
use Rattle.walk_rules.specs.Scene.{is_on}
use Rattle.walk_rules.specs.Stages.{forget}
use Rattle.walk_rules.specs.Standing.{is_leaving}
use Rattle.core_world.specs.Covered.{IsTakenCareOf, LeadsTo, further, takes_out_by, there}
use Rattle.core_world.specs.Lawful.{IsLawful}
use Rattle.core_world.specs.World.{World, cpu_of, group_of, scene_of}
use Rattle.core_facts.specs.Cover.Rest.{LeadsDown}
use Rattle.core_facts.proofs.Cover.Chains.{Rises, rises_short}
use Rattle.core_facts.proofs.Cover.Links.{child_there, parent_within}

-- The migrators of a group lead to a child that isn't active, and is taken care of
pub record IsLeft (w : World) (x : ℕ) : Type 0 where
  pub child : Child
  pub leads : LeadsTo w child x
  pub off : is_on (scene_of w) child ≡ false
  pub cared : IsTakenCareOf w child

-- or to an active CPU
abbrev pub Ends : World → ℕ → Type 0
Ends w x = LeadsDown w x ⊎ IsLeft w x

pub some_of : (m : Option ℕ) → is_some m ≡ true → (k : ℕ) × (m ≡ Some k)
some_of None e = absurd (cc)
some_of (Some k) e = (k, refl)

-- what a walk will clear it takes out, whatever it has read
swapped : (b : Bool) (m : Option Child) (z : Child) → (if b then None else m) ≡ Some z → m ≡ Some z
swapped true m z e = absurd (none-some z e)
swapped false m z e = e

at_side : (t : Shape) (c level : ℕ) (child_on fresh over : Bool) (side : Option Side) (z : Child) →
    clears_at t c level child_on fresh over side ≡ Some z →
    clears_at t c level false false over side ≡ Some z
at_side t c level child_on fresh over None z e = e
at_side t c level child_on fresh over (Some before) z e = e
at_side t c level child_on fresh over (Some swapping) z e =
    swapped (child_on && fresh) (child_towards t c level) z e
at_side t c level child_on fresh over (Some after) z e = e

where_so : (b : Bool) (m n : Option Child) (z : Child) → (m ≡ Some z → n ≡ Some z) →
    (if b then m else None) ≡ Some z → (if b then n else None) ≡ Some z
where_so true m n z same e = same e
where_so false m n z same e = e

takes_out : (w : World) (c : ℕ) (fresh : Bool) (m : Option Walk) (z : Child) →
    clears_by w.tree c fresh (option_map forget m) ≡ Some z → takes_out_by w c m ≡ Some z
takes_out w c fresh None z e = e
takes_out w c fresh (Some k) z e =
    where_so (is_leaving k.kind)
    (clears_at w.tree c k.level k.child_on fresh k.over (side_of_exchange k.stage))
    (clears_at w.tree c k.level false false k.over (side_of_exchange k.stage)) z
    (at_side w.tree c k.level k.child_on fresh k.over (side_of_exchange k.stage) z) e

under : (w : World) (z : Child) → StandsUnder w.tree (scene_of w) z → IsTakenCareOf w z
under w (sorts.Cpu c) stands = absurd stands
under w (sorts.Group x) stands = inr (x.0, refl, stands)

pub taken_care_of : (w : World) (z : Child) → IsSeenTo w.tree (scene_of w) z → IsTakenCareOf w z
taken_care_of w z (inl (d, e)) = inl (d, takes_out w d ((scene_of w).fresh d) (cpu_of w d).walk z e)
taken_care_of w z (inr stands) = under w z stands

module _ (w : World) (l : IsLawful w) where
  -- an active group has its migrator
  migrator_active : (x k : ℕ) → (group_of w x).migrator ≡ Some k → IsActive (group_of w x).active k
  migrator_active x k is = subst (GroupLaw (group_of w x).active) is (l.groups.law x)

  active_within : (x k : ℕ) → (group_of w x).migrator ≡ Some k → x < group_count_of w.tree
  active_within x k is =
      let p = l.groups.children x k (migrator_active x k is) in
      parent_within w.tree p.0 x p.1

  -- by the child that is migrator
  module _ (x k : ℕ) (is : (group_of w x).migrator ≡ Some k)
      (deeper : (y j : ℕ) → parent_of w.tree (of_group y) ≡ Some x →
      (group_of w y).migrator ≡ Some j → Ends w y) where
    at_child : (z : Child) → parent_of w.tree z ≡ Some x → bit_of w.tree z ≡ k →
        child_at w.tree x k ≡ Some z
    at_child z parent bit = ap (child_at w.tree x) (sym bit) ∙ child_there w.tree z x parent

    further_on : (y : ℕ) → parent_of w.tree (of_group y) ≡ Some x →
        child_at w.tree x k ≡ Some (of_group y) → Ends w y → Ends w x
    unfolding group_at_of
    further_on y parent at (inl run) = inl (record {
      runner = run.runner;
      below = (
        suc run.below.0,
        ap (option_and_then (λ v. parent_of w.tree (of_group v))) run.below.1 ∙ parent,
      );
      leads = to_group x k y is at run.leads;
    })
    further_on y parent at (inr left) = inr (record {
      child = left.child;
      leads = further x k y is at left.leads;
      off = left.off;
      cared = left.cared;
    })

    by_child : (z : Child) (on : Bool) → is_on (scene_of w) z ≡ on → parent_of w.tree z ≡ Some x →
        bit_of w.tree z ≡ k → Ends w x
    unfolding group_at_of
    by_child z false off parent bit = inr (record {
      child = z;
      leads = there x k is (at_child z parent bit);
      off = off;
      cared = taken_care_of w z (l.bits z x parent off
          (subst (IsActive (group_of w x).active) (sym bit) (migrator_active x k is)));
    })
    by_child (sorts.Cpu d) true on parent bit = inl (record {
      runner = d.0;
      below = (0, parent);
      leads = to_cpu x k is (at_child (sorts.Cpu d) parent bit) on;
    })
    by_child (sorts.Group y) true on parent bit =
        let j = some_of (group_of w y.0).migrator on in
        further_on y.0 parent (at_child (sorts.Group y) parent bit) (deeper y.0 j.0 parent j.1)

    next : Ends w x
    next =
        let p = l.groups.children x k (migrator_active x k is) in
        by_child p.0 (is_on (scene_of w) p.0) refl p.1 p.2

  -- below a group of a path
  module _ (c level g : ℕ) (here : group_at_of w.tree c level ≡ Some g) where
    lead : (fuel n x k : ℕ) → group_count_of w.tree ≤ fuel + n → Rises w.tree n x g →
        (group_of w x).migrator ≡ Some k → Ends w x
    lead zero n x k room rises is = let short =
        rises_short w.tree l.hierarchy c level g here n x rises in
        absurd (omega (arith, room, short))
    lead (suc fuel) n x k room rises is = next x k is
        (λ y j parent on. lead fuel (suc n) y j (omega (arith, room))
        (active_within y j on, (x, parent, rises)) on)

    pub leads : (k : ℕ) → (group_of w g).migrator ≡ Some k → Ends w g
    leads k is = lead (group_count_of w.tree) 0 g k (omega arith) (refl, active_within g k is) is

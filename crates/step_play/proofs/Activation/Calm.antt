-- for crates above: a world in which no walk goes on: locks are free, bits are those of active
-- children, and a group is active exactly where an active CPU is below it
use Rattle.std.proofs.Common.{◌≡◌, inl, inr, ℕ, zero, suc, cond, Bool, true, false, true≢false}
use Rattle.std.proofs.Common.{Option, Some, None, refl, sym, ap, ◌∙◌, subst}
use Rattle.std.specs.Prelude.{◌↔◌, is_some, option_and_then, option_map}
use Rattle.std.specs.Int.{bit_at}
use Rattle.std.proofs.lemmas.Bool.{cases_Bool, cases_eq}
use Rattle.std.proofs.lemmas.Option.{none-some}
use Rattle.group_word.specs.Group.{GroupLaw, IsActive}
use Rattle.tm_base.specs.declared.names.Child.{Child}
use Rattle.tm_base.specs.Children.{of_cpu, of_group}
use Rattle.tree_plan.specs.Paths.{IsBelow, bit_of, child_towards, group_at_of, parent_of}
use Rattle.coverage.specs.Coverage.{Leads, to_cpu, to_group}
use Rattle.walk_rules.specs.declared.walk.Walk.{Walk}
use Rattle.walk_rules.specs.declared.walk.Stage.{Stage}
use Rattle.walk_rules.specs.declared.walk.Stage.TheVariants as stages
use Rattle.walk_rules.specs.Clearing.{IsSeenTo, clears_at, side_of_exchange}
use Rattle.walk_rules.specs.Edges.{StandsAt, StandsBelow, edge_level, edge_of}
use Rattle.walk_rules.specs.Locks.{HoldsBy, child_lock, group_lock}
use Rattle.walk_rules.specs.Scene.{HasBit, is_on}
use Rattle.walk_rules.specs.Stages.{forget}
use Rattle.walk_rules.specs.Standing.{FlagsAt, is_leaving}
use Rattle.core_world.specs.Covered.{IsTakenCareOf, machine_of, takes_out_by}
use Rattle.core_world.specs.Lawful.{IsLawful}
use Rattle.core_world.specs.World.{World, cpu_of, group_of, is_active, scene_of}
use Rattle.core_facts.specs.Cover.Rest.{HasActive, LeadsDown}
use Rattle.core_facts.proofs.Cover.Climbing.{parent_next}
use Rattle.core_facts.proofs.Cover.Leading.{leads, some_of, taken_care_of}
use Rattle.step_play.specs.Rules.Alone.{goes_on, is_handing}
use Rattle.step_play.specs.Rules.Seen.{InRun, Phase, WalkFits}

handing_is : (st : Stage) → is_handing st ≡ true → st ≡ stages.Handing
handing_is stages.Handing e = refl
handing_is stages.Own e = cc
handing_is stages.Up e = cc
handing_is (stages.Mark more) e = cc
handing_is stages.Read e = cc
handing_is stages.Child e = cc
handing_is stages.Swap e = cc
handing_is stages.LockChild e = cc
handing_is stages.LockGroup e = cc
handing_is stages.SeeChild e = cc
handing_is stages.SeeGroup e = cc
handing_is (stages.Scan k) e = cc
handing_is stages.Store e = cc
handing_is (stages.First k) e = cc
handing_is stages.FreeGroup e = cc
handing_is stages.FreeChild e = cc
handing_is stages.Finish e = cc

stops : (b : Bool) → cond b false true ≡ false → b ≡ true
stops true e = refl
stops false e = absurd (true≢false e)

-- a walk that doesn't go on is at Handing
pub handing : (k : Walk) → goes_on (Some k) ≡ false → k.stage ≡ stages.Handing
handing k e = handing_is k.stage (stops (is_handing k.stage) e)

still : (ph : Phase) (c : ℕ) (m : Option Walk) → WalkFits ph c m → goes_on m ≡ false
still ph c None fits = refl
still ph c (Some k) fits = ap (λ st. cond (is_handing st) false true) fits.1

-- no walk goes on
abbrev pub IsCalm : World → Type 0
IsCalm w = (d : ℕ) → goes_on (cpu_of w d).walk ≡ false

pub run_calm : (ph : Phase) (w : World) → InRun ph w → IsCalm w
run_calm ph w i d = still ph d (cpu_of w d).walk (i.walks d)

no_edge : (m : Option Walk) → goes_on m ≡ false → edge_of (option_map forget m) ≡ None
no_edge None e = refl
no_edge (Some k) e = ap (edge_level k.level) (handing k e)

holds_none : (w : World) (c g : ℕ) (m : Option Walk) → goes_on m ≡ false →
    HoldsBy w.tree c (option_map forget m) g → ⊥
holds_none w c g None e h = h
holds_none w c g (Some k) e (inl at) =
    none-some g (sym (ap (group_lock w.tree c k.level) (handing k e)) ∙ at)
holds_none w c g (Some k) e (inr at) =
    none-some g (sym (ap (child_lock w.tree c k.level) (handing k e)) ∙ at)

-- a group with an active child is active
active_by : (active : ℕ) (m : Option ℕ) (k : ℕ) → GroupLaw active m → IsActive active k →
    is_some m ≡ true
active_by active None k law set = absurd (law k set)
active_by active (Some m) k law set = refl

-- migrators lead to a CPU that is active
runs : (w : World) (m g : ℕ) → Leads (machine_of w) m g → is_active (cpu_of w m) ≡ true
runs w m g (to_cpu x k is at on) = on
runs w m g (to_group x k h is at rest) = runs w m h rest

over_none : (over : Bool) (m : Option Child) → over ≡ true → cond over None m ≡ None
over_none true m e = refl
over_none false m e = absurd (true≢false (sym e))

either_none : (b : Bool) → (m : Option Child) → m ≡ None → cond b m None ≡ None
either_none true m e = e
either_none false m e = refl

module _ (w : World) (l : IsLawful w) (calm : IsCalm w) where
  pub free : (g : ℕ) → (group_of w g).lock ≡ None
  free g = by_lock (group_of w g).lock refl
    where
      by_lock : (m : Option ℕ) → (group_of w g).lock ≡ m → (group_of w g).lock ≡ None
      by_lock None e = e
      by_lock (Some c) e = absurd (holds_none w c g (cpu_of w c).walk (calm c) (l.locks.held g c e))

  -- no activation is under way
  pub none_at : (z : Child) → StandsAt w.tree (scene_of w) z → ⊥
  none_at z (d, e) = none-some z (sym (ap (option_and_then (child_towards w.tree d))
      (no_edge (cpu_of w d).walk (calm d))) ∙ e)

  pub none_below : (x : ℕ) → StandsBelow w.tree (scene_of w) x → ⊥
  none_below x (d, e) = none-some x (sym (ap (option_and_then (group_at_of w.tree d))
      (no_edge (cpu_of w d).walk (calm d))) ∙ e)

  -- a walk at Handing has taken out all that it had to
  handing_over : (d : ℕ) (k : Walk) → (cpu_of w d).walk ≡ Some k → k.stage ≡ stages.Handing →
      k.over ≡ true
  handing_over d k is at = by_group (group_at_of w.tree d 0) refl
    where
      forgotten : (scene_of w).walk d ≡ Some (forget k)
      forgotten = ap (option_map forget) is

      by_group : (m : Option ℕ) → group_at_of w.tree d 0 ≡ m → k.over ≡ true
      by_group (Some g) e = subst (FlagsAt _ k.on k.over) at (l.flags d (forget k) forgotten (g, e))
      by_group None e = let alone = l.placed.alone d (forget k) forgotten
          (λ h. none-some h.0 (sym e ∙ h.1)) in
          let no : stages.Handing ≡ stages.Finish = sym at ∙ alone.finishing in cc

  takes_none : (d : ℕ) (m : Option Walk) → (cpu_of w d).walk ≡ m → goes_on m ≡ false →
      takes_out_by w d m ≡ None
  takes_none d None is e = refl
  takes_none d (Some k) is e =
      let at = handing k e in
      either_none (is_leaving k.kind)
      (clears_at w.tree d k.level false false k.over (side_of_exchange k.stage))
      (ap (λ st. clears_at w.tree d k.level false false k.over (side_of_exchange st)) at
      ∙ over_none k.over (option_map of_group (group_at_of w.tree d k.level))
      (handing_over d k is at))

  pub none_cares : (z : Child) → IsTakenCareOf w z → ⊥
  none_cares z (inl (d, e)) =
      none-some z (sym (takes_none d (cpu_of w d).walk refl (calm d)) ∙ e)
  none_cares z (inr (x, is, stands)) = none_below x stands

  pub none_sees_to : (z : Child) → IsSeenTo w.tree (scene_of w) z → ⊥
  none_sees_to z seen = none_cares z (taken_care_of w z seen)

  -- A BIT is set exactly where its child is active
  pub set_on : (m : Child) (g : ℕ) → parent_of w.tree m ≡ Some g →
      HasBit w.tree (scene_of w) m g → is_on (scene_of w) m ≡ true
  set_on m g parent set = elim (cases_Bool (is_on (scene_of w) m)) [
    | inl on ↦ on
    | inr off ↦ absurd (none_sees_to m (l.bits m g parent off set))
  ]

  pub on_set : (m : Child) (g : ℕ) → parent_of w.tree m ≡ Some g → is_on (scene_of w) m ≡ true →
      HasBit w.tree (scene_of w) m g
  on_set m g parent on = elim (cases_eq (bit_at (group_of w g).active (bit_of w.tree m)) 1) [
    | inl set ↦ set
    | inr unset ↦ absurd (none_at m (l.edges.needs m g parent on unset))
  ]

  -- what has an active child is active, and so on to the top
  pub above : (m : Child) (g : ℕ) → parent_of w.tree m ≡ Some g → is_on (scene_of w) m ≡ true →
      is_on (scene_of w) (of_group g) ≡ true
  above m g parent on = active_by (group_of w g).active (group_of w g).migrator (bit_of w.tree m)
      (l.groups.law g) (on_set m g parent on)

  pub all_above : (d level g : ℕ) → is_active (cpu_of w d) ≡ true →
      group_at_of w.tree d level ≡ Some g → is_on (scene_of w) (of_group g) ≡ true
  unfolding group_at_of
  all_above d zero g on here = above (of_cpu d) g here on
  all_above d (suc level) g on here =
      let x = l.hierarchy.lower d level g here in
      above (of_group x.0) g (parent_next w.tree d level x.0 g x.1 here)
      (all_above d level x.0 on x.1)

  down : (c g : ℕ) → IsBelow w.tree c g → is_on (scene_of w) (of_group g) ≡ true → LeadsDown w g
  down c g (level, here) on = let k = some_of (group_of w g).migrator on in
      elim (leads w l c level g here k.0 k.1) [
        | inl run ↦ run
        | inr left ↦ absurd (none_cares left.child left.cared)
      ]

  -- A GROUP of a path is active exactly where an active CPU is below it
  pub active_below : (c g : ℕ) → IsBelow w.tree c g →
      (is_on (scene_of w) (of_group g) ≡ true) ↔ HasActive w g
  active_below c g below = (
    λ on. (let run = down c g below on in
        (run.runner, run.below, runs w run.runner g run.leads)),
    λ (d, (level, here), on). all_above d level g on here,
  )

-- a step of the general form that leaves active sets and migrators keeps the layer
use Rattle.std.proofs.Common.{◌≡◌, ◌≢◌, ◌⊎◌, inl, inr, ℕ, zero, suc, ◌<◌, ◌≤◌, Bool, false, true≢false, length, Option, Some, None, refl, sym, ap, ◌∙◌, subst, arith}
use Rattle.std.specs.Prelude.{◌&&◌, not, option_map, option_and_then}
use Rattle.std.proofs.lemmas.Bool.{cases_eq}
use Rattle.std.proofs.lemmas.Option.{none-some, same_Some}
use Rattle.tm_base.specs.declared.names.Child.{Child}
use Rattle.tree_plan.specs.Shape.{Shape}
use Rattle.tm_base.specs.Children.{of_cpu}
use Rattle.tree_plan.specs.Paths.{child_towards}
use Rattle.walk_rules.specs.declared.walk.Walk.{Walk}
use Rattle.walk_rules.specs.declared.walk.WalkKind.TheVariants as kinds
use Rattle.walk_rules.specs.Edges.{IsSure, StandsAt, edge_of, passed_of, stand}
use Rattle.walk_rules.specs.Scene.{Group, Scene, is_on}
use Rattle.walk_rules.specs.Stages.{forget}
use Rattle.core_world.specs.World.{CpuRecord, World, cpu_of, group_of, is_active, moved, scene_of}
use Rattle.core_world.proofs.Moves.{moved_laws}
use Rattle.core_laws.specs.Walks.Fit.{WalksFit}
use Rattle.core_laws.specs.Edges.Layer.{EdgesFit}
use Rattle.core_laws.proofs.Edges.Calm.{calm_fit}
use Rattle.core_laws.proofs.Edges.Facts.{edge_walk, passed_walk}
use Rattle.core_laws.proofs.Edges.Stages.{is_swap}

-- a walk that is no activation stands at no edge and has passed none
module _ (t : Shape) (s : Scene) (walks : WalksFit t s) (c : ℕ) (tells : (k : Walk) → s.walk c ≡ Some k → k.kind ≡ kinds.Activate → ⊥) where
  some_or : (m : Option ℕ) → ((n : ℕ) → m ≡ Some n → ⊥) → m ≡ None
  some_or None refuse = refl
  some_or (Some n) refuse = absurd (refuse n refl)

  pub no_edge : edge_of (s.walk c) ≡ None
  no_edge = some_or (edge_of (s.walk c)) (λ n e. let p = edge_walk t s walks c n e in tells p.0 p.1 p.2)

  pub none_passed : passed_of (s.walk c) ≡ 0
  none_passed = below (passed_of (s.walk c)) (λ h. let p = passed_walk t s walks c 0 h in tells p.0 p.1 p.2)
    where
      below : (n : ℕ) → (0 < n → ⊥) → n ≡ 0
      below zero refuse = refl
      below (suc n) refuse = absurd (refuse (omega arith))

-- CALM: a step of the general form that leaves active sets and migrators, and whose CPU stays active or not
module _ (w : World) (g : ℕ) (x : Group) (c : ℕ) (y : CpuRecord) (r : Bool) (hc : c < length w.cpus) (f : EdgesFit w.tree (scene_of w))
    (active : (h : ℕ) → (group_of (moved w g x c y r) h).active ≡ (group_of w h).active)
    (migrator : (h : ℕ) → (group_of (moved w g x c y r) h).migrator ≡ (group_of w h).migrator)
    (on : is_active y ≡ is_active (cpu_of w c)) where
  at_c : cpu_of (moved w g x c y r) c ≡ y
  at_c = (moved_laws w g x c y r).cpu hc

  walk_c : (scene_of (moved w g x c y r)).walk c ≡ option_map forget y.walk
  walk_c = ap (λ (z : CpuRecord). option_map forget z.walk) at_c

  sure_else : (d : ℕ) (k : Walk) (m : Child) → d ≢ c → IsSure w.tree (scene_of (moved w g x c y r)) d k m → (is_on (scene_of w) m ≡ false) ⊎ StandsAt w.tree (scene_of w) m
  sure_else d k m ne s =
      let ch = (moved_laws w g x c y r).changes in
      f.reads d k m (record { walk = sym (ch.walk d ne) ∙ s.walk; swapping = s.swapping; fresh = ch.fresh d ne s.fresh; saw_off = s.saw_off; child = s.child })

  module _ (edge : edge_of (option_map forget y.walk) ≡ edge_of ((scene_of w).walk c)) (passed : passed_of (option_map forget y.walk) ≤ passed_of ((scene_of w).walk c))
      (activates : (k : Walk) → option_map forget y.walk ≡ Some k → k.kind ≡ kinds.Activate → (j : Walk) × ((scene_of w).walk c ≡ Some j) × (j.kind ≡ kinds.Activate))
      (sure : (k : Walk) (m : Child) → option_map forget y.walk ≡ Some k → IsSure w.tree (scene_of (moved w g x c y r)) c k m → (is_on (scene_of w) m ≡ false) ⊎ StandsAt w.tree (scene_of w) m) where
    stand_at : (d : ℕ) → stand w.tree (scene_of (moved w g x c y r)) d ≡ stand w.tree (scene_of w) d
    stand_at d = elim (cases_eq d c) [
      | inl same ↦ subst (λ n. stand w.tree (scene_of (moved w g x c y r)) n ≡ stand w.tree (scene_of w) n) (sym same)
          (ap (option_and_then (child_towards w.tree c)) (ap edge_of walk_c ∙ edge))
      | inr ne ↦ ap (λ m. option_and_then (child_towards w.tree d) (edge_of m)) ((moved_laws w g x c y r).changes.walk d ne)
    ]

    passed_at : (d : ℕ) → passed_of ((scene_of (moved w g x c y r)).walk d) ≤ passed_of ((scene_of w).walk d)
    passed_at d = elim (cases_eq d c) [
      | inl same ↦ subst (λ n. passed_of ((scene_of (moved w g x c y r)).walk n) ≤ passed_of ((scene_of w).walk n)) (sym same)
          (subst (λ m. passed_of m ≤ passed_of ((scene_of w).walk c)) (sym walk_c) passed)
      | inr ne ↦ let e = ap passed_of ((moved_laws w g x c y r).changes.walk d ne) in omega (arith, e)
    ]

    cpu_at : (d : ℕ) → is_on (scene_of (moved w g x c y r)) (of_cpu d) ≡ is_on (scene_of w) (of_cpu d)
    cpu_at d = elim (cases_eq d c) [
      | inl same ↦ subst (λ n. is_on (scene_of (moved w g x c y r)) (of_cpu n) ≡ is_on (scene_of w) (of_cpu n)) (sym same) (ap is_active at_c ∙ on)
      | inr ne ↦ (λ i. (moved_laws w g x c y r).changes.online d ne i && not ((moved_laws w g x c y r).changes.idle d ne i))
    ]

    pub calm_kept : EdgesFit w.tree (scene_of (moved w g x c y r))
    calm_kept = calm_fit w.tree (scene_of w) (scene_of (moved w g x c y r)) (record {
      active = active;
      migrator = migrator;
      cpus = cpu_at;
      stand = stand_at;
      passed = passed_at;
      activates = λ d k is kind. elim (cases_eq d c) [
        | inl same ↦
            let j = activates k (sym walk_c ∙ subst (λ n. (scene_of (moved w g x c y r)).walk n ≡ Some k) same is) kind in
            subst (λ n. (j : Walk) × ((scene_of w).walk n ≡ Some j) × (j.kind ≡ kinds.Activate)) (sym same) j
        | inr ne ↦ (k, sym ((moved_laws w g x c y r).changes.walk d ne) ∙ is, kind)
      ];
      sure = λ d k m s. elim (cases_eq d c) [
        | inl same ↦
            let own = subst (λ n. IsSure w.tree (scene_of (moved w g x c y r)) n k m) same s in
            sure k m (sym walk_c ∙ own.walk) own
        | inr ne ↦ sure_else d k m ne s
      ];
    }) f

  -- of a walk that was no activation and is none
  module _ (old_walks : WalksFit w.tree (scene_of w)) (new_walks : WalksFit w.tree (scene_of (moved w g x c y r)))
      (old_tells : (k : Walk) → (scene_of w).walk c ≡ Some k → k.kind ≡ kinds.Activate → ⊥)
      (new_tells : (k : Walk) → y.walk ≡ Some k → k.kind ≡ kinds.Activate → ⊥) where
    forgot : (m : Option Walk) (k : Walk) → option_map forget m ≡ Some k → (j : Walk) × (m ≡ Some j) × (forget j ≡ k)
    forgot None k e = absurd (none-some k e)
    forgot (Some j) k e = (j, refl, same_Some _ _ e)

    new_tells_too : (k : Walk) → option_map forget y.walk ≡ Some k → k.kind ≡ kinds.Activate → ⊥
    new_tells_too k is kind = let j = forgot y.walk k is in new_tells j.0 j.1 (ap (λ (z : Walk). z.kind) j.2 ∙ kind)

    new_none : (k : Walk) → (scene_of (moved w g x c y r)).walk c ≡ Some k → k.kind ≡ kinds.Activate → ⊥
    new_none k is kind = new_tells_too k (sym walk_c ∙ is) kind

    pub told_kept : ((k : Walk) (m : Child) → option_map forget y.walk ≡ Some k → IsSure w.tree (scene_of (moved w g x c y r)) c k m → (is_on (scene_of w) m ≡ false) ⊎ StandsAt w.tree (scene_of w) m)
        → EdgesFit w.tree (scene_of (moved w g x c y r))
    told_kept sure = calm_kept
        (sym (ap edge_of walk_c) ∙ (no_edge w.tree (scene_of (moved w g x c y r)) new_walks c new_none ∙ sym (no_edge w.tree (scene_of w) old_walks c old_tells)))
        (let e = ap passed_of walk_c in
        let n = none_passed w.tree (scene_of (moved w g x c y r)) new_walks c new_none in omega (arith, e, n))
        (λ k is kind. absurd (new_tells_too k is kind)) sure

    -- and that doesn't come to Swap
    pub quiet_kept : ((k : Walk) → y.walk ≡ Some k → is_swap k.stage ≡ false) → EdgesFit w.tree (scene_of (moved w g x c y r))
    quiet_kept other = told_kept (λ k m is s.
        let j = forgot y.walk k is in
        absurd (true≢false (sym (ap is_swap (ap (λ (z : Walk). z.stage) j.2 ∙ s.swapping)) ∙ other j.0 j.1)))

-- where a walk stands that is made alone: at a group of its path, with free locks beside its own
use Rattle.std.proofs.Common.{◌≡◌, ◌⊎◌, inl, inr, ℕ, zero, suc, ◌-◌, true, false, true≢false}
use Rattle.std.proofs.Common.{Option, Some, None, length, refl, sym, ap, ◌∙◌, subst, arith}
use Rattle.std.specs.Prelude.{is_some, option_map, unwrap_or}
use Rattle.std.proofs.lemmas.Bool.{cases_eq}
use Rattle.std.proofs.lemmas.Option.{none-some}
use Rattle.tree_plan.specs.Paths.{group_at_of}
use Rattle.walk_rules.specs.declared.walk.Walk.{Walk}
use Rattle.walk_rules.specs.declared.walk.Stage.{Stage}
use Rattle.walk_rules.specs.declared.walk.Stage.TheVariants as stages
use Rattle.walk_rules.specs.Hierarchy.{group_on}
use Rattle.walk_rules.specs.Locks.{HoldsBy, child_lock, group_lock}
use Rattle.walk_rules.specs.Queues.{group_under}
use Rattle.walk_rules.specs.Scene.{Group}
use Rattle.walk_rules.specs.Stages.{forget}
use Rattle.walk_rules.specs.Standing.{FitsStage}
use Rattle.core_world.specs.Steps.{child_here, child_on, here}
use Rattle.core_world.specs.World.{World, group_of, scene_of}
use Rattle.core_facts.specs.core_laws.Walks.Fit.{WalksFit}
use Rattle.core_facts.proofs.core_laws.Walks.Stands.{stage_fits, stands_in}
use Rattle.step_play.proofs.Telling.Telling.{Sees, Tells, is_under_way}
use Rattle.step_play.proofs.Telling.Staying.{stepping, below_at, migrator_same, walk_is}

module _ {old w : World} {c : ℕ} {made k : Walk} (t : Tells old c made w k) where
  fit : WalksFit w.tree (scene_of w)
  fit = record {
    placed = t.frame.lawful.placed;
    flags = t.frame.lawful.flags;
    walkers = t.frame.lawful.walkers;
  }

  pub seen : (scene_of w).walk c ≡ Some (forget k)
  seen = ap (option_map forget) (walk_is t)

  unfinished : (st : Stage) → k.stage ≡ st → is_under_way st ≡ true → k.stage ≡ stages.Finish → ⊥
  unfinished st at on done = true≢false (sym on ∙ (sym (ap is_under_way at) ∙ ap is_under_way done))

  pub there : (st : Stage) → k.stage ≡ st → is_under_way st ≡ true →
      group_at_of w.tree c k.level ≡ Some (here w c k)
  there st at on =
      let g = stands_in w.tree (scene_of w) fit c (forget k) seen (unfinished st at on) in
      g.1 ∙ ap Some (sym (ap (λ m. unwrap_or m 0) g.1))

  pub fits : (st : Stage) → k.stage ≡ st → is_under_way st ≡ true →
      FitsStage w.tree c k.kind k.level st
  fits st at on = elim (stage_fits w.tree (scene_of w) fit c (forget k) seen) [
    | inl f ↦ subst (FitsStage w.tree c k.kind k.level) at f
    | inr done ↦ absurd (unfinished st at on done)
  ]

  -- the group below it on its path
  pub under : (l : ℕ) → k.level ≡ suc l → group_at_of w.tree c k.level ≡ Some (here w c k) →
      group_at_of w.tree c l ≡ Some (group_on w.tree c l)
  under l e at =
      let g = t.frame.lawful.hierarchy.lower c l (here w c k)
      (ap (group_at_of w.tree c) (sym e) ∙ at) in
      g.1 ∙ ap Some (sym (ap (λ m. unwrap_or m 0) g.1))

  pub child_is : (l : ℕ) → k.level ≡ suc l → child_here w c k ≡ group_on w.tree c l
  child_is l e = let low : k.level - 1 ≡ l = omega (arith, e) in ap (group_on w.tree c) low

  pub eight : (l g : ℕ) → group_at_of w.tree c l ≡ Some g → length (group_of w g).events ≡ 8
  eight l g at =
      let low = t.frame.lawful.hierarchy.within c l g at in
      t.frame.lawful.sized.slots g (omega (arith, low, t.frame.lawful.sized.groups))

  -- the child of its level is inactive
  pub child_off : (st : Stage) → k.stage ≡ st → is_under_way st ≡ true →
      child_on w c k.level ≡ false
  child_off st at on = by_level k.level refl
    where
      by_level : (n : ℕ) → k.level ≡ n → child_on w c n ≡ false
      by_level zero e = refl
      by_level (suc l) e = ap is_some (below_at t st at on l e)

  -- a lock that it doesn't hold is free
  pub lock_free : (st : Stage) → k.stage ≡ st → (g : ℕ) →
      ((group_lock w.tree c k.level st ≡ Some g) ⊎ (child_lock w.tree c k.level st ≡ Some g) → ⊥) →
      (group_of w g).lock ≡ None
  lock_free st at g other = by_lock (group_of w g).lock refl
    where
      by_cpu : (d : ℕ) → HoldsBy w.tree d ((scene_of w).walk d) g → ⊥
      by_cpu d held = elim (cases_eq d c) [
        | inl same ↦
            let own : HoldsBy w.tree c (Some (forget k)) g =
            subst (λ m. HoldsBy w.tree c m g) seen
            (subst (λ n. HoldsBy w.tree n ((scene_of w).walk n) g) same held) in
            other (subst (λ s. (group_lock w.tree c k.level s ≡ Some g) ⊎
            (child_lock w.tree c k.level s ≡ Some g)) at own)
        | inr ne ↦ subst (λ m. HoldsBy w.tree d m g)
            (ap (option_map forget) (t.frame.free d ne)) held
      ]

      by_lock : (m : Option ℕ) → (group_of w g).lock ≡ m → (group_of w g).lock ≡ None
      by_lock None e = e
      by_lock (Some d) e = absurd (by_cpu d (t.frame.lawful.locks.held g d e))

  pub child_free : k.stage ≡ stages.LockChild → (group_of w (child_here w c k)).lock ≡ None
  child_free at = lock_free stages.LockChild at (child_here w c k)
      (λ h. elim h [ inl e ↦ none-some _ e | inr e ↦ none-some _ e ])

  pub group_free : k.stage ≡ stages.LockGroup → (group_of w (here w c k)).lock ≡ None
  group_free at = lock_free stages.LockGroup at (here w c k)
      (λ h. elim h [ inl e ↦ none-some _ e | inr e ↦ apart k.level refl e ])
    where
      apart : (n : ℕ) → k.level ≡ n → group_under w.tree c n ≡ Some (here w c k) → ⊥
      apart zero e held = none-some _ held
      apart (suc l) e held =
          let same = t.frame.lawful.hierarchy.one_level c c l k.level (here w c k) held
          (there stages.LockGroup at refl) in
          omega (arith, same, e)

-- what the walk saw of its group stays
pub sees_on : (w : World) (c : ℕ) (k : Walk) (g : ℕ) (x : Group) (j : Walk) →
    x.migrator ≡ (group_of w g).migrator → Sees w c k →
    k.on ≡ is_some (group_of (stepping w c g x j false) (here w c k)).migrator
sees_on w c k g x j same s =
    s.on ∙ ap is_some (sym (migrator_same w c g x j false same (here w c k)))

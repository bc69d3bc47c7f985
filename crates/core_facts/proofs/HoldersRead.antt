-- who holds a group's lock, stage by stage
use Rattle.std.proofs.Common.{◌≡◌, ◌⊎◌, ℕ, Option, Some, None, refl, sym, ap, ◌∙◌, inl, inr, subst}
use Rattle.std.proofs.lemmas.Option.{none-some}
use Rattle.std.specs.Prelude.{option_map}
use Rattle.tree_plan.specs.Shape.{Shape}
use Rattle.tree_plan.specs.Paths.{group_at_of}
use Rattle.walk_rules.specs.declared.walk.Walk.{Walk}
use Rattle.walk_rules.specs.declared.walk.WalkKind.{WalkKind}
use Rattle.walk_rules.specs.declared.walk.Stage.{Stage}
use Rattle.walk_rules.specs.declared.walk.Stage.TheVariants as stages
use Rattle.walk_rules.specs.Locks.{HoldsBy, child_lock, group_lock}
use Rattle.walk_rules.specs.Queues.{group_under}
use Rattle.walk_rules.specs.Stages.{forget}
use Rattle.walk_rules.specs.Standing.{FitsStage, Tells}
use Rattle.core_laws.proofs.Walks.Stands.{stage_fits}
use Rattle.core_world.specs.Lawful.{IsLawful}
use Rattle.core_world.specs.World.{World, cpu_of, group_of, scene_of}
use Rattle.core_facts.specs.Holders.{EachLockIsHeld, MakesTelling}
use Rattle.core_facts.proofs.Scenes.{in_scene, walks_fit}

-- a scene's walk holds what the world's does
to_world : (t : Shape) (c g : ℕ) (m : Option Walk) → HoldsBy t c (option_map forget m) g
    → HoldsBy t c m g
to_world t c g None h = h
to_world t c g (Some k) h = h

to_scene : (t : Shape) (c g : ℕ) (m : Option Walk) → HoldsBy t c m g
    → HoldsBy t c (option_map forget m) g
to_scene t c g None h = h
to_scene t c g (Some k) h = h

neither : {A : Type 0} (g : ℕ) → (None ≡ Some g) ⊎ (None ≡ Some g) → A
neither g (inl e) = absurd (none-some g e)
neither g (inr e) = absurd (none-some g e)

-- who holds a lock at a stage tells
holder_tells : (t : Shape) (c g level : ℕ) (kind : WalkKind) (stage : Stage)
    → FitsStage t c kind level stage
    → (group_lock t c level stage ≡ Some g) ⊎ (child_lock t c level stage ≡ Some g) → Tells kind
holder_tells t c g level kind stages.Own fits h = neither g h
holder_tells t c g level kind stages.Up fits h = neither g h
holder_tells t c g level kind (stages.Mark more) fits h = neither g h
holder_tells t c g level kind stages.Read fits h = neither g h
holder_tells t c g level kind stages.Child fits h = neither g h
holder_tells t c g level kind stages.Swap fits h = neither g h
holder_tells t c g level kind stages.LockChild fits h = neither g h
holder_tells t c g level kind stages.LockGroup fits h = fits
holder_tells t c g level kind stages.SeeChild fits h = fits.0
holder_tells t c g level kind stages.SeeGroup fits h = fits
holder_tells t c g level kind (stages.Scan k) fits h = fits.0
holder_tells t c g level kind stages.Store fits h = fits
holder_tells t c g level kind (stages.First k) fits h = fits.0
holder_tells t c g level kind stages.FreeGroup fits h = fits
holder_tells t c g level kind stages.FreeChild fits h = fits.0
holder_tells t c g level kind stages.Finish fits h = fits
holder_tells t c g level kind stages.Handing fits h = neither g h

abbrev Holds : Shape → (c g level : ℕ) → Stage → Type 0
Holds t c g level stage =
    (group_lock t c level stage ≡ Some g) ⊎ (child_lock t c level stage ≡ Some g)

-- at Finish and at Handing none is held
none_at_finish : {A : Type 0} (t : Shape) (c g level : ℕ) (stage : Stage) → stage ≡ stages.Finish
    → Holds t c g level stage → A
none_at_finish t c g level stage is h = neither g (subst (Holds t c g level) is h)

pub none_at_handing : (t : Shape) (c g : ℕ) (k : Walk) → k.stage ≡ stages.Handing
    → HoldsBy t c (Some k) g → ⊥
none_at_handing t c g k is h = neither g (subst (Holds t c g k.level) is h)

module _ (w : World) (l : IsLawful w) (g c : ℕ) where
  held : (group_of w g).lock ≡ Some c → HoldsBy w.tree c (cpu_of w c).walk g
  held is = to_world w.tree c g (cpu_of w c).walk (l.locks.held g c is)

  holds : HoldsBy w.tree c (cpu_of w c).walk g → (group_of w g).lock ≡ Some c
  holds h = l.locks.holds g c (to_scene w.tree c g (cpu_of w c).walk h)

  makes : (m : Option Walk) → (cpu_of w c).walk ≡ m → HoldsBy w.tree c m g → MakesTelling w c
  makes None is h = absurd h
  makes (Some k) is h = record {
    made = k;
    walk = is;
    tells = elim (stage_fits w.tree (scene_of w) (walks_fit w l) c (forget k) (in_scene w c k is)) [
      | inl fits ↦ holder_tells w.tree c g k.level k.kind k.stage fits h
      | inr last ↦ none_at_finish w.tree c g k.level k.stage last h
    ];
  }

  by_group : (k : Walk) → (cpu_of w c).walk ≡ Some k → k.stage ≡ stages.FreeGroup
      → group_at_of w.tree c k.level ≡ Some g → (group_of w g).lock ≡ Some c
  by_group k is at there =
      let h : HoldsBy w.tree c (Some k) g = inl (ap (group_lock w.tree c k.level) at ∙ there) in
      holds (subst (λ m. HoldsBy w.tree c m g) (sym is) h)

  by_child : (k : Walk) → (cpu_of w c).walk ≡ Some k → k.stage ≡ stages.FreeChild
      → group_under w.tree c k.level ≡ Some g → (group_of w g).lock ≡ Some c
  by_child k is at there =
      let h : HoldsBy w.tree c (Some k) g = inr (ap (child_lock w.tree c k.level) at ∙ there) in
      holds (subst (λ m. HoldsBy w.tree c m g) (sym is) h)

pub each_lock_is_held : EachLockIsHeld
each_lock_is_held w l = record {
  held = λ g c. (held w l g c, holds w l g c);
  walking = λ g c is. makes w l g c (cpu_of w c).walk refl (held w l g c is);
  frees_group = λ c g k is at there. by_group w l g c k is at there;
  frees_child = λ c g k is at there. by_child w l g c k is at there;
}

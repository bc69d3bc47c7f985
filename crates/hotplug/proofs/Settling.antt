-- a CPU without walk, and a core that is settled
use Rattle.std.proofs.Common.{◌≡◌, ℕ, true, false, Option, Some, None, refl, sym, ap, ◌∙◌, subst}
use Rattle.std.proofs.Common.{inl, inr}
use Rattle.std.specs.Prelude.{option_map}
use Rattle.std.proofs.lemmas.Bool.{both_ways}
use Rattle.walk_rules.specs.declared.walk.Walk.{Walk}
use Rattle.walk_rules.specs.declared.walk.WalkKind.{WalkKind}
use Rattle.walk_rules.specs.declared.walk.WalkKind.TheVariants as kinds
use Rattle.walk_rules.specs.declared.walk.Stage.TheVariants as stages
use Rattle.walk_rules.specs.Stages.{forget}
use Rattle.walk_rules.specs.Standing.{FitsStage, IsWalker}
use Rattle.core_world.specs.Covered.{IsSettled}
use Rattle.core_world.specs.Lawful.{IsLawful}
use Rattle.core_world.specs.World.{World, cpu_of, scene_of}
use Rattle.core_machine.proofs.core_laws.Walks.Stands.{stage_fits}
use Rattle.core_machine.specs.step_play.Rules.Alone.{goes_on}
use Rattle.core_machine.specs.step_play.Rules.Lone.{IsLone}
use Rattle.core_machine.proofs.step_play.Activation.Calm.{handing}

-- only a CPU that is offline waits to hand on
module _ (w : World) (c : ℕ) (lawful : IsLawful w) (online : (cpu_of w c).online ≡ true) where
  waits_not : (k : Walk) → (cpu_of w c).walk ≡ Some k → k.stage ≡ stages.Handing → ⊥
  waits_not k is at =
      let seen : (scene_of w).walk c ≡ Some (forget k) = ap (option_map forget) is in
      elim (stage_fits w.tree (scene_of w) (record {
        placed = lawful.placed;
        flags = lawful.flags;
        walkers = lawful.walkers;
      }) c (forget k) seen) [
        | inl fits ↦
            let leaves : k.kind ≡ kinds.Offline =
            subst (FitsStage w.tree c k.kind k.level) at fits in
            both_ways (cpu_of w c).online
            (subst (λ (kind : WalkKind). IsWalker kind (cpu_of w c).online (cpu_of w c).idle) leaves
            (lawful.walkers c (forget k) seen)) online
        | inr ends ↦ let same : stages.Handing ≡ stages.Finish = sym at ∙ ends in cc
      ]

  by_walk : (m : Option Walk) → (cpu_of w c).walk ≡ m → goes_on m ≡ false →
      (cpu_of w c).walk ≡ None
  by_walk None is off = is
  by_walk (Some k) is off = absurd (waits_not k is (handing k off))

  pub online_free : goes_on (cpu_of w c).walk ≡ false → (cpu_of w c).walk ≡ None
  online_free off = by_walk (cpu_of w c).walk refl off

-- no walk goes on
pub settled_lone : (w : World) (c : ℕ) → IsSettled w → IsLone w c
settled_lone w c settled d ne = ap goes_on (settled.free d)

-- a step of the general form that leaves active sets and migrators keeps what is said of bits
use Rattle.std.proofs.Common.{◌≡◌, inl, inr, ℕ, ◌<◌, Bool, false, length, Some, sym, ap, ◌∙◌, subst}
use Rattle.std.specs.Prelude.{◌&&◌, not, is_some}
use Rattle.std.proofs.lemmas.Bool.{cases_eq}
use Rattle.group_word.specs.Group.{IsActive}
use Rattle.tm_base.specs.declared.names.Child.TheVariants as sorts
use Rattle.tm_base.specs.declared.names.Child.{Child}
use Rattle.tm_base.specs.Children.{of_cpu}
use Rattle.tree_plan.specs.Paths.{bit_of, parent_of}
use Rattle.walk_rules.specs.Clearing.{IsSeenTo, clears}
use Rattle.walk_rules.specs.Edges.{heading, stand}
use Rattle.walk_rules.specs.Scene.{Group, HasBit, is_on}
use Rattle.core_world.specs.World.{CpuRecord, World, cpu_of, group_of, is_active, moved, own, scene_of}
use Rattle.core_world.proofs.Moves.{moved_laws}
use Rattle.core_laws.specs.Edges.Layer.{BitsFit}
use Rattle.core_laws.proofs.Edges.Bits.{bits_step, known_step}

-- STEADY: a step of the general form that leaves active sets and migrators, and whose CPU stays active or not
module _ (w : World) (g : ℕ) (x : Group) (c : ℕ) (y : CpuRecord) (r : Bool) (hc : c < length w.cpus) (b : BitsFit w.tree (scene_of w))
    (active : (h : ℕ) → (group_of (moved w g x c y r) h).active ≡ (group_of w h).active)
    (migrator : (h : ℕ) → (group_of (moved w g x c y r) h).migrator ≡ (group_of w h).migrator)
    (on : is_active y ≡ is_active (cpu_of w c)) where
  at_c : cpu_of (moved w g x c y r) c ≡ y
  at_c = (moved_laws w g x c y r).cpu hc

  cpu_same : (d : ℕ) → is_on (scene_of (moved w g x c y r)) (of_cpu d) ≡ is_on (scene_of w) (of_cpu d)
  cpu_same d = elim (cases_eq d c) [
    | inl same ↦ subst (λ n. is_on (scene_of (moved w g x c y r)) (of_cpu n) ≡ is_on (scene_of w) (of_cpu n)) (sym same) (ap is_active at_c ∙ on)
    | inr ne ↦ (λ i. (moved_laws w g x c y r).changes.online d ne i && not ((moved_laws w g x c y r).changes.idle d ne i))
  ]

  on_same : (m : Child) → is_on (scene_of (moved w g x c y r)) m ≡ is_on (scene_of w) m
  on_same (sorts.Cpu d) = cpu_same d.0
  on_same (sorts.Group h) = ap is_some (migrator h.0)

  bit_was : (m : Child) (p : ℕ) → HasBit w.tree (scene_of (moved w g x c y r)) m p → HasBit w.tree (scene_of w) m p
  bit_was m p set = subst (λ a. IsActive a (bit_of w.tree m)) (active p) set

  pub steady_bits : ((m : Child) (p : ℕ) → parent_of w.tree m ≡ Some p → is_on (scene_of w) m ≡ false → HasBit w.tree (scene_of w) m p → clears w.tree (scene_of w) c ≡ Some m → IsSeenTo w.tree (scene_of (moved w g x c y r)) m)
      → ((z : ℕ) → heading w.tree (scene_of w) c ≡ Some z → heading w.tree (scene_of (moved w g x c y r)) c ≡ Some z)
      → (stand w.tree (scene_of (moved w g x c y r)) c ≡ Some (of_cpu c) → stand w.tree (scene_of w) c ≡ Some (of_cpu c))
      → BitsFit w.tree (scene_of (moved w g x c y r))
  steady_bits own up known = record {
    bits = bits_step w.tree (scene_of w) (scene_of (moved w g x c y r)) c g r (moved_laws w g x c y r).changes b.bits
        (λ m p parent off bit. inl (sym (on_same m) ∙ off, bit_was m p bit))
        (λ m p parent off bit claim. own m p parent (sym (on_same m) ∙ off) (bit_was m p bit) claim)
        (λ z p parent off head. inr (c, up z head));
    known = known_step w.tree (scene_of w) (scene_of (moved w g x c y r)) c g r (moved_laws w g x c y r).changes b.known (λ a ne. cpu_same a)
        (λ a p ne parent bit. bit_was (of_cpu a) p bit)
        (λ p parent is bit at. b.known c c p parent (sym (cpu_same c) ∙ is) (bit_was (of_cpu c) p bit) (known at));
  }

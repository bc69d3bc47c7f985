-- changes that edges don't feel
use Rattle.std.proofs.Common.{◌≡◌, ◌⊎◌, inl, inr, ℕ, ◌≤◌, false, Some, sym, ap, ◌∙◌, subst, arith}
use Rattle.std.specs.Prelude.{is_some}
use Rattle.group_word.specs.Group.{GroupLaw, IsActive}
use Rattle.tm_base.specs.declared.names.Child.TheVariants as sorts
use Rattle.tm_base.specs.declared.names.Child.{Child}
use Rattle.tree_plan.specs.Shape.{Shape}
use Rattle.tm_base.specs.Children.{of_cpu}
use Rattle.tree_plan.specs.Paths.{bit_of}
use Rattle.walk_rules.specs.declared.walk.Walk.{Walk}
use Rattle.walk_rules.specs.declared.walk.WalkKind.TheVariants as kinds
use Rattle.walk_rules.specs.Edges.{HasPassed, IsSure, StandsAt, passed_of, stand}
use Rattle.walk_rules.specs.Scene.{Scene, is_on}
use Rattle.core_laws.specs.Edges.Layer.{EdgesFit}

pub record IsCalm (t : Shape) (old new : Scene) : Type 0 where
  pub active : (g : ℕ) → (new.group g).active ≡ (old.group g).active
  pub migrator : (g : ℕ) → (new.group g).migrator ≡ (old.group g).migrator
  pub cpus : (c : ℕ) → is_on new (of_cpu c) ≡ is_on old (of_cpu c)
  -- activations stand where they stood, unless they passed nothing and end
  pub stand : (c : ℕ) → stand t new c ≡ stand t old c
  pub passed : (c : ℕ) → passed_of (new.walk c) ≤ passed_of (old.walk c)
  pub activates : (c : ℕ) (k : Walk) → new.walk c ≡ Some k → k.kind ≡ kinds.Activate →
      (j : Walk) × (old.walk c ≡ Some j) × (j.kind ≡ kinds.Activate)
  pub sure : (c : ℕ) (k : Walk) (m : Child) → IsSure t new c k m → (is_on old m ≡ false) ⊎ StandsAt t old m

module _ (t : Shape) (old new : Scene) (calm : IsCalm t old new) (f : EdgesFit t old) where
  on_same : (m : Child) → is_on new m ≡ is_on old m
  on_same (sorts.Cpu c) = calm.cpus c.0
  on_same (sorts.Group g) = ap is_some (calm.migrator g.0)

  has : (c : ℕ) (m : Child) (g : ℕ) → HasPassed t new c m g → HasPassed t old c m g
  has c m g p = record { at = p.at; below = omega (arith, p.below, calm.passed c); child = p.child; parent = p.parent }

  pub calm_fit : EdgesFit t new
  calm_fit = record {
    groups = record {
      law = λ g. subst (λ a. GroupLaw a (new.group g).migrator) (sym (calm.active g)) (subst (GroupLaw (old.group g).active) (sym (calm.migrator g)) (f.groups.law g));
      eight = λ g. omega (arith, calm.active g, f.groups.eight g);
      children = λ g k h. f.groups.children g k (subst (λ a. IsActive a k) (calm.active g) h);
    };
    edges = record {
      quiet = λ m c off at. f.edges.quiet m c (sym (on_same m) ∙ off) (sym (calm.stand c) ∙ at);
      once = λ m c d at at'. f.edges.once m c d (sym (calm.stand c) ∙ at) (sym (calm.stand d) ∙ at');
      needs = λ m g parent on unset.
          let o = f.edges.needs m g parent (sym (on_same m) ∙ on) (λ h. unset (subst (λ a. IsActive a (bit_of t m)) (sym (calm.active g)) h)) in
          (o.0, calm.stand o.0 ∙ o.1);
      active = λ c k is kind. let j = calm.activates c k is kind in calm.cpus c ∙ f.edges.active c j.0 j.1 j.2;
      passed = λ c m g p. subst (λ a. IsActive a (bit_of t m)) (sym (calm.active g)) (f.edges.passed c m g (has c m g p));
      behind = λ c d m g p at. f.edges.behind c d m g (has c m g p) (sym (calm.stand d) ∙ at);
    };
    reads = λ c k m sure. elim (calm.sure c k m sure) [
      | inl off ↦ inl (on_same m ∙ off)
      | inr stands ↦ inr (stands.0, calm.stand stands.0 ∙ stands.1)
    ];
  }

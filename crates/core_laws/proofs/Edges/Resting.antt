-- a CPU that isn't active any more, and begins a walk that goes away
use Rattle.std.proofs.Common.{◌≡◌, ◌≢◌, ◌⊎◌, inl, inr, ℕ, ◌<◌, Bool, true, false, true≢false, Some, None, refl, sym, ap, ◌∙◌, subst, arith}
use Rattle.std.specs.Prelude.{◌&&◌, not, is_some, option_and_then}
use Rattle.std.proofs.lemmas.Bool.{cases_eq}
use Rattle.std.proofs.lemmas.Option.{none-some}
use Rattle.group_word.specs.Group.{GroupLaw, IsActive}
use Rattle.tm_base.specs.declared.names.Child.TheVariants as sorts
use Rattle.tm_base.specs.declared.names.Child.{Child}
use Rattle.tree_plan.specs.Shape.{Shape}
use Rattle.tm_base.specs.Children.{of_cpu}
use Rattle.tree_plan.specs.Paths.{bit_of, child_towards, group_at_of, parent_of}
use Rattle.walk_rules.specs.declared.walk.Walk.{Walk}
use Rattle.walk_rules.specs.declared.walk.WalkKind.TheVariants as kinds
use Rattle.walk_rules.specs.declared.walk.Stage.TheVariants as stages
use Rattle.walk_rules.specs.Edges.{HasPassed, IsSure, edge_of, passed_of, stand}
use Rattle.walk_rules.specs.Scene.{HasBit, Scene, is_on}
use Rattle.walk_rules.specs.Clearing.{clears, clears_by}
use Rattle.core_world.specs.Frames.{ChangesOnly}
use Rattle.core_laws.specs.Edges.Layer.{BitsFit, EdgesFit}
use Rattle.core_laws.proofs.Edges.Bits.{bits_step, known_step}
use Rattle.core_laws.proofs.Edges.Facts.{own_edge, unpacked}

-- the walk that begins is no activation and makes no exchange yet
pub record Departs (new : Scene) (c : ℕ) : Type 0 where
  pub nothing_passed : passed_of (new.walk c) ≡ 0
  pub no_edge : edge_of (new.walk c) ≡ None
  pub not_swapping : (k : Walk) → new.walk c ≡ Some k → k.stage ≡ stages.Swap → ⊥
  pub no_activation : (k : Walk) → new.walk c ≡ Some k → k.kind ≡ kinds.Activate → ⊥

module _ (t : Shape) (old new : Scene) (c g : ℕ) (r : Bool) (ch : ChangesOnly t old new c g r) (f : EdgesFit t old)
    (groups : (x : ℕ) → new.group x ≡ old.group x) (was_free : old.walk c ≡ None) (now_off : is_on new (of_cpu c) ≡ false) (departs : Departs new c) where
  stand_else : (d : ℕ) → d ≢ c → stand t new d ≡ stand t old d
  stand_else d ne = ap (λ m. option_and_then (child_towards t d) (edge_of m)) (ch.walk d ne)

  -- the CPU stood nowhere, and stands nowhere
  stand_same : (d : ℕ) → stand t new d ≡ stand t old d
  stand_same d = elim (cases_eq d c) [
    | inl same ↦ subst (λ n. stand t new n ≡ stand t old n) (sym same)
        (ap (option_and_then (child_towards t c)) departs.no_edge ∙ sym (ap (λ k. option_and_then (child_towards t c) (edge_of k)) was_free))
    | inr ne ↦ stand_else d ne
  ]

  on_else : (d : ℕ) → d ≢ c → is_on new (of_cpu d) ≡ is_on old (of_cpu d)
  on_else d ne = λ i. ch.online d ne i && not (ch.idle d ne i)

  -- what is on was on; what is off was off, or is the CPU
  was_on : (m : Child) → is_on new m ≡ true → is_on old m ≡ true
  was_on (sorts.Cpu d) on = elim (cases_eq d.0 c) [
    | inl same ↦ absurd (true≢false (sym on ∙ subst (λ n. is_on new (of_cpu n) ≡ false) (sym same) now_off))
    | inr ne ↦ sym (on_else d.0 ne) ∙ on
  ]
  was_on (sorts.Group x) on = sym (ap (λ y. is_some y.migrator) (groups x.0)) ∙ on

  off_was : (m : Child) → is_on new m ≡ false → (m ≡ of_cpu c) ⊎ (is_on old m ≡ false)
  off_was (sorts.Cpu d) off = elim (cases_eq d.0 c) [ inl same ↦ inl (ap of_cpu same) | inr ne ↦ inr (sym (on_else d.0 ne) ∙ off) ]
  off_was (sorts.Group x) off = inr (sym (ap (λ y. is_some y.migrator) (groups x.0)) ∙ off)

  either : (b : Bool) → (b ≡ true) ⊎ (b ≡ false)
  either true = inl refl
  either false = inr refl

  still_off : (m : Child) → is_on old m ≡ false → is_on new m ≡ false
  still_off m off = elim (either (is_on new m)) [ inl on ↦ absurd (true≢false (sym (was_on m on) ∙ off)) | inr o ↦ o ]

  -- at a CPU's edge stands its own walk alone
  own_stand : (d : ℕ) → stand t old d ≡ Some (of_cpu c) → d ≡ c
  own_stand d at = let p = unpacked t d (edge_of (old.walk d)) (of_cpu c) at in own_edge t d p.0 c p.2

  nobody : (d : ℕ) → stand t old d ≡ Some (of_cpu c) → ⊥
  nobody d at = none-some (of_cpu c) (sym (ap (λ k. option_and_then (child_towards t c) (edge_of k)) was_free) ∙ subst (λ n. stand t old n ≡ Some (of_cpu c)) (own_stand d at) at)

  has_else : (d : ℕ) (m : Child) (x : ℕ) → HasPassed t new d m x → HasPassed t old d m x
  has_else d m x p =
      let ne : d ≢ c = λ same. let none : passed_of (new.walk d) ≡ 0 = ap (λ n. passed_of (new.walk n)) same ∙ departs.nothing_passed in absurd (omega (arith, none, p.below)) in
      record { at = p.at; below = subst (λ k. p.at < passed_of k) (ch.walk d ne) p.below; child = p.child; parent = p.parent }

  sure_else : (d : ℕ) (k : Walk) (m : Child) → IsSure t new d k m → IsSure t old d k m
  sure_else d k m sure =
      let ne : d ≢ c = λ same. departs.not_swapping k (subst (λ n. new.walk n ≡ Some k) same sure.walk) sure.swapping in
      record { walk = sym (ch.walk d ne) ∙ sure.walk; swapping = sure.swapping; fresh = ch.fresh d ne sure.fresh; saw_off = sure.saw_off; child = sure.child }

  set_same : (x k : ℕ) → IsActive (old.group x).active k → IsActive (new.group x).active k
  set_same x k set = subst (λ y. IsActive y.active k) (sym (groups x)) set

  pub rest_fit : EdgesFit t new
  rest_fit = record {
    groups = record {
      law = λ x. subst (λ y. GroupLaw y.active y.migrator) (sym (groups x)) (f.groups.law x);
      eight = λ x. let e = ap (λ y. y.active) (groups x) in omega (arith, e, f.groups.eight x);
      children = λ x k set. f.groups.children x k (subst (λ y. IsActive y.active k) (groups x) set);
    };
    edges = record {
      quiet = λ m d off at. elim (off_was m off) [
        | inl own ↦ nobody d (sym (stand_same d) ∙ (at ∙ ap Some own))
        | inr was ↦ f.edges.quiet m d was (sym (stand_same d) ∙ at)
      ];
      once = λ m d e at at'. f.edges.once m d e (sym (stand_same d) ∙ at) (sym (stand_same e) ∙ at');
      needs = λ m x parent on unset.
          let o = f.edges.needs m x parent (was_on m on) (λ set. unset (set_same x (bit_of t m) set)) in
          (o.0, stand_same o.0 ∙ o.1);
      active = λ d k is kind. elim (cases_eq d c) [
        | inl same ↦ absurd (departs.no_activation k (subst (λ n. new.walk n ≡ Some k) same is) kind)
        | inr ne ↦ on_else d ne ∙ f.edges.active d k (sym (ch.walk d ne) ∙ is) kind
      ];
      passed = λ d m x p. set_same x (bit_of t m) (f.edges.passed d m x (has_else d m x p));
      behind = λ d e m x p at. f.edges.behind d e m x (has_else d m x p) (sym (stand_same e) ∙ at);
    };
    reads = λ d k m sure. elim (f.reads d k m (sure_else d k m sure)) [
      | inl off ↦ inl (still_off m off)
      | inr stands ↦ inr (stands.0, stand_same stands.0 ∙ stands.1)
    ];
  }

  bit_was : (m : Child) (y : ℕ) → HasBit t new m y → HasBit t old m y
  bit_was m y set = subst (λ z. IsActive z.active (bit_of t m)) (groups y) set

  -- its own walk will clear its bit, where it has a group
  pub rest_bits : ((y : ℕ) → parent_of t (of_cpu c) ≡ Some y → clears t new c ≡ Some (of_cpu c)) → BitsFit t old → BitsFit t new
  rest_bits clearing b = record {
    bits = bits_step t old new c g r ch b.bits
        (λ m y parent off bit. elim (off_was m off) [
          | inl own ↦ inr (inl (c, clearing y (ap (parent_of t) (sym own) ∙ parent) ∙ ap Some (sym own)))
          | inr was ↦ inl (was, bit_was m y bit)
        ])
        (λ m y parent off bit claim. absurd (none-some m (sym (ap (clears_by t c (old.fresh c)) was_free) ∙ claim)))
        (λ x y parent off head. absurd (none-some x (sym (ap (λ k. option_and_then (group_at_of t c) (edge_of k)) was_free) ∙ head)));
    known = known_step t old new c g r ch b.known on_else (λ a y ne parent bit. bit_was (of_cpu a) y bit)
        (λ y parent on bit at. true≢false (sym on ∙ now_off));
  }

-- a CPU that becomes active, and begins an activation where it has a group
use Rattle.std.proofs.Common.{◌≡◌, ◌≢◌, ◌⊎◌, inl, inr, ℕ, ◌<◌, Bool, true, false, true≢false, Some, None, refl, sym, ap, ◌∙◌, subst, arith}
use Rattle.std.specs.Prelude.{◌&&◌, not, is_some, option_and_then}
use Rattle.std.proofs.lemmas.Bool.{cases_eq}
use Rattle.std.proofs.lemmas.Option.{none-some, same_Some}
use Rattle.group_word.specs.Group.{GroupLaw, IsActive}
use Rattle.tm_base.specs.declared.names.Child.TheVariants as sorts
use Rattle.tm_base.specs.declared.names.Child.{Child}
use Rattle.tree_plan.specs.Shape.{Shape}
use Rattle.tm_base.specs.Children.{of_cpu}
use Rattle.tree_plan.specs.Paths.{parent_of, bit_of, group_at_of, child_towards}
use Rattle.walk_rules.specs.declared.walk.Walk.{Walk}
use Rattle.walk_rules.specs.declared.walk.Stage.TheVariants as stages
use Rattle.walk_rules.specs.Edges.{HasPassed, IsSure, StandsAt, edge_of, passed_of, stand, heading}
use Rattle.walk_rules.specs.Hierarchy.{IsHierarchy}
use Rattle.walk_rules.specs.Scene.{HasBit, Scene, is_on}
use Rattle.walk_rules.specs.Clearing.{clears, clears_by}
use Rattle.core_world.specs.Frames.{ChangesOnly}
use Rattle.core_laws.specs.Edges.Layer.{BitsFit, EdgesFit}
use Rattle.core_laws.proofs.Edges.Bits.{bits_step, known_step, own_claim}
use Rattle.core_laws.proofs.Edges.Facts.{own_child, own_edge}

-- the walk that begins stands at the CPU's own edge, or there is none
pub record Begins (t : Shape) (new : Scene) (c : ℕ) : Type 0 where
  pub nothing_passed : passed_of (new.walk c) ≡ 0
  pub not_swapping : (k : Walk) → new.walk c ≡ Some k → k.stage ≡ stages.Swap → ⊥
  pub edge : (edge_of (new.walk c) ≡ Some 0) ⊎ ((edge_of (new.walk c) ≡ None) × (group_at_of t c 0 ≡ None))

module _ (t : Shape) (h : IsHierarchy t) (old new : Scene) (c g : ℕ) (r : Bool) (ch : ChangesOnly t old new c g r) (f : EdgesFit t old)
    (groups : (x : ℕ) → new.group x ≡ old.group x) (was_free : old.walk c ≡ None) (was_off : is_on old (of_cpu c) ≡ false) (now_on : is_on new (of_cpu c) ≡ true)
    (begins : Begins t new c) where
  stand_else : (d : ℕ) → d ≢ c → stand t new d ≡ stand t old d
  stand_else d ne = ap (λ m. option_and_then (child_towards t d) (edge_of m)) (ch.walk d ne)

  was_standing : (m : Child) → stand t old c ≡ Some m → ⊥
  was_standing m at = none-some m (sym (ap (λ k. option_and_then (child_towards t c) (edge_of k)) was_free) ∙ at)

  on_else : (d : ℕ) → d ≢ c → is_on new (of_cpu d) ≡ is_on old (of_cpu d)
  on_else d ne = λ i. ch.online d ne i && not (ch.idle d ne i)

  still_on : (m : Child) → is_on old m ≡ true → is_on new m ≡ true
  still_on (sorts.Cpu d) on = elim (cases_eq d.0 c) [
    | inl same ↦ subst (λ n. is_on new (of_cpu n) ≡ true) (sym same) now_on
    | inr ne ↦ on_else d.0 ne ∙ on
  ]
  still_on (sorts.Group x) on = ap (λ y. is_some y.migrator) (groups x.0) ∙ on

  -- what is on now was on, or is the CPU
  on_was : (m : Child) → is_on new m ≡ true → (m ≡ of_cpu c) ⊎ (is_on old m ≡ true)
  on_was (sorts.Cpu d) on = elim (cases_eq d.0 c) [ inl same ↦ inl (ap of_cpu same) | inr ne ↦ inr (sym (on_else d.0 ne) ∙ on) ]
  on_was (sorts.Group x) on = inr (sym (ap (λ y. is_some y.migrator) (groups x.0)) ∙ on)

  either : (b : Bool) → (b ≡ true) ⊎ (b ≡ false)
  either true = inl refl
  either false = inr refl

  was_off_too : (m : Child) → is_on new m ≡ false → is_on old m ≡ false
  was_off_too m off = elim (either (is_on old m)) [ inl on ↦ absurd (true≢false (sym (still_on m on) ∙ off)) | inr o ↦ o ]

  -- the CPU stands at its own edge, if anywhere
  stands_now : (m : Child) → stand t new c ≡ Some m → m ≡ of_cpu c
  stands_now m at = elim begins.edge [
    | inl own ↦ same_Some _ _ (sym at ∙ (ap (option_and_then (child_towards t c)) own ∙ own_child t c))
    | inr none ↦ absurd (none-some m (sym (ap (option_and_then (child_towards t c)) none.0) ∙ at))
  ]

  -- nobody else stands there
  nobody_else : (d : ℕ) → stand t old d ≡ Some (of_cpu c) → ⊥
  nobody_else d at = f.edges.quiet (of_cpu c) d was_off at

  has_else : (d : ℕ) (m : Child) (x : ℕ) → HasPassed t new d m x → (d ≢ c) × HasPassed t old d m x
  has_else d m x p =
      let ne : d ≢ c = λ same. let none : passed_of (new.walk d) ≡ 0 = ap (λ n. passed_of (new.walk n)) same ∙ begins.nothing_passed in absurd (omega (arith, none, p.below)) in
      (ne, record { at = p.at; below = subst (λ k. p.at < passed_of k) (ch.walk d ne) p.below; child = p.child; parent = p.parent })

  sure_else : (d : ℕ) (k : Walk) (m : Child) → IsSure t new d k m → (d ≢ c) × IsSure t old d k m
  sure_else d k m sure =
      let ne : d ≢ c = λ same. begins.not_swapping k (subst (λ n. new.walk n ≡ Some k) same sure.walk) sure.swapping in
      (ne, record { walk = sym (ch.walk d ne) ∙ sure.walk; swapping = sure.swapping; fresh = ch.fresh d ne sure.fresh; saw_off = sure.saw_off; child = sure.child })

  set_same : (x k : ℕ) → IsActive (old.group x).active k → IsActive (new.group x).active k
  set_same x k set = subst (λ y. IsActive y.active k) (sym (groups x)) set

  stays_at : (m : Child) → StandsAt t old m → StandsAt t new m
  stays_at m o = elim (cases_eq o.0 c) [
    | inl same ↦ absurd (was_standing m (subst (λ n. stand t old n ≡ Some m) same o.1))
    | inr ne ↦ (o.0, stand_else o.0 ne ∙ o.1)
  ]

  pub wake_fit : EdgesFit t new
  wake_fit = record {
    groups = record {
      law = λ x. subst (λ y. GroupLaw y.active y.migrator) (sym (groups x)) (f.groups.law x);
      eight = λ x. let e = ap (λ y. y.active) (groups x) in omega (arith, e, f.groups.eight x);
      children = λ x k set. f.groups.children x k (subst (λ y. IsActive y.active k) (groups x) set);
    };
    edges = record {
      quiet = λ m d off at. elim (cases_eq d c) [
        | inl same ↦ true≢false (sym (subst (λ z. is_on new z ≡ true) (sym (stands_now m (subst (λ n. stand t new n ≡ Some m) same at))) now_on) ∙ off)
        | inr ne ↦ f.edges.quiet m d (was_off_too m off) (sym (stand_else d ne) ∙ at)
      ];
      once = λ m d e at at'. elim (cases_eq d c) [
        | inl same ↦ elim (cases_eq e c) [
          | inl same' ↦ same ∙ sym same'
          | inr ne' ↦ absurd (nobody_else e (sym (stand_else e ne') ∙ (at' ∙ ap Some (stands_now m (subst (λ n. stand t new n ≡ Some m) same at)))))
        ]
        | inr ne ↦ elim (cases_eq e c) [
          | inl same' ↦ absurd (nobody_else d (sym (stand_else d ne) ∙ (at ∙ ap Some (stands_now m (subst (λ n. stand t new n ≡ Some m) same' at')))))
          | inr ne' ↦ f.edges.once m d e (sym (stand_else d ne) ∙ at) (sym (stand_else e ne') ∙ at')
        ]
      ];
      needs = λ m x parent on unset. elim (on_was m on) [
        | inl own ↦ elim begins.edge [
          | inl edge ↦ (c, ap (option_and_then (child_towards t c)) edge ∙ (own_child t c ∙ ap Some (sym own)))
          | inr none ↦ absurd (none-some x (sym none.1 ∙ (h.onwards c 0 (of_cpu c) (own_child t c) ∙ (ap (parent_of t) (sym own) ∙ parent))))
        ]
        | inr was ↦ stays_at m (f.edges.needs m x parent was (λ set. unset (set_same x (bit_of t m) set)))
      ];
      active = λ d k is kind. elim (cases_eq d c) [
        | inl same ↦ subst (λ n. is_on new (of_cpu n) ≡ true) (sym same) now_on
        | inr ne ↦ on_else d ne ∙ f.edges.active d k (sym (ch.walk d ne) ∙ is) kind
      ];
      passed = λ d m x p. let q = has_else d m x p in set_same x (bit_of t m) (f.edges.passed d m x q.1);
      behind = λ d e m x p at.
          let q = has_else d m x p in
          elim (cases_eq e c) [
            | inl same ↦
                let own = stands_now m (subst (λ n. stand t new n ≡ Some m) same at) in
                q.0 (own_edge t d p.at c (p.child ∙ ap Some own))
            | inr ne ↦ f.edges.behind d e m x q.1 (sym (stand_else e ne) ∙ at)
          ];
    };
    reads = λ d k m sure.
        let q = sure_else d k m sure in
        elim (f.reads d k m q.1) [
          | inl off ↦ elim (either (is_on new m)) [
            | inl on ↦ elim (on_was m on) [
              | inl own ↦ absurd (q.0 (own_edge t d k.level c (sure.child ∙ ap Some own)))
              | inr was ↦ absurd (true≢false (sym was ∙ off))
            ]
            | inr off' ↦ inl off'
          ]
          | inr stands ↦ inr (stays_at m stands)
        ];
  }

  bit_was : (m : Child) (y : ℕ) → HasBit t new m y → HasBit t old m y
  bit_was m y set = subst (λ z. IsActive z.active (bit_of t m)) (groups y) set

  no_claim : (m : Child) → clears t old c ≡ Some m → ⊥
  no_claim m e = none-some m (sym (ap (clears_by t c (old.fresh c)) was_free) ∙ e)

  no_heading : (x : ℕ) → heading t old c ≡ Some x → ⊥
  no_heading x e = none-some x (sym (ap (λ k. option_and_then (group_at_of t c) (edge_of k)) was_free) ∙ e)

  -- its bit isn't set: as an inactive CPU's, it would have been cleared by the CPU's walk, and there was none
  not_set : BitsFit t old → (y : ℕ) → parent_of t (of_cpu c) ≡ Some y → HasBit t old (of_cpu c) y → ⊥
  not_set b y parent bit = elim (b.bits (of_cpu c) y parent was_off bit) [
    | inl d ↦ no_claim (of_cpu c) (subst (λ n. clears t old n ≡ Some (of_cpu c)) (own_claim t old d.0 c d.1) d.1)
    | inr under ↦ under
  ]

  pub wake_bits : BitsFit t old → BitsFit t new
  wake_bits b = record {
    bits = bits_step t old new c g r ch b.bits
        (λ m y parent off bit. inl (was_off_too m off, bit_was m y bit))
        (λ m y parent off bit claim. absurd (no_claim m claim))
        (λ x y parent off head. absurd (no_heading x head));
    known = known_step t old new c g r ch b.known on_else (λ a y ne parent bit. bit_was (of_cpu a) y bit)
        (λ y parent on bit at. not_set b y parent (bit_was (of_cpu c) y bit));
  }

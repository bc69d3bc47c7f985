-- a deactivation's exchange: the child leaves its group
use Rattle.std.proofs.Common.{◌≡◌, ◌≢◌, ◌⊎◌, inl, inr, ℕ, ◌<◌, Bool, true, false, true≢false, Some, None, refl, sym, ap, ◌∙◌, subst, arith}
use Rattle.std.specs.Prelude.{◌&&◌, not, is_some, option_and_then}
use Rattle.std.proofs.lemmas.Bool.{cases_eq}
use Rattle.std.proofs.lemmas.Option.{none-some, same_Some}
use Rattle.group_word.specs.Group.{GroupLaw, IsActive}
use Rattle.tm_base.specs.declared.names.Child.TheVariants as sorts
use Rattle.tm_base.specs.declared.names.Child.{Child}
use Rattle.tree_plan.specs.Shape.{Shape}
use Rattle.tm_base.specs.Children.{of_cpu, of_group}
use Rattle.tree_plan.specs.Paths.{parent_of, bit_of, child_towards, group_at_of}
use Rattle.walk_rules.specs.declared.walk.Walk.{Walk}
use Rattle.walk_rules.specs.Edges.{HasPassed, IsSure, StandsAt, edge_of, passed_of, stand}
use Rattle.walk_rules.specs.Hierarchy.{IsHierarchy}
use Rattle.walk_rules.specs.Scene.{Group, HasBit, Scene, is_on}
use Rattle.walk_rules.specs.Stages.{left_by}
use Rattle.walk_rules.specs.Clearing.{clears}
use Rattle.core_world.specs.Frames.{ChangesOnly}
use Rattle.core_laws.specs.Walks.Fit.{WalksFit}
use Rattle.core_laws.specs.Edges.Layer.{BitsFit, EdgesFit}
use Rattle.core_laws.proofs.Edges.Bits.{bits_step, known_step}
use Rattle.core_laws.proofs.Edges.Facts.{all_below, group_edge, passed_on, standing}
use Rattle.core_laws.proofs.Edges.Sets.{left_alone, left_keeps, left_law, left_off, left_small, left_was, left_gone}
use Rattle.core_laws.proofs.Edges.Resting.{Departs}

-- the walk c has made its exchange at level n: child e, found off, left group g
module _ (t : Shape) (h : IsHierarchy t) (old new : Scene) (walks : WalksFit t old) (c g : ℕ) (e : Child) (r : Bool) (ch : ChangesOnly t old new c g r) (f : EdgesFit t old)
    (parent : parent_of t e ≡ Some g) (sure : (is_on old e ≡ false) ⊎ StandsAt t old e) (was_edge : edge_of (old.walk c) ≡ None)
    (x : new.group g ≡ left_by false (old.group g) (bit_of t e)) (own_on : is_on new (of_cpu c) ≡ is_on old (of_cpu c)) (departs : Departs new c) where
  stand_same : (d : ℕ) → stand t new d ≡ stand t old d
  stand_same d = elim (cases_eq d c) [
    | inl same ↦ subst (λ k. stand t new k ≡ stand t old k) (sym same)
        (ap (option_and_then (child_towards t c)) departs.no_edge ∙ sym (ap (option_and_then (child_towards t c)) was_edge))
    | inr ne ↦ ap (λ m. option_and_then (child_towards t d) (edge_of m)) (ch.walk d ne)
  ]

  on_cpu : (d : ℕ) → is_on new (of_cpu d) ≡ is_on old (of_cpu d)
  on_cpu d = elim (cases_eq d c) [
    | inl same ↦ subst (λ k. is_on new (of_cpu k) ≡ is_on old (of_cpu k)) (sym same) own_on
    | inr ne ↦ (λ i. ch.online d ne i && not (ch.idle d ne i))
  ]

  on_else : (y : ℕ) → y ≢ g → is_on new (of_group y) ≡ is_on old (of_group y)
  on_else y ne = ap (λ (z : Group). is_some z.migrator) (ch.group y ne)

  either : (b : Bool) → (b ≡ true) ⊎ (b ≡ false)
  either true = inl refl
  either false = inr refl

  -- what is off stays off
  still_off : (m : Child) → is_on old m ≡ false → is_on new m ≡ false
  still_off (sorts.Cpu d) off = on_cpu d.0 ∙ off
  still_off (sorts.Group y) off = elim (cases_eq y.0 g) [
    | inl same ↦ subst (λ k. is_on new (of_group k) ≡ false) (sym same)
        (ap (λ (z : Group). is_some z.migrator) x ∙ left_off (old.group g).active (bit_of t e) _ (old.group g).migrator (subst (λ k. is_on old (of_group k) ≡ false) same off))
    | inr ne ↦ on_else y.0 ne ∙ off
  ]

  was_on : (m : Child) → is_on new m ≡ true → is_on old m ≡ true
  was_on m on = elim (either (is_on old m)) [ inl o ↦ o | inr off ↦ absurd (true≢false (sym on ∙ still_off m off)) ]

  -- only the group itself may have gone off
  went_off : (m : Child) → is_on old m ≡ true → is_on new m ≡ false → m ≡ of_group g
  went_off (sorts.Cpu d) on off = absurd (true≢false (sym on ∙ (sym (on_cpu d.0) ∙ off)))
  went_off (sorts.Group y) on off = elim (cases_eq y.0 g) [
    | inl same ↦ ap of_group same
    | inr ne ↦ absurd (true≢false (sym on ∙ (sym (on_else y.0 ne) ∙ off)))
  ]

  new_law : GroupLaw (new.group g).active (new.group g).migrator
  new_law = subst (λ (z : Group). GroupLaw z.active z.migrator) (sym x) (left_law (old.group g).active (bit_of t e) (old.group g).migrator (f.groups.eight g) (h.eight e) (f.groups.law g))

  -- another child's bit stays
  set_else : (m : Child) (y : ℕ) → parent_of t m ≡ Some y → m ≢ e → IsActive (old.group y).active (bit_of t m) → IsActive (new.group y).active (bit_of t m)
  set_else m y up ne set = elim (cases_eq y g) [
    | inl same ↦ subst (λ j. IsActive (new.group j).active (bit_of t m)) (sym same)
        (subst (λ (z : Group). IsActive z.active (bit_of t m)) (sym x) (left_keeps (old.group g).active (bit_of t e) (bit_of t m) (f.groups.eight g) (h.eight e)
        (λ z. ne (h.apart m e g (up ∙ ap Some same) parent z)) (subst (λ j. IsActive (old.group j).active (bit_of t m)) same set)))
    | inr other ↦ subst (λ (z : Group). IsActive z.active (bit_of t m)) (sym (ch.group y other)) set
  ]

  was_set : (y k : ℕ) → IsActive (new.group y).active k → IsActive (old.group y).active k
  was_set y k set = elim (cases_eq y g) [
    | inl same ↦ subst (λ j. IsActive (old.group j).active k) (sym same)
        (left_was (old.group g).active (bit_of t e) k (f.groups.eight g) (h.eight e)
        (subst (λ (z : Group). IsActive z.active k) x (subst (λ j. IsActive (new.group j).active k) same set)))
    | inr other ↦ subst (λ (z : Group). IsActive z.active k) (ch.group y other) set
  ]

  has : (d : ℕ) (m : Child) (y : ℕ) → HasPassed t new d m y → HasPassed t old d m y
  has d m y p =
      let ne : d ≢ c = λ same. let none : passed_of (new.walk d) ≡ 0 = ap (λ n. passed_of (new.walk n)) same ∙ departs.nothing_passed in absurd (omega (arith, none, p.below)) in
      record { at = p.at; below = subst (λ k. p.at < passed_of k) (ch.walk d ne) p.below; child = p.child; parent = p.parent }

  -- nobody has passed the edge of the child
  not_passed : (d y : ℕ) → HasPassed t old d e y → ⊥
  not_passed d y p = elim sure [
    | inl off ↦ true≢false (sym (passed_on t old walks h f.groups f.edges d e y p) ∙ off)
    | inr stands ↦ f.edges.behind d stands.0 e y p stands.1
  ]

  not_child : (d : ℕ) (m : Child) (y : ℕ) → HasPassed t old d m y → m ≢ e
  not_child d m y p same = not_passed d y (subst (λ k. HasPassed t old d k y) same p)

  -- an activation that stands at a group's edge has passed the edge to that group
  came_by : (d : ℕ) → stand t old d ≡ Some (of_group g) → (m : Child) × HasPassed t old d m g
  came_by d at =
      let p = standing t old walks d (of_group g) at in
      let q = group_edge t d p.0 g p.2 in
      let low = h.towards d q.0 g q.2 in
      let whole = all_below t old walks d p.0 p.1 in
      (low.0, record { at = q.0; below = omega (arith, whole, q.1); child = low.1; parent = q.2 })

  -- so the group stays active beside it
  not_off : (d : ℕ) → stand t old d ≡ Some (of_group g) → is_on new (of_group g) ≡ false → ⊥
  not_off d at off =
      let p = came_by d at in
      let only = left_alone (old.group g).active (bit_of t e) (bit_of t p.0) (new.group g).migrator (f.groups.eight g) (h.eight e)
      (subst (λ (z : Group). GroupLaw z.active (new.group g).migrator) x new_law) off (f.edges.passed d p.0 g p.1) in
      let up : parent_of t p.0 ≡ Some g = sym (h.onwards d p.1.at p.0 p.1.child) ∙ p.1.parent in
      not_child d p.0 g p.1 (h.apart p.0 e g up parent only)

  sure_else : (d : ℕ) (k : Walk) (m : Child) → IsSure t new d k m → IsSure t old d k m
  sure_else d k m s =
      let ne : d ≢ c = λ same. departs.not_swapping k (subst (λ j. new.walk j ≡ Some k) same s.walk) s.swapping in
      record { walk = sym (ch.walk d ne) ∙ s.walk; swapping = s.swapping; fresh = ch.fresh d ne s.fresh; saw_off = s.saw_off; child = s.child }

  -- the child itself is active only where an activation stands at its edge
  stands_or : (m : Child) → m ≡ e → is_on old m ≡ true → StandsAt t old m
  stands_or m same on = elim sure [
    | inl off ↦ absurd (true≢false (sym (subst (λ z. is_on old z ≡ true) same on) ∙ off))
    | inr stands ↦ (stands.0, stands.1 ∙ ap Some (sym same))
  ]

  -- children are equal or not, as far as one group's are concerned
  same_or : (m : Child) (y : ℕ) → parent_of t m ≡ Some y → (m ≡ e) ⊎ (m ≢ e)
  same_or m y up = elim (cases_eq y g) [
    | inl at ↦ elim (cases_eq (bit_of t m) (bit_of t e)) [
      | inl bit ↦ inl (h.apart m e g (up ∙ ap Some at) parent bit)
      | inr ne ↦ inr (λ z. ne (ap (bit_of t) z))
    ]
    | inr ne ↦ inr (λ z. ne (same_Some _ _ (sym up ∙ (ap (parent_of t) z ∙ parent))))
  ]

  pub swap_fit : EdgesFit t new
  swap_fit = record {
    groups = record {
      law = λ y. elim (cases_eq y g) [
        | inl same ↦ subst (λ k. GroupLaw (new.group k).active (new.group k).migrator) (sym same) new_law
        | inr ne ↦ subst (λ (z : Group). GroupLaw z.active z.migrator) (sym (ch.group y ne)) (f.groups.law y)
      ];
      eight = λ y. elim (cases_eq y g) [
        | inl same ↦ subst (λ k. (new.group k).active < 256) (sym same)
            (subst (λ (z : Group). z.active < 256) (sym x) (left_small (old.group g).active (bit_of t e) (f.groups.eight g)))
        | inr ne ↦ subst (λ (z : Group). z.active < 256) (sym (ch.group y ne)) (f.groups.eight y)
      ];
      children = λ y k set. f.groups.children y k (was_set y k set);
    };
    edges = record {
      quiet = λ m d off at.
          let was_at : stand t old d ≡ Some m = sym (stand_same d) ∙ at in
          elim (either (is_on old m)) [
            | inl on ↦
                let own = went_off m on off in
                not_off d (was_at ∙ ap Some own) (subst (λ z. is_on new z ≡ false) own off)
            | inr was ↦ f.edges.quiet m d was was_at
          ];
      once = λ m d k at at'. f.edges.once m d k (sym (stand_same d) ∙ at) (sym (stand_same k) ∙ at');
      needs = λ m y up on unset.
          let o = elim (same_or m y up) as (λ _. StandsAt t old m) [
            | inl same ↦ stands_or m same (was_on m on)
            | inr ne ↦ f.edges.needs m y up (was_on m on) (λ set. unset (set_else m y up ne set))
          ] in
          (o.0, stand_same o.0 ∙ o.1);
      active = λ d k is kind. elim (cases_eq d c) [
        | inl same ↦ absurd (departs.no_activation k (subst (λ n. new.walk n ≡ Some k) same is) kind)
        | inr ne ↦ on_cpu d ∙ f.edges.active d k (sym (ch.walk d ne) ∙ is) kind
      ];
      passed = λ d m y p.
          let was = has d m y p in
          set_else m y (sym (h.onwards d was.at m was.child) ∙ was.parent) (not_child d m y was) (f.edges.passed d m y was);
      behind = λ d k m y p at. f.edges.behind d k m y (has d m y p) (sym (stand_same k) ∙ at);
    };
    reads = λ d k m s. elim (f.reads d k m (sure_else d k m s)) [
      | inl off ↦ inl (still_off m off)
      | inr stands ↦ inr (stands.0, stand_same stands.0 ∙ stands.1)
    ];
  }

  -- the child's bit isn't set any more
  child_gone : (y : ℕ) → parent_of t e ≡ Some y → HasBit t new e y → ⊥
  child_gone y up set =
      let at : y ≡ g = same_Some _ _ (sym up ∙ parent) in
      left_gone (old.group g).active (bit_of t e) (h.eight e) (subst (λ (z : Group). IsActive z.active (bit_of t e)) x (subst (λ j. IsActive (new.group j).active (bit_of t e)) at set))

  -- the walk claimed its child, and now claims its group
  pub swap_bits : ((m : Child) → clears t old c ≡ Some m → m ≡ e) → clears t new c ≡ Some (of_group g) → BitsFit t old → BitsFit t new
  swap_bits claimed claims b = record {
    bits = bits_step t old new c g r ch b.bits
        (λ m y up off bit. elim (either (is_on old m)) [
          | inl on ↦ inr (inl (c, claims ∙ ap Some (sym (went_off m on off))))
          | inr was ↦ inl (was, was_set y (bit_of t m) bit)
        ])
        (λ m y up off bit claim.
        (let same = claimed m claim in
        absurd (child_gone y (ap (parent_of t) (sym same) ∙ up) (subst (λ z. HasBit t new z y) same bit))))
        (λ y p up off head. absurd (none-some y (sym (ap (option_and_then (group_at_of t c)) was_edge) ∙ head)));
    known = known_step t old new c g r ch b.known (λ a ne. on_cpu a) (λ a y ne up bit. was_set y (bit_of t (of_cpu a)) bit)
        (λ y up on bit at. none-some (of_cpu c) (sym (ap (option_and_then (child_towards t c)) departs.no_edge) ∙ at));
  }

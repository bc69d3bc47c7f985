-- an activation's exchange: the child joins its group
use Rattle.std.proofs.Common.{◌≡◌, ◌≢◌, ◌⊎◌, inl, inr, ℕ, suc, ◌<◌, ◌≤◌, Bool, true, false, true≢false, Option, Some, None, refl, sym, ap, ◌∙◌, subst, arith}
use Rattle.std.specs.Prelude.{◌&&◌, not, is_some, option_and_then}
use Rattle.std.proofs.lemmas.Bool.{cases_eq, cases_lt}
use Rattle.std.proofs.lemmas.Option.{none-some, same_Some}
use Rattle.group_word.specs.Group.{GroupLaw, IsActive}
use Rattle.tm_base.specs.declared.names.Child.TheVariants as sorts
use Rattle.tm_base.specs.declared.names.Child.{Child}
use Rattle.tree_plan.specs.Shape.{Shape}
use Rattle.tm_base.specs.Children.{of_cpu, of_group}
use Rattle.tree_plan.specs.Paths.{parent_of, bit_of, group_at_of, child_towards}
use Rattle.walk_rules.specs.declared.walk.Walk.{Walk}
use Rattle.walk_rules.specs.declared.walk.WalkKind.TheVariants as kinds
use Rattle.walk_rules.specs.declared.walk.Stage.TheVariants as stages
use Rattle.walk_rules.specs.Edges.{HasPassed, IsSure, StandsAt, edge_of, passed_of, stand}
use Rattle.walk_rules.specs.Hierarchy.{IsHierarchy}
use Rattle.walk_rules.specs.Scene.{Group, HasBit, Scene, is_on}
use Rattle.walk_rules.specs.Stages.{joined_by}
use Rattle.walk_rules.specs.Clearing.{clears}
use Rattle.core_world.specs.Frames.{ChangesOnly}
use Rattle.core_world.specs.World.{is_reading}
use Rattle.core_laws.specs.Walks.Fit.{WalksFit}
use Rattle.core_laws.specs.Edges.Layer.{BitsFit, EdgesFit}
use Rattle.core_laws.proofs.Edges.Bits.{bits_step, known_step}
use Rattle.core_laws.proofs.Edges.Facts.{own_edge, group_edge, passed_on, through_group}
use Rattle.core_laws.proofs.Walks.Stands.{stands_in}
use Rattle.core_laws.proofs.Edges.Sets.{joined_law, joined_on, set_keeps, set_now, set_small, set_was}

-- the walk after it: it has passed the edge, and stands at the group's own edge where the group came on and has a
-- parent; else it stands nowhere
pub record Rises (t : Shape) (old new : Scene) (c n g : ℕ) : Type 0 where
  pub passed : passed_of (new.walk c) ≤ suc n
  pub edge : (edge_of (new.walk c) ≡ Some (suc n)) × ((old.group g).migrator ≡ None) ⊎
      ((edge_of (new.walk c) ≡ None) × (((old.group g).migrator ≡ None → group_at_of t c (suc n) ≡ None)))
  pub not_swapping : (k : Walk) → new.walk c ≡ Some k → k.stage ≡ stages.Swap → ⊥
  pub still_active : (k : Walk) → new.walk c ≡ Some k → k.kind ≡ kinds.Activate →
      (j : Walk) × (old.walk c ≡ Some j) × (j.kind ≡ kinds.Activate)

module _ (t : Shape) (h : IsHierarchy t) (old new : Scene) (walks : WalksFit t old) (c n g : ℕ) (e : Child) (ch : ChangesOnly t old new c g true) (f : EdgesFit t old)
    (child : child_towards t c n ≡ Some e) (here : group_at_of t c n ≡ Some g) (was_edge : edge_of (old.walk c) ≡ Some n) (was_passed : passed_of (old.walk c) ≡ n)
    (x : new.group g ≡ joined_by (old.group g) (bit_of t e)) (own_on : is_on new (of_cpu c) ≡ is_on old (of_cpu c)) (rises : Rises t old new c n g) where
  parent : parent_of t e ≡ Some g
  parent = sym (h.onwards c n e child) ∙ here

  stood : stand t old c ≡ Some e
  stood = ap (option_and_then (child_towards t c)) was_edge ∙ child

  stand_else : (d : ℕ) → d ≢ c → stand t new d ≡ stand t old d
  stand_else d ne = ap (λ m. option_and_then (child_towards t d) (edge_of m)) (ch.walk d ne)

  on_cpu : (d : ℕ) → is_on new (of_cpu d) ≡ is_on old (of_cpu d)
  on_cpu d = elim (cases_eq d c) [
    | inl same ↦ subst (λ k. is_on new (of_cpu k) ≡ is_on old (of_cpu k)) (sym same) own_on
    | inr ne ↦ (λ i. ch.online d ne i && not (ch.idle d ne i))
  ]

  group_on : is_on new (of_group g) ≡ true
  group_on = ap (λ (y : Group). is_some y.migrator) x ∙ joined_on (old.group g).migrator (bit_of t e)

  on_else : (y : ℕ) → y ≢ g → is_on new (of_group y) ≡ is_on old (of_group y)
  on_else y ne = ap (λ (z : Group). is_some z.migrator) (ch.group y ne)

  -- what was on is on
  still_on : (m : Child) → is_on old m ≡ true → is_on new m ≡ true
  still_on (sorts.Cpu d) on = on_cpu d.0 ∙ on
  still_on (sorts.Group y) on = elim (cases_eq y.0 g) [
    | inl same ↦ subst (λ k. is_on new (of_group k) ≡ true) (sym same) group_on
    | inr ne ↦ on_else y.0 ne ∙ on
  ]

  either : (b : Bool) → (b ≡ true) ⊎ (b ≡ false)
  either true = inl refl
  either false = inr refl

  was_off : (m : Child) → is_on new m ≡ false → is_on old m ≡ false
  was_off m off = elim (either (is_on old m)) [ inl on ↦ absurd (true≢false (sym (still_on m on) ∙ off)) | inr o ↦ o ]

  no_migrator : (m : Option ℕ) → is_some m ≡ false → m ≡ None
  no_migrator None z = refl
  no_migrator (Some m) z = absurd (true≢false z)

  -- only the group itself may have come on
  came_on : (m : Child) → is_on old m ≡ false → is_on new m ≡ true → (m ≡ of_group g) × ((old.group g).migrator ≡ None)
  came_on (sorts.Cpu d) off on = absurd (true≢false (sym on ∙ (on_cpu d.0 ∙ off)))
  came_on (sorts.Group y) off on = elim (cases_eq y.0 g) [
    | inl same ↦ (ap of_group same, no_migrator (old.group g).migrator (subst (λ k. is_some (old.group k).migrator ≡ false) same off))
    | inr ne ↦ absurd (true≢false (sym on ∙ (on_else y.0 ne ∙ off)))
  ]

  -- bits that were set are set, and now the child's
  set_more : (y k : ℕ) → IsActive (old.group y).active k → IsActive (new.group y).active k
  set_more y k set = elim (cases_eq y g) [
    | inl same ↦ subst (λ j. IsActive (new.group j).active k) (sym same)
        (subst (λ (z : Group). IsActive z.active k) (sym x) (set_keeps (old.group g).active (bit_of t e) k (subst (λ j. IsActive (old.group j).active k) same set)))
    | inr ne ↦ subst (λ (z : Group). IsActive z.active k) (sym (ch.group y ne)) set
  ]

  now_set : IsActive (new.group g).active (bit_of t e)
  now_set = subst (λ (z : Group). IsActive z.active (bit_of t e)) (sym x) (set_now (old.group g).active (bit_of t e))

  -- where the walk stands now
  stands_now : (m : Child) → stand t new c ≡ Some m → (m ≡ of_group g) × ((old.group g).migrator ≡ None)
  stands_now m at = elim rises.edge [
    | inl up ↦ (same_Some _ _ (sym at ∙ (ap (option_and_then (child_towards t c)) up.0 ∙ through_group t c n g here)), up.1)
    | inr none ↦ absurd (none-some m (sym (ap (option_and_then (child_towards t c)) none.0) ∙ at))
  ]

  own_stand : (d : ℕ) (m : Child) → d ≡ c → stand t new d ≡ Some m → (m ≡ of_group g) × ((old.group g).migrator ≡ None)
  own_stand d m same at = stands_now m (subst (λ k. stand t new k ≡ Some m) same at)

  group_was_off : (m : Child) → (m ≡ of_group g) × ((old.group g).migrator ≡ None) → is_on old m ≡ false
  group_was_off m p = ap (is_on old) p.0 ∙ ap is_some p.1

  -- nobody else stands where the walk stands now
  alone : (d : ℕ) (m : Child) → d ≢ c → (m ≡ of_group g) × ((old.group g).migrator ≡ None) → stand t new d ≡ Some m → ⊥
  alone d m ne p at = f.edges.quiet m d (group_was_off m p) (sym (stand_else d ne) ∙ at)

  -- a path that comes through the group comes there one level higher
  above : (k : ℕ) → child_towards t c k ≡ Some (of_group g) → k ≡ suc n
  above k at = let p = group_edge t c k g at in p.1 ∙ ap suc (h.one_level c c p.0 n g p.2 here)

  -- of another CPU
  has_else : (d : ℕ) (m : Child) (y : ℕ) → d ≢ c → HasPassed t new d m y → HasPassed t old d m y
  has_else d m y ne p = record { at = p.at; below = subst (λ k. p.at < passed_of k) (ch.walk d ne) p.below; child = p.child; parent = p.parent }

  -- of its own, what it had passed, or the edge that it has just passed
  has_own : (m : Child) (y : ℕ) → HasPassed t new c m y → HasPassed t old c m y ⊎ ((m ≡ e) × (y ≡ g))
  has_own m y p = elim (cases_lt p.at n) [
    | inl low ↦ inl (record { at = p.at; below = omega (arith, was_passed); child = p.child; parent = p.parent })
    | inr high ↦
        let at : p.at ≡ n = omega (arith, p.below, rises.passed) in
        inr (same_Some _ _ (sym (subst (λ k. child_towards t c k ≡ Some m) at p.child) ∙ child), same_Some _ _ (sym (subst (λ k. group_at_of t c k ≡ Some y) at p.parent) ∙ here))
  ]

  -- the edge of a group that came on was passed by nobody
  not_passed : (d : ℕ) (m : Child) (y : ℕ) → (m ≡ of_group g) × ((old.group g).migrator ≡ None) → HasPassed t old d m y → ⊥
  not_passed d m y p q = true≢false (sym (passed_on t old walks h f.groups f.edges d m y q) ∙ group_was_off m p)

  sure_else : (d : ℕ) (k : Walk) (m : Child) → IsSure t new d k m → (d ≢ c) × IsSure t old d k m
  sure_else d k m sure =
      let ne : d ≢ c = λ same. rises.not_swapping k (subst (λ j. new.walk j ≡ Some k) same sure.walk) sure.swapping in
      (ne, record { walk = sym (ch.walk d ne) ∙ sure.walk; swapping = sure.swapping; fresh = ch.fresh d ne sure.fresh; saw_off = sure.saw_off; child = sure.child })

  -- another walk that read the group's word is stale
  not_sure : (d : ℕ) (k : Walk) → IsSure t new d k e → ⊥
  not_sure d k sure =
      let q = sure_else d k e sure in
      let at : group_at_of t d k.level ≡ Some g = h.onwards d k.level e sure.child ∙ parent in
      let reading : is_reading k.stage ≡ true = ap is_reading sure.swapping in
      true≢false (sym sure.fresh ∙ ch.stale refl d k q.0 q.1.walk reading at)

  stays_at : (m : Child) → StandsAt t old m → (m ≢ e) → StandsAt t new m
  stays_at m o other = elim (cases_eq o.0 c) [
    | inl same ↦ absurd (other (same_Some _ _ (sym (subst (λ k. stand t old k ≡ Some m) same o.1) ∙ stood)))
    | inr ne ↦ (o.0, stand_else o.0 ne ∙ o.1)
  ]

  -- the walk goes on to the edge of a group that came on and has a parent
  climbs : (m : Child) (y : ℕ) → (m ≡ of_group g) × ((old.group g).migrator ≡ None) → parent_of t m ≡ Some y → StandsAt t new m
  climbs m y p up = elim rises.edge [
    | inl edge ↦ (c, ap (option_and_then (child_towards t c)) edge.0 ∙ (through_group t c n g here ∙ ap Some (sym p.0)))
    | inr none ↦
        absurd (none-some y (sym (none.1 p.1) ∙ (h.onwards c (suc n) (of_group g) (through_group t c n g here) ∙ (ap (parent_of t) (sym p.0) ∙ up))))
  ]

  not_finish : stages.Swap ≡ stages.Finish → ⊥
  not_finish z = cc

  joined_child : (k : ℕ) → IsActive (new.group g).active k → (m : Child) × (parent_of t m ≡ Some g) × (bit_of t m ≡ k)
  joined_child k set = elim (set_was (old.group g).active (bit_of t e) k (subst (λ (z : Group). IsActive z.active k) x set)) [
    | inl same ↦ (e, parent, sym same)
    | inr was ↦ f.groups.children g k was
  ]

  same_child_not : (m : Child) (y : ℕ) → parent_of t m ≡ Some y → (IsActive (new.group y).active (bit_of t m) → ⊥) → m ≢ e
  same_child_not m y up unset same =
      let at : y ≡ g = same_Some _ _ (sym up ∙ (ap (parent_of t) same ∙ parent)) in
      unset (subst (λ k. IsActive (new.group k).active (bit_of t m)) (sym at) (subst (λ k. IsActive (new.group g).active (bit_of t k)) (sym same) now_set))

  pub rise_fit : EdgesFit t new
  rise_fit = record {
    groups = record {
      law = λ y. elim (cases_eq y g) [
        | inl same ↦ subst (λ k. GroupLaw (new.group k).active (new.group k).migrator) (sym same)
            (subst (λ (z : Group). GroupLaw z.active z.migrator) (sym x) (joined_law (old.group g).active (bit_of t e) (old.group g).migrator (f.groups.law g)))
        | inr ne ↦ subst (λ (z : Group). GroupLaw z.active z.migrator) (sym (ch.group y ne)) (f.groups.law y)
      ];
      eight = λ y. elim (cases_eq y g) [
        | inl same ↦ subst (λ k. (new.group k).active < 256) (sym same)
            (subst (λ (z : Group). z.active < 256) (sym x) (set_small (old.group g).active (bit_of t e) (f.groups.eight g) (h.eight e)))
        | inr ne ↦ subst (λ (z : Group). z.active < 256) (sym (ch.group y ne)) (f.groups.eight y)
      ];
      children = λ y k set. elim (cases_eq y g) [
        | inl same ↦ subst (λ j. (m : Child) × (parent_of t m ≡ Some j) × (bit_of t m ≡ k)) (sym same) (joined_child k (subst (λ j. IsActive (new.group j).active k) same set))
        | inr ne ↦ f.groups.children y k (subst (λ (z : Group). IsActive z.active k) (ch.group y ne) set)
      ];
    };
    edges = record {
      quiet = λ m d off at. elim (cases_eq d c) [
        | inl same ↦ true≢false (sym (subst (λ z. is_on new z ≡ true) (sym (own_stand d m same at).0) group_on) ∙ off)
        | inr ne ↦ f.edges.quiet m d (was_off m off) (sym (stand_else d ne) ∙ at)
      ];
      once = λ m d k at at'. elim (cases_eq d c) [
        | inl same ↦ elim (cases_eq k c) [ inl same' ↦ same ∙ sym same' | inr ne' ↦ absurd (alone k m ne' (own_stand d m same at) at') ]
        | inr ne ↦ elim (cases_eq k c) [
          | inl same' ↦ absurd (alone d m ne (own_stand k m same' at') at)
          | inr ne' ↦ f.edges.once m d k (sym (stand_else d ne) ∙ at) (sym (stand_else k ne') ∙ at')
        ]
      ];
      needs = λ m y up on unset. elim (either (is_on old m)) [
        | inl was ↦ stays_at m (f.edges.needs m y up was (λ set. unset (set_more y (bit_of t m) set))) (same_child_not m y up unset)
        | inr off ↦ climbs m y (came_on m off on) up
      ];
      active = λ d k is kind. elim (cases_eq d c) [
        | inl same ↦
            let j = rises.still_active k (subst (λ i. new.walk i ≡ Some k) same is) kind in
            subst (λ i. is_on new (of_cpu i) ≡ true) (sym same) (own_on ∙ f.edges.active c j.0 j.1 j.2)
        | inr ne ↦ on_cpu d ∙ f.edges.active d k (sym (ch.walk d ne) ∙ is) kind
      ];
      passed = λ d m y p. elim (cases_eq d c) [
        | inl same ↦ elim (has_own m y (subst (λ k. HasPassed t new k m y) same p)) [
          | inl was ↦ set_more y (bit_of t m) (f.edges.passed c m y was)
          | inr own ↦ subst (λ k. IsActive (new.group k).active (bit_of t m)) (sym own.1) (subst (λ k. IsActive (new.group g).active (bit_of t k)) (sym own.0) now_set)
        ]
        | inr ne ↦ set_more y (bit_of t m) (f.edges.passed d m y (has_else d m y ne p))
      ];
      behind = λ d k m y p at. elim (cases_eq d c) [
        | inl same ↦
            let own = subst (λ j. HasPassed t new j m y) same p in
            elim (cases_eq k c) [
              | inl same' ↦
                  let s = own_stand k m same' at in
                  let high = above own.at (own.child ∙ ap Some s.0) in
                  absurd (omega (arith, high, own.below, rises.passed))
              | inr ne' ↦ elim (has_own m y own) [
                | inl was ↦ f.edges.behind c k m y was (sym (stand_else k ne') ∙ at)
                | inr just ↦ ne' (f.edges.once e k c (sym (stand_else k ne') ∙ (at ∙ ap Some just.0)) stood)
              ]
            ]
        | inr ne ↦ elim (cases_eq k c) [
          | inl same' ↦ not_passed d m y (own_stand k m same' at) (has_else d m y ne p)
          | inr ne' ↦ f.edges.behind d k m y (has_else d m y ne p) (sym (stand_else k ne') ∙ at)
        ]
      ];
    };
    reads = λ d k m sure.
        let q = sure_else d k m sure in
        let other : m ≢ e = λ same. not_sure d k (subst (λ j. IsSure t new d k j) same sure) in
        elim (f.reads d k m q.1) [
          | inl off ↦ elim (either (is_on new m)) [
            | inl on ↦
                let came = came_on m off on in
                let at = stands_in t old walks d k q.1.walk (λ z. not_finish (sym sure.swapping ∙ z)) in
                inr (climbs m at.0 came (sym (h.onwards d k.level m sure.child) ∙ at.1))
            | inr off' ↦ inl off'
          ]
          | inr stands ↦ inr (stays_at m stands other)
        ];
  }

  -- the child is active, as an activation stood at its edge
  child_on : is_on old e ≡ true
  child_on = elim (either (is_on old e)) [ inl on ↦ on | inr off ↦ absurd (f.edges.quiet e c off stood) ]

  -- each other child's bit is as it was
  bit_was : (m : Child) (y : ℕ) → parent_of t m ≡ Some y → m ≢ e → HasBit t new m y → HasBit t old m y
  bit_was m y up ne set = elim (cases_eq y g) [
    | inl same ↦ elim (set_was (old.group g).active (bit_of t e) (bit_of t m) (subst (λ (z : Group). IsActive z.active (bit_of t m)) x (subst (λ j. IsActive (new.group j).active (bit_of t m)) same set))) [
      | inl bit ↦ absurd (ne (h.apart m e g (up ∙ ap Some same) parent bit))
      | inr was ↦ subst (λ j. IsActive (old.group j).active (bit_of t m)) (sym same) was
    ]
    | inr other ↦ subst (λ (z : Group). IsActive z.active (bit_of t m)) (ch.group y other) set
  ]

  off_not_child : (m : Child) → is_on new m ≡ false → m ≢ e
  off_not_child m off same = true≢false (sym (subst (λ z. is_on new z ≡ true) (sym same) (still_on e child_on)) ∙ off)

  pub rise_bits : ((m : Child) → clears t old c ≡ Some m → ⊥) → BitsFit t old → BitsFit t new
  rise_bits no_claim b = record {
    bits = bits_step t old new c g true ch b.bits
        (λ m y up off bit. inl (was_off m off, bit_was m y up (off_not_child m off) bit))
        (λ m y up off bit claim. absurd (no_claim m claim))
        (λ y p up off head.
        (let at : y ≡ g = same_Some _ _ (sym head ∙ (ap (option_and_then (group_at_of t c)) was_edge ∙ here)) in
        absurd (true≢false (sym (subst (λ j. is_on new (of_group j) ≡ true) (sym at) group_on) ∙ off))));
    known = known_step t old new c g true ch b.known (λ a ne. on_cpu a)
        (λ a y ne up bit. bit_was (of_cpu a) y up (λ same. ne (sym (own_edge t c n a (child ∙ ap Some (sym same))))) bit)
        (λ y up on bit at. (let p = (stands_now (of_cpu c) at).0 in not_group p));
  }
    where
      not_group : of_cpu c ≡ of_group g → ⊥
      not_group p = cc

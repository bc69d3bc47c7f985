-- the migrators that a walk leaves are those that Play's rest makes
use Rattle.std.proofs.Common.{◌≡◌, ◌⊎◌, inl, inr, ℕ, zero, suc, ◌^◌, ◌<◌, Bool, true, false, cond}
use Rattle.std.proofs.Common.{List, [], ◌∷◌, Option, Some, None, length, refl, sym, ap, ◌∙◌, subst}
use Rattle.std.proofs.Common.{arith}
use Rattle.std.specs.Prelude.{◌&&◌, ◌==◌, not, nat_lt, option_map, position, slice_get}
use Rattle.std.specs.Int.{trailing_zeros, w8}
use Rattle.std.specs.List.{position_or_len}
use Rattle.std.specs.Option.{option_map_or}
use Rattle.std.proofs.lemmas.Bool.{and_left, and_right, cases_Bool, cases_eq, cond-false, cond-true}
use Rattle.std.proofs.lemmas.Bool.{eq-eqb, eqb-false, eqb-true, le-ltb, lt-ltb, ne_eqb}
use Rattle.std.proofs.lemmas.Option.{none-some, same_Some, slice_get_within}
use Rattle.group_word.specs.Group.{GroupLaw, IsActive, IsLowest}
use Rattle.group_word.specs.State.{lowest_child, migrator_without, without_child}
use Rattle.group_word.proofs.Children.{law_none, lowest_there}
use Rattle.tm_base.specs.declared.names.Child.{Child}
use Rattle.tree_plan.specs.Paths.{bit_of, child_at, child_towards, children_of, group_at_of}
use Rattle.tree_plan.specs.Paths.{is_below, level_of, parent_of}
use Rattle.tree_plan.proofs.Below.{below_laws, paths}
use Rattle.tree_plan.proofs.Trees.{edge_laws}
use Rattle.play_rules.specs.State.{Cpu, State, migrator_at}
use Rattle.play_rules.specs.Hierarchy.{child_active, gives_up, inactive_child, is_number}
use Rattle.play_rules.specs.Hierarchy.{lowest_active_child, rested_migrator, towards}
use Rattle.walk_rules.specs.Hierarchy.{side}
use Rattle.walk_rules.specs.Scene.{is_on}
use Rattle.core_facts.proofs.core_laws.Edges.Sets.{left_gone}
use Rattle.core_world.specs.World.{World, group_of, scene_of}
use Rattle.step_play.specs.Queues.AtRest.{AtRest}
use Rattle.step_play.proofs.Queues.Active.{on_set, set_on}
use Rattle.step_play.proofs.Telling.Telling.{IsLeft, Stays}

and_true : (b : Bool) → (b && true) ≡ b
and_true true = refl
and_true false = refl

-- THE FIRST that passes a test
place_at : {X : Type 0} (p : X → Bool) (xs : List X) (k : ℕ) (x : X) → slice_get xs k ≡ Some x →
    p x ≡ true → ((j : ℕ) (y : X) → j < k → slice_get xs j ≡ Some y → p y ≡ false) →
    position_or_len p xs ≡ k
place_at p [] k x at is lower = absurd (none-some x at)
place_at p (y ∷ xs) zero x at is lower =
    let here : p y ≡ true = ap p (same_Some _ _ at) ∙ is in
    rw here refl
place_at p (y ∷ xs) (suc k) x at is lower =
    let off = lower 0 y (omega arith) refl in
    let rest = place_at p xs k x at is (λ j z low there. lower (suc j) z (omega arith) there) in
    rw off (omega (arith, rest))

none_at : {X : Type 0} (p : X → Bool) (xs : List X) →
    ((j : ℕ) (y : X) → slice_get xs j ≡ Some y → p y ≡ false) → position_or_len p xs ≡ length xs
none_at p [] off = refl
none_at p (y ∷ xs) off =
    let here = off 0 y refl in
    let rest = none_at p xs (λ j z there. off (suc j) z there) in
    rw here (omega (arith, rest))

first_at : {X : Type 0} (p : X → Bool) (xs : List X) (k : ℕ) (x : X) → slice_get xs k ≡ Some x →
    p x ≡ true → ((j : ℕ) (y : X) → j < k → slice_get xs j ≡ Some y → p y ≡ false) →
    position p xs ≡ Some k
first_at p xs k x at is lower =
    ap (λ n. cond (nat_lt n (length xs)) (Some n) None) (place_at p xs k x at is lower)
    ∙ cond-true (nat_lt k (length xs)) (Some k) None
    (lt-ltb k (length xs) (slice_get_within xs k x at))

first_none : {X : Type 0} (p : X → Bool) (xs : List X) →
    ((j : ℕ) (y : X) → slice_get xs j ≡ Some y → p y ≡ false) → position p xs ≡ None
first_none p xs off =
    ap (λ n. cond (nat_lt n (length xs)) (Some n) None) (none_at p xs off)
    ∙ cond-false (nat_lt (length xs) (length xs)) (Some (length xs)) None
    (le-ltb (length xs) (length xs) (omega arith))

-- the lowest child of a set is its lowest
is_lowest : (a : ℕ) → a < 2 ^ 8 → IsLowest a (lowest_child a)
is_lowest a few = by_none (a == 0) refl
  where
    by_none : (b : Bool) → (a == 0) ≡ b → IsLowest a (cond b None (Some (trailing_zeros w8 a)))
    by_none true e = (law_none a).0 e
    by_none false e = lowest_there a (eqb-false a 0 e) few

module _ {w : World} (r : AtRest w) (clock timers : ℕ) (cpus : List Cpu)
    (migrators : List (Option ℕ)) where
  abbrev pub q : State
  q = record { clock = clock; timers = timers; tree = w.tree; cpus = cpus; migrators = migrators }

  module _ (old : World) (c : ℕ) (active : (m : Child) → child_active q m ≡ is_on (scene_of w) m)
      (before : (g : ℕ) → migrator_at q g ≡ (group_of old g).migrator) where
    -- the child towards the CPU
    towards_is : (l g : ℕ) (m : Child) → group_at_of w.tree c l ≡ Some g →
        child_towards w.tree c l ≡ Some m → towards w.tree c g ≡ Some m
    towards_is l g m at child =
        ap (λ b. cond b (child_towards w.tree c (level_of w.tree g)) None)
        (((below_laws w.tree r.planned).tested_below c g).1 (l, at))
        ∙ (ap (child_towards w.tree c) ((paths w.tree r.planned).level c l g at) ∙ child)

    parent_is : (g : ℕ) (m : Child) → towards w.tree c g ≡ Some m → parent_of w.tree m ≡ Some g
    parent_is g m e = by_below (is_below w.tree c g) refl e
      where
        by_below : (b : Bool) → is_below w.tree c g ≡ b →
            cond b (child_towards w.tree c (level_of w.tree g)) None ≡ Some m →
            parent_of w.tree m ≡ Some g
        by_below false apart is = absurd (none-some m is)
        by_below true under is =
            let (l, at) = ((below_laws w.tree r.planned).tested_below c g).0 under in
            let level = (paths w.tree r.planned).level c l g at in
            sym ((paths w.tree r.planned).onwards c l m
            (ap (child_towards w.tree c) (sym level) ∙ is)) ∙ at

    -- the lowest active child
    lowest_is : (g : ℕ) → lowest_active_child q g ≡ lowest_child (group_of w g).active
    lowest_is g = by_lowest (lowest_child (group_of w g).active)
        (is_lowest (group_of w g).active (r.lawful.groups.eight g))
      where
        off : (j : ℕ) (y : Child) → child_at w.tree g j ≡ Some y →
            (IsActive (group_of w g).active j → ⊥) → child_active q y ≡ false
        off j y at unset = elim (cases_Bool (child_active q y)) [
          | inl on ↦
              let edges = edge_laws w.tree r.planned in
              let set = on_set w r y g (edges.parent g j y at) (sym (active y) ∙ on) in
              absurd (unset (subst (IsActive (group_of w g).active) (edges.bit g j y at) set))
          | inr is ↦ is
        ]

        by_lowest : (o : Option ℕ) → IsLowest (group_of w g).active o →
            position (child_active q) (children_of w.tree g) ≡ o
        by_lowest None none = first_none (child_active q) (children_of w.tree g)
            (λ j y at. off j y at (none j))
        by_lowest (Some k) (set, lower) =
            let m = r.lawful.groups.children g k set in
            let at = ap (child_at w.tree g) (sym m.2)
            ∙ (edge_laws w.tree r.planned).child g m.0 m.1 in
            let on = set_on w r m.0 g m.1 (subst (IsActive (group_of w g).active) (sym m.2) set) in
            first_at (child_active q) (children_of w.tree g) k m.0 at (active m.0 ∙ on)
            (λ j y low there. off j y there (lower j low))

    -- a word that stayed gives nothing up
    keeps : (g : ℕ) (m : Option ℕ) → (group_of w g).migrator ≡ m → gives_up q c g m ≡ false
    keeps g None e = refl
    keeps g (Some k) e = by_child (towards w.tree c g) refl
      where
        set : IsActive (group_of w g).active k
        set = subst (GroupLaw (group_of w g).active) e (r.lawful.groups.law g)

        by_child : (o : Option Child) → towards w.tree c g ≡ o →
            (is_number (option_map (bit_of w.tree) o) k && inactive_child q o) ≡ false
        by_child None is = refl
        by_child (Some m) is = elim (cases_Bool (bit_of w.tree m == k)) [
          | inl same ↦
              let bit = eqb-true (bit_of w.tree m) k same in
              let on = set_on w r m g (parent_is g m is)
              (subst (IsActive (group_of w g).active) (sym bit) set) in
              and_right (bit_of w.tree m == k) (not (child_active q m)) (ap not (active m ∙ on))
          | inr apart ↦ and_left (bit_of w.tree m == k) (not (child_active q m)) apart
        ]

    stays_role : (g : ℕ) → Stays old w g → rested_migrator q c g ≡ (group_of w g).migrator
    stays_role g s =
        let same : migrator_at q g ≡ (group_of w g).migrator = before g ∙ sym s.migrator in
        cond-false (gives_up q c g (migrator_at q g)) (lowest_active_child q g) (migrator_at q g)
        (keeps g (migrator_at q g) (sym same)) ∙ same

    -- a word that was left
    module _ (n : ℕ) (leaves : Bool) (g : ℕ) (l : IsLeft old w c n leaves g) where
      abbrev b : ℕ
      b = side w.tree c l.level

      child : (m : Child) × (child_towards w.tree c l.level ≡ Some m)
      child = r.lawful.hierarchy.towards c l.level g l.there

      bit_is : bit_of w.tree child.0 ≡ b
      bit_is = sym (ap (λ o. option_map_or (bit_of w.tree) o 0) child.1)

      parent : parent_of w.tree child.0 ≡ Some g
      parent = sym (r.lawful.hierarchy.onwards c l.level child.0 child.1) ∙ l.there

      off : child_active q child.0 ≡ false
      off = elim (cases_Bool (child_active q child.0)) [
        | inl on ↦
            let set = on_set w r child.0 g parent (sym (active child.0) ∙ on) in
            let gone = subst (λ a. IsActive a (bit_of w.tree child.0)) l.active set in
            absurd (left_gone (group_of old g).active b
            (subst (λ k. k < 8) bit_is (r.lawful.hierarchy.eight child.0))
            (subst (IsActive (without_child (group_of old g).active b)) bit_is gone))
        | inr is ↦ is
      ]

      gives : (k : ℕ) → gives_up q c g (Some k) ≡ (b == k)
      gives k =
          ap (λ o. is_number (option_map (bit_of w.tree) o) k && inactive_child q o)
          (towards_is l.level g child.0 l.there child.1)
          ∙ ((λ i. (bit_is i == k) && not (off i)) ∙ and_true (b == k))

      left_role : (m : Option ℕ) → (group_of old g).migrator ≡ m →
          cond (gives_up q c g m) (lowest_active_child q g) m
          ≡ migrator_without m b (without_child (group_of old g).active b)
      left_role None e = refl
      left_role (Some k) e = elim (cases_eq k b) [
        | inl same ↦
            let here : (k == b) ≡ true = eq-eqb k b same in
            cond-true (gives_up q c g (Some k)) (lowest_active_child q g) (Some k)
            (gives k ∙ eq-eqb b k (sym same))
            ∙ (lowest_is g ∙ (ap lowest_child l.active
            ∙ sym (cond-true (k == b) (lowest_child (without_child (group_of old g).active b))
            (Some k) here)))
        | inr ne ↦
            cond-false (gives_up q c g (Some k)) (lowest_active_child q g) (Some k)
            (gives k ∙ ne_eqb b k (λ same. ne (sym same)))
            ∙ sym (cond-false (k == b) (lowest_child (without_child (group_of old g).active b))
            (Some k) (ne_eqb k b ne))
      ]

    pub role : (n : ℕ) (leaves : Bool) (g : ℕ) → Stays old w g ⊎ IsLeft old w c n leaves g →
        rested_migrator q c g ≡ (group_of w g).migrator
    role n leaves g (inl s) = stays_role g s
    role n leaves g (inr l) =
        ap (λ m. cond (gives_up q c g m) (lowest_active_child q g) m) (before g)
        ∙ (left_role n leaves g l (group_of old g).migrator refl ∙ sym l.migrator)

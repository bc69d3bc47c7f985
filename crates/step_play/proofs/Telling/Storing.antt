-- a walk writes its child's event into its group
use Rattle.std.proofs.Common.{◌≡◌, ◌≢◌, ◌⊎◌, inl, inr, ℕ, suc, ◌<◌, ◌≤◌, Bool, true, false}
use Rattle.std.proofs.Common.{cond, Option, Some, None, length, refl, sym, ap, ◌∙◌, arith}
use Rattle.std.proofs.Common.{get_or-set_other, get_or-set_same}
use Rattle.std.specs.Prelude.{is_none}
use Rattle.std.specs.Option.{option_map_or}
use Rattle.std.proofs.lemmas.Bool.{cases_eq, cond-false}
use Rattle.std.proofs.lemmas.Option.{same_Some}
use Rattle.tm_base.specs.declared.names.TheConstants.{NEVER}
use Rattle.tm_base.specs.declared.names.Child.{Child}
use Rattle.tm_base.specs.Children.{of_cpu, of_group}
use Rattle.event_queue.specs.EventMap.{event_at}
use Rattle.tree_plan.specs.Paths.{bit_of, child_towards, group_at_of, parent_of}
use Rattle.walk_rules.specs.declared.walk.Walk.{Walk}
use Rattle.walk_rules.specs.declared.walk.Stage.{Stage}
use Rattle.walk_rules.specs.declared.walk.Stage.TheVariants as stages
use Rattle.walk_rules.specs.Hierarchy.{group_on, side}
use Rattle.walk_rules.specs.Scene.{Group}
use Rattle.walk_rules.specs.Stages.{at_stage, best_event, stored_event, with_event}
use Rattle.walk_rules.specs.Standing.{is_leaving}
use Rattle.core_facts.specs.core_laws.Laws.{StepsStayLawful}
use Rattle.core_world.specs.Lawful.{IsLawful}
use Rattle.core_world.specs.Steps.{here, walked, with_walk}
use Rattle.core_world.specs.World.{CpuRecord, World, cpu_of, group_of}
use Rattle.core_world.proofs.Moves.{moved_laws}
use Rattle.core_facts.proofs.core_laws.Edges.Facts.{group_edge, own_child, own_edge, through_group}
use Rattle.step_play.specs.Rules.Live.{counting, first, first_in, live, told_by, told_of}
use Rattle.step_play.proofs.Activation.Firsts.{best_first, counting_first}
use Rattle.step_play.proofs.Activation.Touches.{ExactAt, slot_stays, tells, tells_else}
use Rattle.step_play.proofs.Activation.Touches.{touch_slot_told}
use Rattle.step_play.proofs.Activation.Touches.{touch_told}
use Rattle.step_play.proofs.Telling.Slots.{least_live}
use Rattle.step_play.proofs.Telling.Standing.{eight, sees_on, there, under}
use Rattle.step_play.proofs.Telling.Staying.{below_at, edges_at, fields_at, framed, further}
use Rattle.step_play.proofs.Telling.Staying.{lawful_after}
use Rattle.step_play.proofs.Telling.Staying.{migrator_same, stepping, words_at, words_same}
use Rattle.step_play.proofs.Telling.Telling.{Fields, IsFurther, Open, Sees, Tells, is_under_way}
use Rattle.step_play.proofs.Telling.Telling.{left_levels, looks, way}
use Rattle.step_play.proofs.Telling.Telling.Open.{lower, upper}

-- the stage that follows, by whether it looks through the top
abbrev next : Bool → Stage
next more = cond more (stages.First 0) stages.FreeGroup

under_way : (more : Bool) → is_under_way (next more) ≡ true
under_way true = refl
under_way false = refl

left_now : (l : ℕ) (more : Bool) → suc l ≤ left_levels l (next more)
left_now l true = omega arith
left_now l false = omega arith

later : (l : ℕ) (more : Bool) → way l stages.Store < way l (next more)
later l true = omega arith
later l false = omega arith

module _ (laws : StepsStayLawful) {old w : World} {c : ℕ} {made k : Walk}
    (t : Tells old c made w k) (at : k.stage ≡ stages.Store) where
  f : Fields w c k stages.Store
  f = fields_at t stages.Store at

  abbrev g : ℕ
  g = here w c k

  abbrev b : ℕ
  b = side w.tree c k.level

  abbrev x : Group
  x = with_event (group_of w g) b (stored_event k.level c k)

  path : group_at_of w.tree c k.level ≡ Some g
  path = there t stages.Store at refl

  in_range : g < length w.groups
  in_range =
      let low = t.frame.lawful.hierarchy.within c k.level g path in
      omega (arith, low, t.frame.lawful.sized.groups)

  others : (i : ℕ) → i ≢ b → event_at x.events i ≡ event_at (group_of w g).events i
  others i ne = get_or-set_other (group_of w g).events b i (stored_event k.level c k) None ne

  -- the child through which the path comes there, by its number
  towards : (m : Child) → parent_of w.tree m ≡ Some g → bit_of w.tree m ≡ b →
      child_towards w.tree c k.level ≡ Some m
  towards m parent bit =
      let h = t.frame.lawful.hierarchy in
      let own = h.towards c k.level g path in
      let bit_is : b ≡ bit_of w.tree own.0 =
      ap (λ o. option_map_or (bit_of w.tree) o 0) own.1 in
      let up = sym (h.onwards c k.level own.0 own.1) ∙ path in
      own.1 ∙ ap Some (sym (h.apart m own.0 g parent up (bit ∙ bit_is)))

  -- a CPU whose slot that is
  own_slot : (d : ℕ) → group_at_of w.tree d 0 ≡ Some g → side w.tree d 0 ≡ b → c ≡ d
  own_slot d leaf bit =
      let up = sym (t.frame.lawful.hierarchy.onwards d 0 (of_cpu d) (own_child w.tree d)) ∙ leaf in
      let number = sym (ap (λ o. option_map_or (bit_of w.tree) o 0) (own_child w.tree d)) ∙ bit in
      own_edge w.tree c k.level d (towards (of_cpu d) up number)

  module _ (more : Bool) where
    abbrev j : Walk
    j = at_stage k (next more)

    abbrev mine : CpuRecord
    mine = with_walk (cpu_of w c) (Some j)

    abbrev new : World
    new = stepping w c g x j false

    role : (h : ℕ) → (group_of new h).migrator ≡ (group_of w h).migrator
    role h = migrator_same w c g x j false refl h

    -- what other CPUs told their leaves stays
    told : (d : ℕ) → d ≢ c → told_by new d ≡ told_by w d
    told d ne = touch_told w g x c mine false b others d
        (λ leaf bit. ne (sym (own_slot d leaf bit)))

    -- THE CHILD'S EDGE is told now
    slot_is : (y l : ℕ) → k.level ≡ suc l → group_on w.tree c l ≡ y → live new g b ≡ first w y
    slot_is y l up is =
        let number : b < 8 =
        (let own = t.frame.lawful.hierarchy.towards c k.level g path in
        let bit_is : b ≡ bit_of w.tree own.0 =
        ap (λ o. option_map_or (bit_of w.tree) o 0) own.1 in
        omega (arith, bit_is, t.frame.lawful.hierarchy.eight own.0)) in
        let long = eight t k.level g path in
        let stored : stored_event k.level c k ≡ best_event (first w y) =
        ap (λ n. stored_event n c k) up ∙ ap best_event (f.2 l up ∙ ap (first w) is) in
        ap (λ (z : Group). counting (event_at z.events b))
        ((moved_laws w g x c mine false).group in_range)
        ∙ (ap counting (get_or-set_same (group_of w g).events b (stored_event k.level c k) None
        (omega (arith, long, number)) ∙ stored)
        ∙ (ap counting (best_first (group_of w y).events) ∙ counting_first (group_of w y).events))

    closed : (y l : ℕ) → k.level ≡ suc l → group_at_of w.tree c l ≡ Some y → ExactAt new y
    closed y l up at_l p parent =
        let h = t.frame.lawful.hierarchy in
        let child : child_towards w.tree c k.level ≡ Some (of_group y) =
        ap (child_towards w.tree c) up ∙ through_group w.tree c l y at_l in
        let p_is : g ≡ p =
        same_Some _ _ (sym path ∙ (h.onwards c k.level (of_group y) child ∙ parent)) in
        let bit_is : b ≡ bit_of w.tree (of_group y) =
        ap (λ o. option_map_or (bit_of w.tree) o 0) child in
        let y_is : group_on w.tree c l ≡ y =
        same_Some _ _ (sym (under t l up path) ∙ at_l) in
        let apart : y ≢ g = λ same.
        let one = h.one_level c c l k.level g (at_l ∙ ap Some same) path in
        omega (arith, one, up) in
        let off : (group_of w y).migrator ≡ None =
        ap (λ n. (group_of w n).migrator) (sym y_is)
        ∙ below_at t stages.Store at refl l up in
        let told_is : told_of new y ≡ first w y =
        tells_else w g x c mine false y apart ∙ ap (λ o. cond (is_none o) (first w y) None) off in
        (λ i. live new (sym p_is i) (sym bit_is i)) ∙ (slot_is y l up y_is ∙ sym told_is)

    -- THE GROUP'S OWN EDGE may be open, where the group is inactive
    own_edge_at : (y : ℕ) → y ≡ g → ExactAt w y → (m : Option ℕ) → (group_of w y).migrator ≡ m →
        Open new c k.level (next more) y ⊎ ExactAt new y
    own_edge_at y same e None off =
        inl (upper (under_way more) (path ∙ ap Some (sym same)) (role y ∙ off))
    own_edge_at y same e (Some m) on =
        let here_on = ap (λ n. (group_of w n).migrator) (sym same) ∙ on in
        let quiet : tells x ≡ tells (group_of w g) =
        ap (λ o. cond (is_none o) (first_in x.events) None) here_on
        ∙ sym (ap (λ o. cond (is_none o) (first w g) None) here_on) in
        inr (touch_slot_told w g x c mine false b others quiet y rising e)
      where
        rising : parent_of w.tree (of_group y) ≡ Some g → bit_of w.tree (of_group y) ≢ b
        rising parent bit =
            let h = t.frame.lawful.hierarchy in
            let up : group_at_of w.tree c (suc k.level) ≡ Some g =
            h.onwards c (suc k.level) (of_group y)
            (through_group w.tree c k.level y (path ∙ ap Some (sym same))) ∙ parent in
            let one = h.one_level c c (suc k.level) k.level g up path in
            omega (arith, one)

    -- another edge is the child's, or stays
    else_edge : (y : ℕ) → y ≢ g → ExactAt w y → ExactAt new y
    else_edge y ne e p parent = elim (cases_eq p g) [
      | inl up ↦ elim (cases_eq (bit_of w.tree (of_group y)) b) [
        | inl bit ↦
            let l = group_edge w.tree c k.level y
            (towards (of_group y) (parent ∙ ap Some up) bit) in
            closed y l.0 l.1 l.2 p parent
        | inr apart ↦ stays (λ _. apart)
      ]
      | inr off ↦ stays (λ up. absurd (off up))
    ]
      where
        stays : (p ≡ g → bit_of w.tree (of_group y) ≢ b) →
            live new p (bit_of w.tree (of_group y)) ≡ told_of new y
        stays apart =
            slot_stays w g x c mine false b others p (bit_of w.tree (of_group y)) apart
            ∙ (e p parent ∙ sym (tells_else w g x c mine false y ne))

    edge : (y : ℕ) → Open w c k.level stages.Store y ⊎ ExactAt w y →
        Open new c k.level (next more) y ⊎ ExactAt new y
    edge y (inl (lower l up before at_l)) = inr (closed y l up at_l)
    edge y (inl (upper on at_l off)) = inl (upper (under_way more) at_l (role y ∙ off))
    edge y (inr e) = elim (cases_eq y g) [
      | inl same ↦ own_edge_at y same e (group_of w y).migrator refl
      | inr ne ↦ inr (else_edge y ne e)
    ]

    saw : Sees new c j
    saw = record { on = sees_on w c k g x j refl f.1; over = f.1.over }

    tells_now : IsLawful new → Fields new c j (next more) → Tells old c made new j
    tells_now lawful fields = record {
      frame = framed t g x j false lawful refl;
      words = words_same w c g x j false old refl refl (suc k.level)
          (left_levels k.level (next more)) (left_now k.level more) (is_leaving made.kind)
          (words_at t stages.Store at);
      told = λ d ne. told d ne ∙ t.told d ne;
      edges = λ y. edge y (edges_at t stages.Store at y);
      below = λ on l e. role (group_on w.tree c l)
          ∙ below_at t stages.Store at refl l e;
      fields = fields;
    }

    goes : IsLawful new → Fields new c j (next more) → IsFurther old c made k new
    goes lawful fields =
        further t stages.Store at new j (tells_now lawful fields)
        (later k.level more)

  by_looks : (more : Bool) → looks w c k ≡ more → IsLawful (new more) →
      IsFurther old c made k (new more)
  by_looks true e lawful = goes true lawful (saw true, e, f.0)
  by_looks false e lawful = goes false lawful (record {
    sees = saw false;
    first = f.0 ∙ sym (cond-false (looks w c k) (least_live (group_of (new false) g).events)
        NEVER e);
  })

  pub store : IsFurther old c made k (walked w c k stages.Store)
  store = by_looks (looks w c k) refl (lawful_after t laws stages.Store at tt)

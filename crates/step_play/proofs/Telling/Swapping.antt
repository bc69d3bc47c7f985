-- a walk that goes away takes its child out of its group
use Rattle.std.proofs.Common.{◌≡◌, ◌≢◌, ◌⊎◌, inl, inr, ℕ, zero, suc, ◌<◌, Bool, true}
use Rattle.std.proofs.Common.{false, cond, Option, Some, None, length, refl, sym, ap, ◌∙◌, subst}
use Rattle.std.proofs.Common.{arith}
use Rattle.std.specs.Prelude.{is_none}
use Rattle.std.proofs.lemmas.Bool.{cases_eq}
use Rattle.std.proofs.lemmas.Option.{none-some, same_Some}
use Rattle.group_word.specs.State.{migrator_without, without_child}
use Rattle.tm_base.specs.Children.{of_group}
use Rattle.tree_plan.specs.Paths.{bit_of, group_at_of}
use Rattle.walk_rules.specs.declared.walk.Walk.{Walk}
use Rattle.walk_rules.specs.declared.walk.Stage.TheVariants as stages
use Rattle.walk_rules.specs.Hierarchy.{group_on, side}
use Rattle.walk_rules.specs.Scene.{Group}
use Rattle.walk_rules.specs.Stages.{at_stage, first_lock, left_by}
use Rattle.walk_rules.specs.Standing.{is_leaving}
use Rattle.core_facts.specs.core_laws.Laws.{StepsStayLawful}
use Rattle.core_world.specs.Lawful.{IsLawful}
use Rattle.core_world.specs.Steps.{here, swapped, walked, with_walk}
use Rattle.core_world.specs.Wakeups.{is_past_store}
use Rattle.core_world.specs.World.{CpuRecord, World, cpu_of, group_of}
use Rattle.core_world.proofs.Moves.{moved_laws}
use Rattle.step_play.specs.Rules.Live.{first, told_of}
use Rattle.step_play.proofs.Activation.Touches.{ExactAt, group_else, same_live, touch_word}
use Rattle.step_play.proofs.Activation.Touches.{word_told}
use Rattle.step_play.proofs.Telling.Standing.{fits, there, under}
use Rattle.step_play.proofs.Telling.Staying.{below_at, edges_at, fields_at, framed, further}
use Rattle.step_play.proofs.Telling.Staying.{lawful_after}
use Rattle.step_play.proofs.Telling.Staying.{stepping, words_at}
use Rattle.step_play.proofs.Telling.Telling.{Begun, Fields, IsFurther, IsLeft, Open, Stays, Tells}
use Rattle.step_play.proofs.Telling.Telling.{is_under_way, left_levels, way}
use Rattle.step_play.proofs.Telling.Telling.Open.{lower, upper}

-- the stage that follows, by whether there is a child to lock
stored_yet : (n : ℕ) → is_past_store (first_lock n) ≡ false
stored_yet zero = refl
stored_yet (suc n) = refl

under_way : (n : ℕ) → is_under_way (first_lock n) ≡ true
under_way zero = refl
under_way (suc n) = refl

left_now : (l n : ℕ) → left_levels l (first_lock n) ≡ suc l
left_now l zero = refl
left_now l (suc n) = refl

later : (l n : ℕ) → way l stages.Swap < way l (first_lock n)
later l zero = omega arith
later l (suc n) = omega arith

begun : (w : World) (c : ℕ) (k : Walk) (n : ℕ) → Begun k → Fields w c k (first_lock n)
begun w c k zero b = b
begun w c k (suc n) b = b

some_was : (m : Option ℕ) (k remaining n : ℕ) → migrator_without m k remaining ≡ Some n →
    is_none m ≡ false
some_was None k remaining n e = absurd (none-some n e)
some_was (Some m) k remaining n e = refl

module _ (laws : StepsStayLawful) {old w : World} {c : ℕ} {made k : Walk}
    (t : Tells old c made w k) (at : k.stage ≡ stages.Swap) where
  f : Fields w c k stages.Swap
  f = fields_at t stages.Swap at

  abbrev g : ℕ
  g = here w c k

  abbrev b : ℕ
  b = side w.tree c k.level

  abbrev out : Group
  out = left_by false (group_of w g) b

  path : group_at_of w.tree c k.level ≡ Some g
  path = there t stages.Swap at refl

  in_range : g < length w.groups
  in_range =
      let low = t.frame.lawful.hierarchy.within c k.level g path in
      omega (arith, low, t.frame.lawful.sized.groups)

  module _ (n : ℕ) where
    abbrev j : Walk
    j = at_stage k (first_lock n)

    abbrev mine : CpuRecord
    mine = with_walk (cpu_of w c) (Some j)

    abbrev new : World
    new = stepping w c g out j true

    group_is : group_of new g ≡ out
    group_is = (moved_laws w g out c mine true).group in_range

    migrator_is : (group_of new g).migrator
        ≡ migrator_without (group_of w g).migrator b (without_child (group_of w g).active b)
    migrator_is = ap (λ (z : Group). z.migrator) group_is

    else_is : (h : ℕ) → h ≢ g → group_of new h ≡ group_of w h
    else_is h ne = group_else w g out c mine true h ne

    -- THE WORD was as it had been, and is what the child left
    now_left : (h : ℕ) → h ≡ g → Stays old w h →
        IsLeft old new c (suc k.level) (is_leaving made.kind) h
    now_left h same s =
        let active_was = ap (λ i. (group_of w i).active) (sym same) ∙ s.active in
        let migrator_was = ap (λ i. (group_of w i).migrator) (sym same) ∙ s.migrator in
        record {
          level = k.level;
          low = omega arith;
          there = path ∙ ap Some (sym same);
          leaving = ap is_leaving (sym t.frame.kind) ∙ fits t stages.Swap at refl;
          active = ap (λ i. (group_of new i).active) same
              ∙ (ap (λ (z : Group). z.active) group_is
              ∙ ap (λ a. without_child a b) active_was);
          migrator = ap (λ i. (group_of new i).migrator) same
              ∙ (migrator_is
              ∙ (λ i. migrator_without (migrator_was i) b (without_child (active_was i) b)));
        }

    word : (h : ℕ) → Stays old w h ⊎ IsLeft old w c k.level (is_leaving made.kind) h →
        Stays old new h ⊎ IsLeft old new c (suc k.level) (is_leaving made.kind) h
    word h so_far = elim (cases_eq h g) [
      | inl same ↦ elim so_far [
        | inl s ↦ inr (now_left h same s)
        | inr l ↦
            let one = t.frame.lawful.hierarchy.one_level c c l.level k.level h l.there
            (path ∙ ap Some (sym same)) in
            absurd (omega (arith, one, l.low))
      ]
      | inr ne ↦ elim so_far [
        | inl s ↦ inl (record {
          active = ap (λ (z : Group). z.active) (else_is h ne) ∙ s.active;
          migrator = ap (λ (z : Group). z.migrator) (else_is h ne) ∙ s.migrator;
        })
        | inr l ↦ inr (record {
          level = l.level;
          low = omega (arith, l.low);
          there = l.there;
          leaving = l.leaving;
          active = ap (λ (z : Group). z.active) (else_is h ne) ∙ l.active;
          migrator = ap (λ (z : Group). z.migrator) (else_is h ne) ∙ l.migrator;
        })
      ]
    ]

    -- EDGES: that of the group may be open now, where the group is inactive
    still_off : (y : ℕ) → g ≡ y → (group_of w y).migrator ≡ None → (group_of new y).migrator ≡ None
    still_off y same off =
        ap (λ h. (group_of new h).migrator) (sym same)
        ∙ (migrator_is
        ∙ ap (λ o. migrator_without o b (without_child (group_of w g).active b))
        (ap (λ h. (group_of w h).migrator) same ∙ off))

    by_new : (y : ℕ) → y ≡ g → ExactAt w y → (m : Option ℕ) → (group_of new g).migrator ≡ m →
        Open new c k.level (first_lock n) y ⊎ ExactAt new y
    by_new y same e None now = inl (upper (under_way n) (path ∙ ap Some (sym same))
        (ap (λ h. (group_of new h).migrator) same ∙ now))
    by_new y same e (Some m) now =
        let was_on : is_none (group_of w g).migrator ≡ false =
        some_was (group_of w g).migrator _ _ m (sym migrator_is ∙ now) in
        let was : told_of w y ≡ None =
        ap (told_of w) same ∙ ap (λ off. cond off (first w g) None) was_on in
        let is : told_of new y ≡ None =
        ap (told_of new) same ∙ ap (λ o. cond (is_none o) (first new g) None) now in
        inr (λ p parent. same_live w g out c mine true refl p (bit_of w.tree (of_group y))
        ∙ (e p parent ∙ (was ∙ sym is)))

    edge : (y : ℕ) → Open w c k.level stages.Swap y ⊎ ExactAt w y →
        Open new c k.level (first_lock n) y ⊎ ExactAt new y
    edge y (inl (lower l e before at_l)) = inl (lower l e (stored_yet n) at_l)
    edge y (inl (upper on at_l off)) =
        inl (upper (under_way n) at_l (still_off y (same_Some _ _ (sym path ∙ at_l)) off))
    edge y (inr e) = elim (cases_eq y g) [
      | inl same ↦ by_new y same e (group_of new g).migrator refl
      | inr ne ↦ inr (touch_word w g out c mine true refl y ne e)
    ]

    below : (l : ℕ) → k.level ≡ suc l → (group_of new (group_on w.tree c l)).migrator ≡ None
    below l e =
        let apart : group_on w.tree c l ≢ g = λ same.
        let one = t.frame.lawful.hierarchy.one_level c c l k.level g
        (under t l e path ∙ ap Some same) path in
        omega (arith, one, e) in
        ap (λ (z : Group). z.migrator) (else_is (group_on w.tree c l) apart)
        ∙ below_at t stages.Swap at refl l e

    tells : IsLawful new → Tells old c made new j
    tells lawful = record {
      frame = framed t g out j true lawful refl;
      words = λ h. subst
          (λ m. Stays old new h ⊎ IsLeft old new c m (is_leaving made.kind) h)
          (sym (left_now k.level n)) (word h (words_at t stages.Swap at h));
      told = λ d ne. word_told w g out c mine true refl d ∙ t.told d ne;
      edges = λ y. edge y (edges_at t stages.Swap at y);
      below = λ on l e. below l e;
      fields = begun new c j n (record { first = f.0.first; best = f.0.best });
    }

    goes : IsLawful new → IsFurther old c made k new
    goes lawful =
        further t stages.Swap at new j (tells lawful) (later k.level n)

  -- alone, no walk finds the word changed, nor its child active
  abbrev Out : Bool → World
  Out on = stepping w c g (left_by on (group_of w g) b) (at_stage k (first_lock k.level)) true

  by_sight : (on : Bool) → on ≡ false → IsLawful (Out on) → IsFurther old c made k (Out on)
  by_sight true e lawful = cc
  by_sight false e lawful = goes k.level lawful

  by_fresh : (fresh : Bool) → fresh ≡ true → IsLawful (swapped w c k fresh) →
      IsFurther old c made k (swapped w c k fresh)
  by_fresh false e lawful = cc
  by_fresh true e lawful = by_sight k.child_on f.2 lawful

  pub swap : IsFurther old c made k (walked w c k stages.Swap)
  swap = by_fresh k.fresh f.1 (lawful_after t laws stages.Swap at tt)

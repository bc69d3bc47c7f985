-- for crates above: an activation marks the slot of its child
use Rattle.std.proofs.Common.{◌≡◌, ◌≢◌, ℕ, suc, ◌^◌, ◌<◌, ◌≤◌, Bool, true, false}
use Rattle.std.proofs.Common.{[]}
use Rattle.std.proofs.Common.{◌∷◌, length, Option, Some, bit_or, refl, sym, ap, ◌∙◌, subst}
use Rattle.std.proofs.Common.{List, eq-eqb, ne_eqb, inl, inr, arith}
use Rattle.std.proofs.lemmas.Bool.{cases_eq}
use Rattle.std.specs.Prelude.{nat_le, option_map, unwrap_or}
use Rattle.std.proofs.lemmas.Option.{none-some, same_Some}
use Rattle.event_queue.specs.declared.event.Event.{Event}
use Rattle.event_queue.specs.EventMap.{as_ignored, event_at, marked_slot}
use Rattle.tree_plan.specs.Paths.{group_at_of}
use Rattle.walk_rules.specs.declared.walk.Walk.{Walk}
use Rattle.walk_rules.specs.declared.walk.WalkKind.TheVariants as kinds
use Rattle.walk_rules.specs.declared.walk.Stage.TheVariants as stages
use Rattle.walk_rules.specs.Hierarchy.{side}
use Rattle.walk_rules.specs.Standing.{FitsStage}
use Rattle.walk_rules.specs.Stages.{at_stage, forget, mark_next, with_event, with_mark}
use Rattle.core_world.specs.Enabled.{MayGoOn}
use Rattle.core_world.specs.Steps.{walked, walks_at, with_walk}
use Rattle.core_world.specs.World.{World, CpuRecord, cpu_of, group_of, is_reading, moved}
use Rattle.core_state.specs.core_facts.Exchanges.{stage_number}
use Rattle.shared_words.specs.declared.layout.SharedWord.{SharedWord}
use Rattle.shared_words.specs.Words.{word_of_slot}
use Rattle.shared_words.proofs.Back.{mark_slot}
use Rattle.shared_rule.specs.CoreLaws.{CoreLaws}
use Rattle.shared_rule.specs.Whole.{Whole, box_of, leaf_in, leaf_of, slot_at, word_at}
use Rattle.shared_rule.specs.Shows.{CoreStep, StepMade, IsShown, is_reeval, owes, reevaluates}
use Rattle.shared_rule.specs.declared.parts.BoxView.{BoxView}
use Rattle.shared_rule.specs.declared.parts.PassView.{PassView}
use Rattle.shared_rule.specs.Rule.{Goes, Me, seat_of}
use Rattle.shared_rule.specs.Plays.{by_walk, is_marked, marked_walk, marked_where, marks_more}
use Rattle.shared_rule.specs.Plays.{on_box, own_marked_box, own_marked_walk}
use Rattle.shared_rule.specs.Laws.{FindMarkStays, MarkOwnStays, MarkStays, none_made, walk_of, walk_always}
use Rattle.shared_rule.specs.Laws.{where_made}
use Rattle.shared_rule.proofs.Fits.{event_fits}
use Rattle.shared_rule.proofs.Owing.{owes_higher, owes_kept}
use Rattle.shared_rule.proofs.Rising.{still}
use Rattle.shared_rule.proofs.Slotting.{leaf_else, leaf_now, no_leaf, sides_apart, slotted}
use Rattle.shared_rule.proofs.Walking.{WalksAt, at_walk, walk_ends, walk_is}
use Rattle.shared_rule.proofs.Reaching.{under}

-- a walk that has marked its group goes on or ends
mark_kind : (more : Bool) (k z : Walk) → mark_next more k ≡ Some z → z.kind ≡ k.kind
mark_kind true k z e = ap (λ (u : Walk). u.kind) (sym (same_Some _ _ e))
mark_kind false k z e = absurd (none-some z e)

mark_reads : (more : Bool) (k z : Walk) → mark_next more k ≡ Some z → is_reading z.stage ≡ false
mark_reads true k z e = ap (λ (u : Walk). is_reading u.stage) (sym (same_Some _ _ e))
mark_reads false k z e = absurd (none-some z e)

mark_reeval : (more : Bool) (k : Walk) → k.kind ≡ kinds.Activate
    → is_reeval k.kind ≡ reevaluates (mark_next more k)
mark_reeval true k e = refl
mark_reeval false k e = ap is_reeval e

forget_mark : (more : Bool) (k : Walk)
    → mark_next more (forget k) ≡ option_map forget (mark_next more k)
forget_mark true k = refl
forget_mark false k = refl

-- the walk of c has a group at a level, in a whole
module _ (law : CoreLaws) (o : World) (s : Whole) (h : IsShown o s) (c g level : ℕ)
    (in_range : g < length o.groups) (path : group_at_of s.world.tree c level ≡ Some g)
    (low : side s.world.tree c level < 8) (e : Option Event) (y : CpuRecord) where
  abbrev w : World
  w = s.world

  abbrev n : ℕ
  n = side w.tree c level

  abbrev v : World
  v = moved w g (with_event (group_of w g) n e) c y false

  there : g < length w.groups
  there = omega (arith, in_range, h.same.groups)

  in_slots : n < length (group_of w g).events
  in_slots = let eight = h.fits.lawful.sized.slots g there in omega (arith, low, eight)

  -- the word of a slot that is marked
  marked_word : word_of_slot true (marked_slot (group_of w g).events n)
      ≡ bit_or (word_at s (slot_at g n)) (2 ^ 58)
  marked_word =
      sym (mark_slot (s.stray g n) (event_at (group_of w g).events n)
      (λ x at. event_fits law o s h g n x at))

  -- at a leaf, the slots of other CPUs stay
  pub leaves_at : level ≡ 0 → (d : ℕ) → d ≢ c → leaf_of v d ≡ leaf_of w d
  leaves_at leaf d ne =
      leaf_else w c g n e y there d
      (λ x at is z. ne
      (sides_apart w.tree (law.paths w.tree h.fits.planned) c d g
      (ap (group_at_of w.tree c) (sym leaf) ∙ path) (at ∙ ap Some is)
      (z ∙ ap (side w.tree c) leaf)))

  -- and the CPU's own is the one that was set
  pub own_at : level ≡ 0 → leaf_of v c ≡ e
  own_at leaf =
      leaf_now w c g n e y there (ap (group_at_of w.tree c) (sym leaf) ∙ path)
      (ap (side w.tree c) (sym leaf)) in_slots

  -- above a leaf all stay
  pub leaves_above : (l : ℕ) → level ≡ suc l → (d : ℕ) → leaf_of v d ≡ leaf_of w d
  leaves_above l high d =
      leaf_else w c g n e y there d
      (λ x at is z. no_leaf w.tree (law.paths w.tree h.fits.planned) c d l g
      (ap (group_at_of w.tree c) (sym high) ∙ path) (at ∙ ap Some is))

pub marks_own : (law : CoreLaws) (o : World) → MarkOwnStays o
marks_own law o slots id g b k ps low may =
    at_walk law o slots id b k ps (slot_at g (side o.tree b.cpu 0)) (λ n. bit_or n (2 ^ 58))
    (walk_always b.cpu)
    (λ z n v. v ≡ on_box own_marked_box (seat_of (z ∷ []) ps))
    stages.Own (λ l. 0) g (may.group, low) may
    (λ s j is same q.
    let w = s.world in
    let c = b.cpu in
    let h = q.shown in
    let n = side w.tree c 0 in
    let e = marked_slot (group_of w g).events n in
    let to : Walk = at_stage j stages.Up in
    let y : CpuRecord = with_walk (cpu_of w c) (Some to) in
    let low' : n < 8 = subst (λ z. side z c 0 < 8) (sym h.same.tree) low in
    let at_g = ap (λ m. unwrap_or m 0) q.path in
    subst
    (λ z. Goes o s (box_of o s c) ps (slot_at g (side z c 0)) (λ n. bit_or n (2 ^ 58)) (walk_always c)
    (λ n v. v ≡ on_box own_marked_box (seat_of (box_of o s c ∷ []) ps))) h.same.tree
    (slotted law o s c g n e true j (Some to) (option_map as_ignored (leaf_of w c)) ps
    (λ n. bit_or n (2 ^ 58))
    (λ n v. v ≡ on_box own_marked_box (seat_of (box_of o s c ∷ []) ps)) stages.Own 0 q
    (record {
      low = low';
      may = subst (MayGoOn w c j) (sym q.stage) tt;
      is =
          ap (walked w c j) q.stage
          ∙ (λ i. walks_at w c (at_g i) (with_mark (group_of w (at_g i)) n) to);
      kind = λ z u. ap (λ (x : Walk). x.kind) (sym (same_Some _ _ u));
      reads = λ z u. ap (λ (x : Walk). is_reading x.stage) (sym (same_Some _ _ u));
      reeval = refl;
      owed = λ m.
          owes_kept o.tree m c to j refl refl (sym (ap (λ z. nat_le 5 (stage_number z)) q.stage));
      leaf_is =
          ap (λ m. option_map as_ignored (leaf_in w c m)) q.path
          ∙ sym (own_at law o s h c g 0 q.group q.path low' e y refl);
      leaves = leaves_at law o s h c g 0 q.group q.path low' e y refl;
      word = marked_word law o s h c g 0 q.group q.path low' e y;
      told = λ i. seat_of (record (box_of o s c) {
        own = walk_is o s c j to own_marked_walk q.walk refl i;
        leaf = option_map as_ignored (leaf_of w c);
      } ∷ []) ps;
    })))

-- the place of a group's slot in its parent, on the path of a box's walk
abbrev parent_slot : World → BoxView → Walk → (g : ℕ) → SharedWord
parent_slot o b k g = slot_at g (side o.tree b.cpu (suc k.level))

-- the marking of that slot, as a step of the whole
mark_goes : (law : CoreLaws) (o : World) (g : ℕ) (more : Bool) (b : BoxView) (k : Walk)
    (ps : List PassView) → side o.tree b.cpu (suc k.level) < 8 → (s : Whole) (j : Walk)
    → forget j ≡ k → WalksAt o s b.cpu ps j (stages.Mark more) (suc j.level) g
    → Goes o s (box_of o s b.cpu) ps (parent_slot o b k g) (λ n. bit_or n (2 ^ 58)) (walk_always b.cpu)
    (λ n v. v ≡ on_box (by_walk marked_walk) (seat_of (box_of o s b.cpu ∷ []) ps))
mark_goes law o g more b k ps low s j same q =
    let w = s.world in
    let c = b.cpu in
    let h = q.shown in
    let n = side w.tree c (suc j.level) in
    let e = marked_slot (group_of w g).events n in
    let on = marks_more j.stage in
    let on_is : more ≡ on = ap marks_more (sym q.stage) in
    let to = mark_next on j in
    let y : CpuRecord = with_walk (cpu_of w c) to in
    let lv : j.level ≡ k.level = ap (λ (z : Walk). z.level) same in
    let low' : n < 8 =
    subst (λ z. side z c (suc j.level) < 8) (sym h.same.tree)
    (subst (λ z. side o.tree c (suc z) < 8) (sym lv) low) in
    let at_g = ap (λ m. unwrap_or m 0) q.path in
    let places = law.places w h.fits.lawful in
    let stand = places.in_tree c j q.walk
    (places.stages_of c j q.walk (λ z. not_end more (sym q.stage ∙ z))) in
    let kind : j.kind ≡ kinds.Activate
    = (subst (FitsStage w.tree c j.kind j.level) q.stage stand.fits).0 in
    subst
    (λ z. Goes o s (box_of o s c) ps (slot_at g (side o.tree c (suc z))) (λ n. bit_or n (2 ^ 58))
    (walk_always c)
    (λ n v. v ≡ on_box (by_walk marked_walk) (seat_of (box_of o s c ∷ []) ps))) lv
    (subst
    (λ z. Goes o s (box_of o s c) ps (slot_at g (side z c (suc j.level))) (λ n. bit_or n (2 ^ 58))
    (walk_always c)
    (λ n v. v ≡ on_box (by_walk marked_walk) (seat_of (box_of o s c ∷ []) ps))) h.same.tree
    (slotted law o s c g n e true j to (leaf_of w c) ps (λ n. bit_or n (2 ^ 58))
    (λ n v. v ≡ on_box (by_walk marked_walk) (seat_of (box_of o s c ∷ []) ps)) (stages.Mark more)
    (suc j.level) q
    (record {
      low = low';
      may = subst (MayGoOn w c j) (sym q.stage) tt;
      is =
          ap (walked w c j) q.stage
          ∙ (λ i. moved w (at_g i) (with_mark (group_of w (at_g i)) n) c
          (with_walk (cpu_of w c) (mark_next (on_is i) j)) false);
      kind = mark_kind on j;
      reads = mark_reads on j;
      reeval = mark_reeval on j kind;
      owed = mark_owes o c on j;
      leaf_is =
          sym (leaves_above law o s h c g (suc j.level) q.group q.path low' e y j.level refl c);
      leaves = λ d ne.
          leaves_above law o s h c g (suc j.level) q.group q.path low' e y j.level refl d;
      word = marked_word law o s h c g (suc j.level) q.group q.path low' e y;
      told = λ i. seat_of (record (box_of o s c) {
        own = walk_ends o s c j to marked_walk q.walk (forget_mark on j) i;
      } ∷ []) ps;
    })))
  where
    not_end : (m : Bool) → stages.Mark m ≡ stages.Finish → ⊥
    not_end m z = cc

    mark_owes : (o : World) (c : ℕ) (m : Bool) (j : Walk) (x : ℕ)
        → owes o.tree x c (mark_next m j) ≤ owes o.tree x c (Some j)
    mark_owes o c true j x = owes_higher o.tree x c j stages.Up
    mark_owes o c false j x = omega arith

pub marks : (law : CoreLaws) (o : World) → MarkStays o
marks law o slots id g more b k ps low may =
    at_walk law o slots id b k ps (parent_slot o b k g) (λ n. bit_or n (2 ^ 58)) (walk_always b.cpu)
    (λ z n v. v ≡ on_box (by_walk marked_walk) (seat_of (z ∷ []) ps))
    (stages.Mark more) suc g (may.group, low) may
    (λ s j is same q. mark_goes law o g more b k ps low s j same q)

-- where the mark is there, the look at it is the marking
pub finds_mark : (law : CoreLaws) (o : World) → FindMarkStays o
finds_mark law o slots id g more b k ps low may =
    at_walk law o slots id b k ps (parent_slot o b k g) (λ n. n)
    (λ n. where_made (is_marked n) (walk_of b.cpu))
    (λ z n v. v ≡ on_box (marked_where (is_marked n)) (seat_of (z ∷ []) ps))
    (stages.Mark more) suc g (may.group, low) may
    (λ s j is same q.
    let word = word_at s (parent_slot o b k g) in
    let box = box_of o s b.cpu in
    let by : ℕ → Option CoreStep = λ n. where_made (is_marked n) (walk_of b.cpu) in
    let then : ℕ → Me → Type 0
    = λ n v. v ≡ on_box (marked_where (is_marked n)) (seat_of (box ∷ []) ps) in
    elim (cases_eq (bit_or word (2 ^ 58)) word) [
      | inl there ↦
          let made = mark_goes law o g more b k ps low s j same q in
          record {
            next = made.next;
            box = made.box;
            passes = made.passes;
            shown = made.shown;
            makes =
                subst (λ m. StepMade (where_made m (walk_of b.cpu)) s.world made.next.world)
                (sym (eq-eqb _ _ there)) made.makes;
            word = made.word ∙ there;
            words = made.words;
            own = made.own;
            boxes = made.boxes;
            same = made.same;
            brought = made.brought;
            others = made.others;
            told =
                subst (λ m. seat_of (made.box ∷ []) made.passes
                ≡ on_box (marked_where m) (seat_of (box ∷ []) ps)) (sym (eq-eqb _ _ there))
                made.told;
          }
      | inr ne ↦
          under o s box ps (parent_slot o b k g) (λ n. n) none_made by then
          (ap (λ z. where_made z (walk_of b.cpu)) (ne_eqb _ _ ne))
          (still o s b.cpu ps (parent_slot o b k g) (λ n. n) then q.shown q.known refl
          (subst (λ m. ◌≡◌ {A = Me} (seat_of (box ∷ []) ps)
          (on_box (marked_where m) (seat_of (box ∷ []) ps))) (sym (ne_eqb _ _ ne)) refl))
    ])

-- for crates above: what a walk sees under its locks
use Rattle.std.proofs.Common.{◌≡◌, ℕ, zero, suc, ◌+◌, ◌-◌, ◌<◌, eqb, cond, Bool, true, false}
use Rattle.std.proofs.Common.{List, [], ◌∷◌, ◌++◌, Option, Some, refl, sym, ap, ◌∙◌, subst, arith}
use Rattle.std.specs.Prelude.{is_some, nat_le, unwrap_or}
use Rattle.std.proofs.lemmas.Bool.{le-leb}
use Rattle.event_queue.specs.EventMap.{event_at}
use Rattle.event_queue.specs.Word.{slot_of}
use Rattle.tree_plan.specs.Paths.{group_at_of}
use Rattle.walk_rules.specs.declared.walk.Walk.{Walk}
use Rattle.walk_rules.specs.declared.walk.Stage.{Stage}
use Rattle.walk_rules.specs.declared.walk.Stage.TheVariants as stages
use Rattle.walk_rules.specs.Hierarchy.{at_top}
use Rattle.walk_rules.specs.Standing.{FitsStage}
use Rattle.walk_rules.specs.Stages.{after_sight, first_next, forget, scan_next, see_child_next}
use Rattle.walk_rules.specs.Stages.{see_group_next}
use Rattle.core_world.specs.Enabled.{MayGoOn}
use Rattle.core_world.specs.Steps.{child_here, child_on, here, walked, walks_on, with_walk}
use Rattle.core_world.specs.World.{World, cpu_of, group_of, is_reading}
use Rattle.core_state.specs.core_facts.Exchanges.{stage_number}
use Rattle.shared_words.specs.declared.layout.SharedWord.{SharedWord}
use Rattle.shared_words.specs.Exchanges.{shows_migrator}
use Rattle.shared_words.specs.Layout.{index_of}
use Rattle.shared_words.proofs.Back.{migrator_shown, slot_back}
use Rattle.shared_rule.specs.declared.parts.BoxView.{BoxView}
use Rattle.shared_rule.specs.declared.parts.Looked.{Looked}
use Rattle.shared_rule.specs.declared.parts.PassView.{PassView}
use Rattle.shared_rule.specs.CoreLaws.{CoreLaws}
use Rattle.shared_rule.specs.Whole.{Whole, box_as, box_of, group_state, group_word, layout_of}
use Rattle.shared_rule.specs.Whole.{leaf_of, quiet, slot_at, state_at, word_at}
use Rattle.shared_rule.specs.Shows.{IsShown}
use Rattle.shared_rule.specs.Rule.{Goes, Me, seat_of}
use Rattle.shared_rule.specs.Plays.{by_walk, child_sight, group_sight, looking, on_box, scan_sight}
use Rattle.shared_rule.specs.Plays.{slot_number, top_sight}
use Rattle.shared_rule.specs.Laws.{ScanStays, ScanTopStays, SeeChildStays, SeeGroupStays, walk_always}
use Rattle.shared_rule.proofs.Fits.{event_fits, good_state}
use Rattle.shared_rule.proofs.Owing.{owes_kept}
use Rattle.shared_rule.proofs.Walking.{WalksAt, at_walk, no_reads, walk_is, walks_alone}

-- a walk's load of a word, by which it goes on to j
module _ (law : CoreLaws) (o : World) (s : Whole) (c g : ℕ) (k j : Walk) (ps : List PassView)
    (at : Stage) (level : ℕ) (p : SharedWord) (next : ℕ → BoxView → Walk → Option Walk) where
  abbrev found : ℕ
  found = word_at s p

  -- the box remembers its load, or doesn't
  abbrev then_box : Bool → ℕ → BoxView → BoxView
  then_box true n b = looking (index_of (layout_of o) p) n (by_walk (next n) b)
  then_box false n b = by_walk (next n) b

  -- what the walk has looked at
  abbrev looks : Bool → Looked
  looks true = record (s.looked c) {
    seen = (s.looked c).seen ++ record { word = index_of (layout_of o) p; found = found } ∷ [];
  }
  looks false = s.looked c

  sees : (keeps : Bool) → WalksAt o s c ps k at level g → MayGoOn s.world c k k.stage
      → walked s.world c k k.stage ≡ walks_on s.world c j
      → j.kind ≡ k.kind → j.level ≡ k.level → is_reading j.stage ≡ false
      → nat_le 5 (stage_number j.stage) ≡ true → nat_le 5 (stage_number k.stage) ≡ true
      → next found (box_of o s c) (forget k) ≡ Some (forget j)
      → Goes o s (box_of o s c) ps p (λ n. n) (walk_always c)
      (λ n v. v ≡ on_box (then_box keeps n) (seat_of (box_of o s c ∷ []) ps))
  sees keeps q may is kind same_level reads past was_past walk =
      walks_alone law o s q.shown c j k (s.read c) (looks keeps) ps p (λ n. n)
      (λ n v. v ≡ on_box (then_box keeps n) (seat_of (box_of o s c ∷ []) ps))
      q.cpu q.known q.walk may is kind
      (no_reads s.world.tree c j (s.read c) (group_word s) s.seq reads)
      (λ m. owes_kept o.tree m c j k kind same_level (past ∙ sym was_past)) refl
      (told (walk_is o s c k j (next found) q.walk walk) keeps)
    where
      told : quiet (with_walk (cpu_of s.world c) (Some j))
          ≡ (by_walk (next found) (box_of o s c)).own → (keeps : Bool)
          → ◌≡◌ {A = Me}
          (seat_of (box_as o c (with_walk (cpu_of s.world c) (Some j)) (leaf_of s.world c)
          (s.read c) (looks keeps) ∷ []) ps)
          (on_box (then_box keeps found) (seat_of (box_of o s c ∷ []) ps))
      told e true = λ i. seat_of (record (box_of o s c) {
        own = e i;
        looked = looks true;
      } ∷ []) ps
      told e false = λ i. seat_of (record (box_of o s c) { own = e i } ∷ []) ps

-- whether the child is active, where the walk isn't at a leaf
pub child_on_at : (w : World) (c level g : ℕ) → 0 < level
    → group_at_of w.tree c (level - 1) ≡ Some g
    → child_on w c level ≡ is_some (group_of w g).migrator
child_on_at w c zero g high path = absurd (omega (arith, high))
child_on_at w c (suc l) g high path =
    ap (λ m. is_some (group_of w (unwrap_or m 0)).migrator)
    (let e : suc l - 1 ≡ l = omega arith in
    ap (group_at_of w.tree c) (sym e) ∙ path)

-- a walk under its locks is past its exchange, and reads no more
child_reads : (on : Bool) (k : Walk) → is_reading (see_child_next on k).stage ≡ false
child_reads true k = refl
child_reads false k = refl

child_past : (on : Bool) (k : Walk) → nat_le 5 (stage_number (see_child_next on k).stage) ≡ true
child_past true k = refl
child_past false k = refl

child_kind : (on : Bool) (k : Walk) → (see_child_next on k).kind ≡ k.kind
child_kind true k = refl
child_kind false k = refl

child_level : (on : Bool) (k : Walk) → (see_child_next on k).level ≡ k.level
child_level true k = refl
child_level false k = refl

forget_child : (on : Bool) (k : Walk)
    → see_child_next on (forget k) ≡ forget (see_child_next on k)
forget_child true k = refl
forget_child false k = refl

sight_reads : (level : ℕ) → is_reading (after_sight level) ≡ false
sight_reads zero = refl
sight_reads (suc l) = refl

sight_past : (level : ℕ) → nat_le 5 (stage_number (after_sight level)) ≡ true
sight_past zero = refl
sight_past (suc l) = refl

scan_place : (n : ℕ) → nat_le 5 (stage_number (stages.Scan n)) ≡ true
scan_place n = le-leb 5 (10 + n) (omega arith)

scan_past : (b : Bool) (n : ℕ)
    → nat_le 5 (stage_number (cond b stages.Store (stages.Scan n))) ≡ true
scan_past true n = refl
scan_past false n = scan_place n

scan_reads : (b : Bool) (n : ℕ) → is_reading (cond b stages.Store (stages.Scan n)) ≡ false
scan_reads true n = refl
scan_reads false n = refl

top_place : (n : ℕ) → nat_le 5 (stage_number (stages.First n)) ≡ true
top_place n = le-leb 5 (19 + n) (omega arith)

top_past : (b : Bool) (n : ℕ)
    → nat_le 5 (stage_number (cond b stages.FreeGroup (stages.First n))) ≡ true
top_past true n = refl
top_past false n = top_place n

top_reads : (b : Bool) (n : ℕ) → is_reading (cond b stages.FreeGroup (stages.First n)) ≡ false
top_reads true n = refl
top_reads false n = refl

-- what the word of a group and that of a slot tell of the core
module _ (law : CoreLaws) (o : World) (s : Whole) (h : IsShown o s) where
  pub active_shown : (g : ℕ)
      → is_some (group_of s.world g).migrator ≡ shows_migrator (group_word s g)
  active_shown g =
      sym (migrator_shown (group_word s g) (group_state (group_of s.world g) (s.seq g))
      (good_state law o s h g))

  pub slot_shown : (g number : ℕ)
      → event_at (group_of s.world g).events number ≡ slot_of (word_at s (slot_at g number))
  slot_shown g number =
      sym (slot_back (s.stray g number) (event_at (group_of s.world g).events number)
      (λ e at. event_fits law o s h g number e at))

  -- a walk that looks at its child isn't at a leaf
  above_leaf : (c : ℕ) (k : Walk) → (cpu_of s.world c).walk ≡ Some k → k.stage ≡ stages.SeeChild
      → 0 < k.level
  above_leaf c k at is =
      let places = law.places s.world h.fits.lawful in
      let stand = places.in_tree c k at
      (places.stages_of c k at (λ z. not_end (sym is ∙ z))) in
      (subst (FitsStage s.world.tree c k.kind k.level) is stand.fits).1
    where
      not_end : stages.SeeChild ≡ stages.Finish → ⊥
      not_end z = cc

pub sees_child : (law : CoreLaws) (o : World) → SeeChildStays o
sees_child law o slots id g b k ps may =
    at_walk law o slots id b k ps (state_at g) (λ n. n) (walk_always b.cpu)
    (λ z n v. v ≡ on_box (by_walk (child_sight n)) (seat_of (z ∷ []) ps))
    stages.SeeChild (λ l. l - 1) g may.group may
    (λ s j is same q.
    let w = s.world in
    let on = shows_migrator (group_word s g) in
    let is_on : child_on w b.cpu j.level ≡ on
    = child_on_at w b.cpu j.level g (above_leaf law o s q.shown b.cpu j q.walk q.stage) q.path
    ∙ active_shown law o s q.shown g in
    sees law o s b.cpu g j (see_child_next on j) ps stages.SeeChild (j.level - 1) (state_at g)
    child_sight false q (subst (MayGoOn w b.cpu j) (sym q.stage) tt)
    (ap (walked w b.cpu j) q.stage ∙ (λ i. walks_on w b.cpu (see_child_next (is_on i) j)))
    (child_kind on j) (child_level on j) (child_reads on j) (child_past on j)
    (ap (λ z. nat_le 5 (stage_number z)) q.stage) (ap Some (forget_child on j)))

pub sees_group : (law : CoreLaws) (o : World) → SeeGroupStays o
sees_group law o slots id g b k ps may =
    at_walk law o slots id b k ps (state_at g) (λ n. n) (walk_always b.cpu)
    (λ z n v. v
    ≡ on_box (λ y. looking (index_of (layout_of o) (state_at g)) n (by_walk (group_sight n) y))
    (seat_of (z ∷ []) ps))
    stages.SeeGroup (λ l. l) g may.group may
    (λ s j is same q.
    let w = s.world in
    let on = shows_migrator (group_word s g) in
    let is_on : is_some (group_of w (here w b.cpu j)).migrator ≡ on
    = ap (λ m. is_some (group_of w (unwrap_or m 0)).migrator) q.path
    ∙ active_shown law o s q.shown g in
    sees law o s b.cpu g j (see_group_next on (at_top o.tree b.cpu j.level) j) ps stages.SeeGroup
    j.level (state_at g) group_sight true q (subst (MayGoOn w b.cpu j) (sym q.stage) tt)
    (ap (walked w b.cpu j) q.stage
    ∙ (λ i. walks_on w b.cpu
    (see_group_next (is_on i) (at_top (q.shown.same.tree i) b.cpu j.level) j)))
    refl refl (sight_reads j.level) (sight_past j.level)
    (ap (λ z. nat_le 5 (stage_number z)) q.stage) refl)

pub scans : (law : CoreLaws) (o : World) → ScanStays o
scans law o slots id g number b k ps low may =
    at_walk law o slots id b k ps (slot_at g number) (λ n. n) (walk_always b.cpu)
    (λ z n v. v ≡ on_box (by_walk (scan_sight n)) (seat_of (z ∷ []) ps))
    (stages.Scan number) (λ l. l - 1) g (may.group, low) may
    (λ s j is same q.
    let w = s.world in
    let e = slot_of (word_at s (slot_at g number)) in
    let at = slot_number j.stage in
    let is_e : event_at (group_of w (child_here w b.cpu j)).events number ≡ e
    = ap (λ m. event_at (group_of w (unwrap_or m 0)).events number) q.path
    ∙ slot_shown law o s q.shown g number in
    let is_at : number ≡ at = ap slot_number (sym q.stage) in
    sees law o s b.cpu g j (scan_next e at j) ps (stages.Scan number) (j.level - 1)
    (slot_at g number) scan_sight false q (subst (MayGoOn w b.cpu j) (sym q.stage) tt)
    (ap (walked w b.cpu j) q.stage
    ∙ (λ i. walks_on w b.cpu (scan_next (is_e i) (is_at i) j)))
    refl refl (scan_reads (eqb at 7) (at + 1)) (scan_past (eqb at 7) (at + 1))
    (ap (λ z. nat_le 5 (stage_number z)) q.stage ∙ scan_place number) refl)

pub scans_top : (law : CoreLaws) (o : World) → ScanTopStays o
scans_top law o slots id g number b k ps low may =
    at_walk law o slots id b k ps (slot_at g number) (λ n. n) (walk_always b.cpu)
    (λ z n v. v
    ≡ on_box (λ y. looking (index_of (layout_of o) (slot_at g number)) n
    (by_walk (top_sight n) y)) (seat_of (z ∷ []) ps))
    (stages.First number) (λ l. l) g (may.group, low) may
    (λ s j is same q.
    let w = s.world in
    let e = slot_of (word_at s (slot_at g number)) in
    let at = slot_number j.stage in
    let is_e : event_at (group_of w (here w b.cpu j)).events number ≡ e
    = ap (λ m. event_at (group_of w (unwrap_or m 0)).events number) q.path
    ∙ slot_shown law o s q.shown g number in
    let is_at : number ≡ at = ap slot_number (sym q.stage) in
    sees law o s b.cpu g j (first_next e at j) ps (stages.First number) j.level
    (slot_at g number) top_sight true q (subst (MayGoOn w b.cpu j) (sym q.stage) tt)
    (ap (walked w b.cpu j) q.stage
    ∙ (λ i. walks_on w b.cpu (first_next (is_e i) (is_at i) j)))
    refl refl (top_reads (eqb at 7) (at + 1)) (top_past (eqb at 7) (at + 1))
    (ap (λ z. nat_le 5 (stage_number z)) q.stage ∙ top_place number) refl)

-- for crates above: a walk's step that takes or gives back a group's lock
use Rattle.std.proofs.Common.{◌≡◌, ◌↔◌, ℕ, zero, suc, ◌+◌, ◌-◌, ◌<◌, ◌≤◌, eqb, eq-eqb, ne_eqb}
use Rattle.std.proofs.Common.{true, false, true≢false, List, [], ◌∷◌, ◌++◌, length, Option}
use Rattle.std.proofs.Common.{Some, None, refl, sym, ap, ◌∙◌, subst, inl, inr, arith}
use Rattle.std.specs.Prelude.{Contains, nat_le, unwrap_or}
use Rattle.std.proofs.lemmas.Bool.{cases_eq}
use Rattle.std.proofs.lemmas.List.{get_or-set_same}
use Rattle.std.proofs.lemmas.Option.{same_Some}
use prog.Atomic.{either}
use Rattle.walk_rules.specs.declared.walk.Walk.{Walk}
use Rattle.walk_rules.specs.declared.walk.Stage.{Stage}
use Rattle.walk_rules.specs.declared.walk.Stage.TheVariants as stages
use Rattle.walk_rules.specs.Scene.{Group, no_group}
use Rattle.walk_rules.specs.Stages.{at_stage, first_sight, forget, with_lock}
use Rattle.core_world.specs.declared.step.Step.TheVariants as steps
use Rattle.core_world.specs.Enabled.{MayGoOn}
use Rattle.core_world.specs.Steps.{child_here, here, walk_made, walked, walks_at, with_walk}
use Rattle.core_world.specs.World.{World, CpuRecord, cpu_of, group_of, moved, is_reading}
use Rattle.core_state.specs.core_facts.Exchanges.{stage_number}
use Rattle.shared_words.specs.Words.{lock_word}
use Rattle.shared_rule.specs.declared.parts.BoxView.{BoxView}
use Rattle.shared_rule.specs.declared.parts.PassView.{PassView}
use Rattle.shared_rule.specs.CoreLaws.{CoreLaws}
use Rattle.shared_words.specs.Layout.{index_of}
use Rattle.shared_rule.specs.declared.parts.Looked.{Looked}
use Rattle.shared_rule.specs.Whole.{Whole, box_as, box_of, layout_of, leaf_of, lock_at, quiet}
use Rattle.shared_rule.specs.Shows.{CoreStep}
use Rattle.shared_rule.specs.Shows.{IsShown, is_reeval, owes, reevaluates}
use Rattle.shared_rule.specs.Rule.{Each, Goes, Me, seat_of}
use Rattle.shared_rule.specs.Plays.{child_locked_walk, lock_box, locked_walk, on_box}
use Rattle.shared_rule.specs.Laws.{LockChildStays, LockStays, none_made, walk_of, walk_always}
use Rattle.shared_rule.specs.Laws.{where_made}
use Rattle.shared_rule.proofs.Made.{made}
use Rattle.shared_rule.proofs.Moving.{cpu_field, leaf_stays}
use Rattle.shared_rule.proofs.Owing.{owes_kept}
use Rattle.shared_rule.proofs.Rising.{as_they_were, notes}
use Rattle.shared_rule.proofs.Walking.{WalksAt, at_walk, walk_is}
use Rattle.shared_rule.proofs.Reaching.{under}

module _ (law : CoreLaws) (o : World) (s : Whole) (h : IsShown o s) (c g : ℕ) (j k : Walk)
    (l : Option ℕ) (looked : Looked) (ps : List PassView) (f : ℕ → ℕ)
    (then : ℕ → Me → Type 0) where
  abbrev w : World
  w = s.world

  abbrev x : Group
  x = with_lock (group_of s.world g) l

  abbrev y : CpuRecord
  y = with_walk (cpu_of s.world c) (Some j)

  abbrev v : World
  v = moved s.world g x c y false

  -- the lock of g becomes l, and the walk of c goes on from k to j
  pub relocked : c < length o.cpus → g < length o.groups
      → Each (λ z. (z.cpu < length o.cpus) × (z ≡ s.pass z.cpu)) ps
      → (cpu_of s.world c).walk ≡ Some k → MayGoOn s.world c k k.stage
      → walked s.world c k k.stage ≡ v → j.kind ≡ k.kind → is_reading j.stage ≡ false
      → ((m : ℕ) → owes o.tree m c (Some j) ≤ owes o.tree m c (Some k))
      → lock_word l ≡ f (lock_word (group_of s.world g).lock)
      → then (lock_word (group_of s.world g).lock)
      (seat_of (box_as o c y (leaf_of s.world c) (s.read c) looked ∷ []) ps)
      → Goes o s (box_of o s c) ps (lock_at g) f (walk_always c) then
  relocked hc hg known at may is kind reads_not owed word told =
      let hc' : c < length w.cpus = omega (arith, hc, h.same.cpus) in
      let hg' : g < length w.groups = omega (arith, hg, h.same.groups) in
      let same_kind : (z : Walk) → ◌≡◌ {A = Option Walk} (Some j) (Some z) → z.kind ≡ k.kind
      = λ z e. ap (λ (u : Walk). u.kind) (sym (same_Some _ _ e)) ∙ kind in
      let not_reading : (z : Walk) → ◌≡◌ {A = Option Walk} (Some j) (Some z)
      → is_reading z.stage ≡ true → ⊥
      = λ z e rd. true≢false
      (sym rd ∙ (ap (λ (u : Walk). is_reading u.stage) (sym (same_Some _ _ e))
      ∙ reads_not)) in
      made law o s h c g x y false (s.read c) s.stray looked s.pass ps ps (lock_at g) f then
      (record {
        step = steps.Walk (record { 0 = c });
        enabled = record { in_range = hc'; made = k; walk = at; may_go_on = may };
        is = ap (walk_made w c) at ∙ is;
        plain = record { time = refl; queues = refl; journals = refl; online = refl };
        in_range = hc;
        group = inl hg;
        kept = λ z. (refl, refl);
        staying = λ z e q. h.staying c k at (sym (same_kind z e) ∙ q);
        reads = record {
          fresh = λ z m e rd there. absurd (not_reading z e rd);
          before = λ z m e rd there. absurd (not_reading z e rd);
          good = λ z e rd. absurd (not_reading z e rd);
        };
        owed = λ m.
            let a = owed m in
            let b : owes o.tree m c (cpu_of w c).walk ≡ owes o.tree m c (Some k)
            = ap (owes o.tree m c) at in
            omega (arith, a, b);
        few = h.few;
        opened = h.opened;
        passes = h.passes;
        flags =
            let was = h.flags c in
            record {
              idle = was.idle;
              inside = was.inside;
              wakeup = was.wakeup;
              reeval = was.reeval ∙ (ap reevaluates at ∙ ap is_reeval (sym kind));
            };
        flags_else = λ d ne. h.flags d;
        marked = λ d m.
            subst (λ z. (z ≡ Some m) ↔ Contains (s.pass m).marks d)
            (sym (cpu_field w g x c y false (λ z. z.mark) (λ z u. refl) hc' refl d))
            (h.marked d m);
        journal = λ d. refl;
        receipts = λ d. refl;
        did = h.seen;
        leaf = leaf_of w c;
        leaf_is = sym (leaf_stays w g x c y false refl c);
        leaves = λ d ne. leaf_stays w g x c y false refl d;
        word =
            ap (λ (z : Group). lock_word z.lock) (get_or-set_same w.groups g x no_group hg') ∙ word;
        state = λ ne. refl;
        lock = λ ne. absurd (ne refl);
        slots = λ m low ne. refl;
        strays = λ m n ne. refl;
        cpu = λ ne. refl;
        same = refl;
        brought = as_they_were o s ps known;
        others = λ d ne. refl;
        told = told;
      })

no_lock : (m : Option ℕ) → lock_word m ≡ 0 → m ≡ None
no_lock None e = refl
no_lock (Some c) e = absurd (omega (arith, e))

sight_reads : (l : ℕ) → is_reading (first_sight l) ≡ false
sight_reads zero = refl
sight_reads (suc l) = refl

sight_past : (l : ℕ) → nat_le 5 (stage_number (first_sight l)) ≡ true
sight_past zero = refl
sight_past (suc l) = refl

-- the place of the word of a group's lock
abbrev place_of_lock : World → ℕ → ℕ
place_of_lock o g = index_of (layout_of o) (lock_at g)

-- a walk's try for a lock, by which it goes on to j where the lock is free
module _ (law : CoreLaws) (o : World) (s : Whole) (c g : ℕ) (k j : Walk) (ps : List PassView)
    (at : Stage) (level : ℕ) (next : BoxView → Walk → Option Walk) where
  tries : WalksAt o s c ps k at level g
      → ((group_of s.world g).lock ≡ None → MayGoOn s.world c k k.stage)
      → walked s.world c k k.stage
      ≡ walks_at s.world c g (with_lock (group_of s.world g) (Some c)) j
      → j.kind ≡ k.kind → j.level ≡ k.level → is_reading j.stage ≡ false
      → nat_le 5 (stage_number j.stage) ≡ nat_le 5 (stage_number k.stage)
      → next (box_of o s c) (forget k) ≡ Some (forget j)
      → Goes o s (box_of o s c) ps (lock_at g) (λ n. either (eqb n 0) (1 + c) n)
      (λ n. where_made (eqb n 0) (walk_of c))
      (λ n v. v
      ≡ on_box (lock_box next (eqb n 0) (place_of_lock o g) n) (seat_of (box_of o s c ∷ []) ps))
  tries q may is kind same_level reads place walk =
      let lock = lock_word (group_of s.world g).lock in
      let f : ℕ → ℕ = λ n. either (eqb n 0) (1 + c) n in
      let by : ℕ → Option CoreStep = λ n. where_made (eqb n 0) (walk_of c) in
      let then : ℕ → Me → Type 0
      = λ n v. v
      ≡ on_box (lock_box next (eqb n 0) (place_of_lock o g) n) (seat_of (box_of o s c ∷ []) ps) in
      let untried : Looked = record (s.looked c) { tried = [] } in
      let more : Looked = record (s.looked c) {
        tried = (s.looked c).tried ++ record { word = place_of_lock o g; found = lock } ∷ [];
      } in
      elim (cases_eq (lock_word (group_of s.world g).lock) 0) [
        | inl e ↦
            under o s (box_of o s c) ps (lock_at g) f (walk_always c) by then
            (ap (λ z. where_made z (walk_of c)) (eq-eqb _ _ e))
            (relocked law o s q.shown c g j k (Some c) untried ps f then q.cpu q.group q.known q.walk
            (may (no_lock _ e)) is kind reads
            (λ m. owes_kept o.tree m c j k kind same_level place)
            (sym (ap (λ b. either b (1 + c) (lock_word (group_of s.world g).lock))
            (eq-eqb _ _ e)))
            (subst (λ b. ◌≡◌ {A = Me}
            (seat_of (record (box_of o s c) {
              own = quiet (with_walk (cpu_of s.world c) (Some j));
              looked = untried;
            } ∷ []) ps)
            (on_box (lock_box next b (place_of_lock o g) lock) (seat_of (box_of o s c ∷ []) ps)))
            (sym (eq-eqb _ _ e))
            (λ i. seat_of (record (box_of o s c) {
              own = walk_is o s c k j next q.walk walk i;
              looked = untried;
            } ∷ []) ps)))
        | inr ne ↦
            under o s (box_of o s c) ps (lock_at g) f none_made by then
            (ap (λ z. where_made z (walk_of c)) (ne_eqb _ _ ne))
            (notes o s q.shown c more ps (lock_at g) f then q.known
            (ap (λ z. either z (1 + c) lock) (ne_eqb _ _ ne))
            (subst (λ z. ◌≡◌ {A = Me}
            (seat_of (record (box_of o s c) { looked = more } ∷ []) ps)
            (on_box (lock_box next z (place_of_lock o g) lock) (seat_of (box_of o s c ∷ []) ps)))
            (sym (ne_eqb _ _ ne)) refl))
      ]

pub locks : (law : CoreLaws) (o : World) → LockStays o
locks law o slots id g b k ps may =
    at_walk law o slots id b k ps (lock_at g) (λ n. either (eqb n 0) (1 + b.cpu) n)
    (λ n. where_made (eqb n 0) (walk_of b.cpu))
    (λ z n v. v ≡ on_box (lock_box locked_walk (eqb n 0) (place_of_lock o g) n) (seat_of (z ∷ []) ps))
    stages.LockGroup (λ l. l) g may.group may
    (λ s j is same q.
    let w = s.world in
    let at_g : here w b.cpu j ≡ g = ap (λ m. unwrap_or m 0) q.path in
    tries law o s b.cpu g j (at_stage j (first_sight j.level)) ps stages.LockGroup j.level
    locked_walk q
    (λ free. subst (MayGoOn w b.cpu j) (sym q.stage) (ap (λ m. (group_of w m).lock) at_g ∙ free))
    (ap (walked w b.cpu j) q.stage
    ∙ (λ i. walks_at w b.cpu (at_g i) (with_lock (group_of w (at_g i)) (Some b.cpu))
    (at_stage j (first_sight j.level))))
    refl refl (sight_reads j.level)
    (sight_past j.level ∙ ap (λ z. nat_le 5 (stage_number z)) (sym q.stage)) refl)

pub locks_child : (law : CoreLaws) (o : World) → LockChildStays o
locks_child law o slots id g b k ps may =
    at_walk law o slots id b k ps (lock_at g) (λ n. either (eqb n 0) (1 + b.cpu) n)
    (λ n. where_made (eqb n 0) (walk_of b.cpu))
    (λ z n v. v
    ≡ on_box (lock_box child_locked_walk (eqb n 0) (place_of_lock o g) n) (seat_of (z ∷ []) ps))
    stages.LockChild (λ l. l - 1) g may.group may
    (λ s j is same q.
    let w = s.world in
    let at_g : child_here w b.cpu j ≡ g = ap (λ m. unwrap_or m 0) q.path in
    tries law o s b.cpu g j (at_stage j stages.LockGroup) ps stages.LockChild (j.level - 1)
    child_locked_walk q
    (λ free. subst (MayGoOn w b.cpu j) (sym q.stage) (ap (λ m. (group_of w m).lock) at_g ∙ free))
    (ap (walked w b.cpu j) q.stage
    ∙ (λ i. walks_at w b.cpu (at_g i) (with_lock (group_of w (at_g i)) (Some b.cpu))
    (at_stage j stages.LockGroup)))
    refl refl refl (ap (λ z. nat_le 5 (stage_number z)) (sym q.stage)) refl)

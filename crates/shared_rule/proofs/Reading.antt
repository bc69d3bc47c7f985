-- for crates above: a walk reads the word of its group, and then its child's
use Rattle.std.proofs.Common.{◌≡◌, ℕ, ◌-◌, ◌/◌, ◌^◌, ◌<◌, ◌≤◌, Bool, true, false, List}
use Rattle.std.proofs.Common.{[], ◌∷◌, length, Option, Some, refl, sym, ap, ◌∙◌, subst, arith}
use Rattle.std.proofs.Common.{eq-eqb}
use Rattle.std.specs.Prelude.{nat_le}
use Rattle.std.proofs.lemmas.Option.{same_Some}
use Rattle.tree_plan.specs.Paths.{group_at_of}
use Rattle.walk_rules.specs.declared.walk.Walk.{Walk}
use Rattle.walk_rules.specs.declared.walk.Stage.TheVariants as stages
use Rattle.walk_rules.specs.Stages.{child_next, forget, read_next}
use Rattle.core_world.specs.Enabled.{MayGoOn}
use Rattle.core_world.specs.Steps.{child_on, walked, walks_on}
use Rattle.core_world.specs.World.{World, cpu_of, is_reading}
use Rattle.core_state.specs.core_facts.Exchanges.{stage_number}
use Rattle.shared_words.specs.declared.layout.SharedWord.{SharedWord}
use Rattle.shared_words.specs.Exchanges.{shows_migrator}
use Rattle.shared_words.proofs.Back.{seq_of}
use Rattle.shared_rule.specs.declared.parts.BoxView.{BoxView}
use Rattle.shared_rule.specs.declared.parts.PassView.{PassView}
use Rattle.shared_rule.specs.CoreLaws.{CoreLaws}
use Rattle.shared_rule.specs.Whole.{Whole, box_of, cpu_at, group_word, state_at, word_at}
use Rattle.shared_rule.specs.Shows.{IsShown, ReadsOf}
use Rattle.shared_rule.specs.Rule.{Each, Goes, Me, seat_of}
use Rattle.shared_rule.specs.Plays.{by_walk, child_read_walk, on_box, own_read_walk, read_walk}
use Rattle.shared_rule.specs.Plays.{reading}
use Rattle.shared_rule.specs.Laws.{ReadChildStays, ReadGroupStays, ReadOwnStays, walk_always}
use Rattle.shared_rule.proofs.Fits.{good_state, good_word}
use Rattle.shared_rule.proofs.Owing.{owes_kept}
use Rattle.shared_rule.proofs.Sights.{active_shown, child_on_at}
use Rattle.shared_rule.proofs.Walking.{WalksAt, at_walk, walk_is, walks_alone}

at_most : (a b : ℕ) → a ≡ b → a ≤ b
at_most a b e = omega (arith, e)

module _ (law : CoreLaws) (o : World) (s : Whole) (h : IsShown o s) (c g : ℕ) (k : Walk) where
  -- what a walk has just read is the word of its group
  pub just_read : group_at_of s.world.tree c k.level ≡ Some g
      → ReadsOf s.world.tree c (Some (read_next k)) (group_word s g) (group_word s) s.seq
  just_read path =
      let is : (z : Walk) → ◌≡◌ {A = Option Walk} (Some (read_next k)) (Some z) → z ≡ read_next k
      = λ z e. sym (same_Some _ _ e) in
      let at : (z : Walk) (m : ℕ) → z ≡ read_next k
      → group_at_of s.world.tree c z.level ≡ Some m → g ≡ m
      = λ z m e there. same_Some _ _
      (sym path ∙ (ap (λ (u : Walk). group_at_of s.world.tree c u.level) (sym e) ∙ there)) in
      record {
        fresh = λ z m e rd there.
            ap (λ (u : Walk). u.fresh) (is z e)
            ∙ sym (eq-eqb (group_word s m) (group_word s g)
            (ap (group_word s) (sym (at z m (is z e) there))));
        before = λ z m e rd there.
            at_most (group_word s g / 2 ^ 16) (s.seq m)
            (seq_of (group_word s g) _ (good_state law o s h g)
            ∙ ap s.seq (at z m (is z e) there));
        good = λ z e rd. good_word law o s h g;
      }

  -- what it has read stays so as it looks at its child
  still_read : (on : Bool) → (cpu_of s.world c).walk ≡ Some k → k.stage ≡ stages.Child
      → ReadsOf s.world.tree c (Some (child_next on k)) (s.read c) (group_word s) s.seq
  still_read on at stage =
      let was = h.reads c in
      let rd : is_reading k.stage ≡ true = ap is_reading stage in
      let is : (z : Walk) → ◌≡◌ {A = Option Walk} (Some (child_next on k)) (Some z)
      → z ≡ child_next on k
      = λ z e. sym (same_Some _ _ e) in
      let path : (z : Walk) (m : ℕ) → z ≡ child_next on k
      → group_at_of s.world.tree c z.level ≡ Some m → group_at_of s.world.tree c k.level ≡ Some m
      = λ z m e there. ap (λ (u : Walk). group_at_of s.world.tree c u.level) (sym e) ∙ there in
      record {
        fresh = λ z m e r there.
            ap (λ (u : Walk). u.fresh) (is z e) ∙ was.fresh k m at rd (path z m (is z e) there);
        before = λ z m e r there. was.before k m at rd (path z m (is z e) there);
        good = λ z e r. was.good k at rd;
      }

-- the walk has read its group's word, and its box keeps it
module _ (law : CoreLaws) (o : World) (s : Whole) (c g : ℕ) (k : Walk) (ps : List PassView)
    (f : ℕ → ℕ) (then : ℕ → Me → Type 0) where
  pub reads_anew : IsShown o s → c < length o.cpus
      → Each (λ z. (z.cpu < length o.cpus) × (z ≡ s.pass z.cpu)) ps
      → (cpu_of s.world c).walk ≡ Some k → group_at_of s.world.tree c k.level ≡ Some g
      → MayGoOn s.world c k k.stage
      → walked s.world c k k.stage ≡ walks_on s.world c (read_next k)
      → nat_le 5 (stage_number k.stage) ≡ false → f (group_word s g) ≡ group_word s g
      → ((w : Me) → w
      ≡ on_box (λ y. reading (group_word s g) (by_walk read_walk y))
      (seat_of (box_of o s c ∷ []) ps) → then (group_word s g) w)
      → Goes o s (box_of o s c) ps (state_at g) f (walk_always c) then
  reads_anew h hc known at path may is before same told =
      walks_alone law o s h c (read_next k) k (group_word s g) (s.looked c) ps (state_at g) f then
      hc known at may is refl (just_read law o s h c g k path)
      (λ m. owes_kept o.tree m c (read_next k) k refl refl (sym before)) same
      (told _
      (λ i. seat_of (record (box_of o s c) {
        own = walk_is o s c k (read_next k) read_walk at refl i;
        read = group_word s g;
      } ∷ []) ps))

pub reads_group : (law : CoreLaws) (o : World) → ReadGroupStays o
reads_group law o slots id g b k ps may =
    at_walk law o slots id b k ps (state_at g) (λ n. n) (walk_always b.cpu)
    (λ z n v. v ≡ on_box (λ y. reading n (by_walk read_walk y)) (seat_of (z ∷ []) ps))
    stages.Read (λ l. l) g may.group may
    (λ s j is same q.
    reads_anew law o s b.cpu g j ps _ _ q.shown q.cpu q.known q.walk q.path
    (subst (MayGoOn s.world b.cpu j) (sym q.stage) tt) (ap (walked s.world b.cpu j) q.stage)
    (ap (λ z. nat_le 5 (stage_number z)) q.stage) refl (λ w e. e))

-- a walk's look at its child before its exchange
module _ (law : CoreLaws) (o : World) (s : Whole) (c g : ℕ) (k : Walk) (ps : List PassView)
    (level : ℕ) (p : SharedWord) (on : Bool) (next : ℕ → BoxView → Walk → Option Walk) where
  asks : WalksAt o s c ps k stages.Child level g → child_on s.world c k.level ≡ on
      → next (word_at s p) (box_of o s c) (forget k) ≡ Some (forget (child_next on k))
      → Goes o s (box_of o s c) ps p (λ n. n) (walk_always c)
      (λ n v. v ≡ on_box (by_walk (next n)) (seat_of (box_of o s c ∷ []) ps))
  asks q is_on walk =
      walks_alone law o s q.shown c (child_next on k) k (s.read c) (s.looked c) ps p (λ n. n)
      (λ n v. v ≡ on_box (by_walk (next n)) (seat_of (box_of o s c ∷ []) ps))
      q.cpu q.known q.walk (subst (MayGoOn s.world c k) (sym q.stage) tt)
      (ap (walked s.world c k) q.stage
      ∙ (λ i. walks_on s.world c (child_next (is_on i) k))) refl
      (still_read law o s q.shown c g k on q.walk q.stage)
      (λ m. owes_kept o.tree m c (child_next on k) k refl refl
      (sym (ap (λ z. nat_le 5 (stage_number z)) q.stage))) refl
      (λ i. seat_of (record (box_of o s c) {
        own = walk_is o s c k (child_next on k) (next (word_at s p)) q.walk walk i;
      } ∷ []) ps)

pub reads_child : (law : CoreLaws) (o : World) → ReadChildStays o
reads_child law o slots id g b k ps high may =
    at_walk law o slots id b k ps (state_at g) (λ n. n) (walk_always b.cpu)
    (λ z n v. v ≡ on_box (by_walk (child_read_walk n)) (seat_of (z ∷ []) ps))
    stages.Child (λ l. l - 1) g may.group may
    (λ s j is same q.
    asks law o s b.cpu g j ps (j.level - 1) (state_at g) (shows_migrator (group_word s g))
    child_read_walk q
    (child_on_at s.world b.cpu j.level g
    (subst (λ (z : Walk). 0 < z.level) (sym same) high) q.path
    ∙ active_shown law o s q.shown g) refl)

-- at a leaf the child is the CPU itself, which no walk that leaves finds active
leaf_off : (w : World) (c level : ℕ) → level ≡ 0 → child_on w c level ≡ false
leaf_off w c level e = ap (child_on w c) e

pub reads_own : (law : CoreLaws) (o : World) → ReadOwnStays o
reads_own law o slots id g b k ps low leaf may =
    at_walk law o slots id b k ps (cpu_at b.cpu) (λ n. n) (walk_always b.cpu)
    (λ z n v. v ≡ on_box (by_walk own_read_walk) (seat_of (z ∷ []) ps))
    stages.Child (λ l. l) g low may
    (λ s j is same q.
    asks law o s b.cpu g j ps j.level (cpu_at b.cpu) false (λ n. own_read_walk) q
    (leaf_off s.world b.cpu j.level (ap (λ (z : Walk). z.level) same ∙ leaf)) refl)

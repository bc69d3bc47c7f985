-- for crates above: the next step of a box's walk, and one that changes the walk alone
use Rattle.std.proofs.Common.{◌≡◌, ◌↔◌, ℕ, ◌<◌, ◌≤◌, true, false, true≢false, List, [], ◌∷◌}
use Rattle.std.proofs.Common.{length, Option, Some, refl, sym, ap, ◌∙◌, subst, inr, arith}
use Rattle.std.specs.Prelude.{Contains, option_map}
use Rattle.std.proofs.lemmas.Option.{same_Some}
use Rattle.event_queue.specs.EventMap.{event_at}
use Rattle.group_word.specs.State.{state_word}
use Rattle.tree_plan.specs.Shape.{Shape}
use Rattle.tree_plan.specs.Paths.{group_at_of}
use Rattle.walk_rules.specs.declared.walk.Walk.{Walk}
use Rattle.walk_rules.specs.declared.walk.Stage.{Stage}
use Rattle.walk_rules.specs.Scene.{Group}
use Rattle.walk_rules.specs.Stages.{forget}
use Rattle.core_world.specs.declared.step.Step.TheVariants as steps
use Rattle.core_world.specs.Enabled.{MayGoOn}
use Rattle.core_world.specs.Steps.{walk_made, walked, walks_on, with_walk}
use Rattle.core_world.specs.World.{CpuRecord, World, cpu_of, group_of, is_reading}
use Rattle.core_world.proofs.Quiet.{own_field, own_group}
use Rattle.shared_words.specs.declared.layout.SharedWord.{SharedWord}
use Rattle.shared_words.specs.declared.layout.SharedWord.TheVariants.{State, Lock, Slot, Cpu, Timer}
use Rattle.shared_words.specs.Layout.{IsWordOf}
use Rattle.shared_words.specs.Words.{lock_word, word_of_slot}
use Rattle.shared_rule.specs.declared.parts.BoxView.{BoxView}
use Rattle.shared_rule.specs.declared.parts.Looked.{Looked}
use Rattle.shared_rule.specs.declared.parts.PassView.{PassView}
use Rattle.shared_rule.specs.CoreLaws.{CoreLaws}
use Rattle.shared_rule.specs.Whole.{Whole, box_as, box_of, group_state, group_word, layout_of}
use Rattle.shared_rule.specs.Whole.{leaf_of, own_word, quiet, state_at, word_at}
use Rattle.shared_rule.specs.Shows.{CoreStep, IsShown, ReadsOf, after, is_reeval, owes, reevaluates}
use Rattle.shared_rule.specs.Rule.{Each, Goes, Me, seat_of}
use Rattle.shared_rule.specs.Plays.{Sound, bound_walk, by_walk}
use Rattle.shared_rule.specs.Laws.{IsWalkAt, Stays, walk_always}
use Rattle.shared_rule.proofs.Fits.{shown_walk}
use Rattle.shared_rule.proofs.Made.{made}
use Rattle.shared_rule.proofs.Moving.{own_leaf}
use Rattle.shared_rule.proofs.Going.{allows}
use Rattle.shared_rule.proofs.Rising.{as_they_were}

-- the walk of c in a whole, at a stage, with a group of its path at a level
pub record WalksAt (o : World) (s : Whole) (c : ℕ) (ps : List PassView) (k : Walk) (at : Stage)
    (level g : ℕ) : Type 0 where
  pub shown : IsShown o s
  pub cpu : c < length o.cpus
  pub group : g < length o.groups
  pub known : Each (λ z. (z.cpu < length o.cpus) × (z ≡ s.pass z.cpu)) ps
  pub walk : (cpu_of s.world c).walk ≡ Some k
  pub stage : k.stage ≡ at
  pub path : group_at_of s.world.tree c level ≡ Some g

-- the seat of a box whose walk stands there may step, where each such whole goes on
pub at_walk : (law : CoreLaws) (o : World) (slots id : ℕ) (b : BoxView) (k : Walk)
    (ps : List PassView) (p : SharedWord) (f : ℕ → ℕ) (by : ℕ → Option CoreStep)
    (then : BoxView → ℕ → Me → Type 0) (at : Stage) (below : ℕ → ℕ) (g : ℕ) → IsWordOf (layout_of o) p
    → IsWalkAt o b k at (below k.level) g
    → ((s : Whole) (j : Walk) → b ≡ box_of o s b.cpu → forget j ≡ k
    → WalksAt o s b.cpu ps j at (below j.level) g
    → Goes o s (box_of o s b.cpu) ps p f by (then (box_of o s b.cpu)))
    → Stays o slots id b ps p f by (λ n w. then b n w × Sound w)
at_walk law o slots id b k ps p f by then at below g within may goes =
    allows law o slots id b ps p f by (then b) within
    (λ s h hc is known fits.
    subst (λ (z : BoxView). Goes o s z ps p f by (then z)) (sym is)
    (let j = shown_walk _ k (ap (λ (z : BoxView). z.own.walk) (sym is) ∙ may.walk) in
    goes s j.0 is j.2
    (record {
      shown = h;
      cpu = hc;
      group = may.group;
      known = known;
      walk = j.1;
      stage = ap (λ (z : Walk). z.stage) j.2 ∙ may.stage;
      path =
          ap (λ z. group_at_of z b.cpu (below j.0.level)) h.same.tree
          ∙ (ap (λ (z : Walk). group_at_of o.tree b.cpu (below z.level)) j.2 ∙ may.path);
    })))

-- the CPU as its box shows it after a step by which its walk goes on or ends
pub walk_ends : (o : World) (s : Whole) (c : ℕ) (k : Walk) (m : Option Walk)
    (next : BoxView → Walk → Option Walk) → (cpu_of s.world c).walk ≡ Some k
    → next (box_of o s c) (forget k) ≡ option_map forget m
    → quiet (with_walk (cpu_of s.world c) m) ≡ (by_walk next (box_of o s c)).own
walk_ends o s c k m next at e =
    (λ i. record (cpu_of s.world c) { walk = sym e i })
    ∙ (λ i. record (cpu_of s.world c) {
      walk = bound_walk (next (box_of o s c)) (option_map forget (sym at i));
    })

-- and by which it goes on
pub walk_is : (o : World) (s : Whole) (c : ℕ) (k j : Walk) (next : BoxView → Walk → Option Walk)
    → (cpu_of s.world c).walk ≡ Some k → next (box_of o s c) (forget k) ≡ Some (forget j)
    → quiet (with_walk (cpu_of s.world c) (Some j)) ≡ (by_walk next (box_of o s c)).own
walk_is o s c k j next at e = walk_ends o s c k (Some j) next at e

-- what is not read is right
pub no_reads : (t : Shape) (c : ℕ) (j : Walk) (n : ℕ) (word seq : ℕ → ℕ)
    → is_reading j.stage ≡ false → ReadsOf t c (Some j) n word seq
no_reads t c j n word seq not =
    let other : (z : Walk) → ◌≡◌ {A = Option Walk} (Some j) (Some z)
    → is_reading z.stage ≡ true → ⊥
    = λ z e rd. true≢false
    (sym rd ∙ (ap (λ (u : Walk). is_reading u.stage) (sym (same_Some _ _ e)) ∙ not)) in
    record {
      fresh = λ z m e rd there. absurd (other z e rd);
      before = λ z m e rd there. absurd (other z e rd);
      good = λ z e rd. absurd (other z e rd);
    }

module _ (law : CoreLaws) (o : World) (s : Whole) (h : IsShown o s) (c : ℕ) (j k : Walk) (n : ℕ)
    (looked : Looked) (ps : List PassView) (p : SharedWord) (f : ℕ → ℕ)
    (then : ℕ → Me → Type 0) where
  abbrev w : World
  w = s.world

  abbrev y : CpuRecord
  y = with_walk (cpu_of w c) (Some j)

  abbrev next : Whole
  next = after s 0 (group_of w 0) c y false n s.stray looked s.pass

  -- a walk is no part of any word
  words_stay : c < length w.cpus → (m : SharedWord) → word_at next m ≡ word_at s m
  words_stay hc (State m) = λ i. state_word (group_state (own_group w c y m.0 i) (s.seq m.0))
  words_stay hc (Lock m) = ap (λ (z : Group). lock_word z.lock) (own_group w c y m.0)
  words_stay hc (Slot m b) =
      ap (λ (z : Group). word_of_slot (s.stray m.0 b) (event_at z.events b)) (own_group w c y m.0)
  words_stay hc (Cpu d) = own_field w c y hc own_word refl d.0
  words_stay hc (Timer t) = refl

  -- the walk of c goes on from k to j, and nothing else changes
  pub walks_alone : c < length o.cpus
      → Each (λ z. (z.cpu < length o.cpus) × (z ≡ s.pass z.cpu)) ps
      → (cpu_of s.world c).walk ≡ Some k → MayGoOn s.world c k k.stage
      → walked s.world c k k.stage ≡ walks_on s.world c j → j.kind ≡ k.kind
      → ReadsOf s.world.tree c (Some j) n (group_word s) s.seq
      → ((m : ℕ) → owes o.tree m c (Some j) ≤ owes o.tree m c (Some k))
      → f (word_at s p) ≡ word_at s p
      → then (word_at s p) (seat_of (box_as o c y (leaf_of s.world c) n looked ∷ []) ps)
      → Goes o s (box_of o s c) ps p f (walk_always c) then
  walks_alone hc known at may is kind reads owed same told =
      let hc' : c < length w.cpus = omega (arith, hc, h.same.cpus) in
      let same_kind : (z : Walk) → ◌≡◌ {A = Option Walk} (Some j) (Some z) → z.kind ≡ k.kind
      = λ z e. ap (λ (u : Walk). u.kind) (sym (same_Some _ _ e)) ∙ kind in
      let states : group_word next ≡ group_word s = λ i m. words_stay hc' (state_at m) i in
      made law o s h c 0 (group_of w 0) y false n s.stray looked s.pass ps ps p f then
      (record {
        step = steps.Walk (record { 0 = c });
        enabled = record { in_range = hc'; made = k; walk = at; may_go_on = may };
        is = ap (walk_made w c) at ∙ is;
        plain = record { time = refl; queues = refl; journals = refl; online = refl };
        in_range = hc;
        group = inr refl;
        kept = λ z. (refl, refl);
        staying = λ z e q. h.staying c k at (sym (same_kind z e) ∙ q);
        reads = subst (λ (z : ℕ → ℕ). ReadsOf w.tree c (Some j) n z s.seq) (sym states) reads;
        owed = λ m.
            let a = owed m in
            let b : owes o.tree m c (cpu_of w c).walk ≡ owes o.tree m c (Some k)
            = ap (owes o.tree m c) at in
            omega (arith, a, b);
        few = h.few;
        opened = h.opened;
        passes = h.passes;
        flags =
            let was = h.flags c in
            record {
              idle = was.idle;
              inside = was.inside;
              wakeup = was.wakeup;
              reeval = was.reeval ∙ (ap reevaluates at ∙ ap is_reeval (sym kind));
            };
        flags_else = λ d ne. h.flags d;
        marked = λ d m.
            subst (λ z. (z ≡ Some m) ↔ Contains (s.pass m).marks d)
            (sym (own_field w c y hc' (λ z. z.mark) refl d)) (h.marked d m);
        journal = λ d. refl;
        receipts = λ d. refl;
        did = h.seen;
        leaf = leaf_of w c;
        leaf_is = sym (own_leaf w c c y);
        leaves = λ d ne. own_leaf w c d y;
        word = words_stay hc' p ∙ sym same;
        state = λ ne. refl;
        lock = λ ne. refl;
        slots = λ m low ne. refl;
        strays = λ m b ne. refl;
        cpu = λ ne. refl;
        same = refl;
        brought = as_they_were o s ps known;
        others = λ d ne. refl;
        told = told;
      })

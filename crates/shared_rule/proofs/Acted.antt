-- for crates above: a step that writes one entry into a CPU's journal, as a step of the table
use Rattle.std.proofs.Common.{◌≡◌, ◌≢◌, ◌↔◌, ◌⊎◌, ⊎_elim, ℕ, ◌-◌, ◌^◌, ◌<◌, ◌≤◌, eqb}
use Rattle.std.proofs.Common.{false, List, [], ◌∷◌, ◌++◌, length, Option, Some, None, refl, sym, ap}
use Rattle.std.proofs.Common.{◌∙◌, subst, inl, inr, arith, append_assoc, append-nil, length-append}
use Rattle.std.specs.Prelude.{Contains, slice_get}
use Rattle.std.proofs.lemmas.Bool.{cases_eq}
use Rattle.tm_base.specs.declared.names.Class.{Class}
use Rattle.cpu_bases.specs.declared.entry.Entry.{Entry}
use Rattle.cpu_bases.specs.CpuBases.{CpuBases, class_in}
use Rattle.cpu_bases.specs.Replay.{AddsReplay}
use Rattle.cpu_bases.proofs.Replays.{adds_both}
use Rattle.tree_plan.specs.Shape.{IsPlanned}
use Rattle.walk_rules.specs.Scene.{Group}
use Rattle.core_world.specs.World.{World, CpuRecord, cpu_of, group_of, own}
use Rattle.core_world.specs.declared.step.Step.{Step}
use Rattle.core_world.specs.Enabled.{Enabled}
use Rattle.core_world.specs.Lawful.{IsLawful}
use Rattle.core_world.specs.Steps.{stepped}
use Rattle.core_world.proofs.Moves.{cpu_same, cpu_else}
use Rattle.core_world.proofs.Quiet.{own_field, own_group}
use Rattle.core_state.specs.core_facts.Reach.{KeepsReach, reach_of}
use Rattle.core_state.specs.core_facts.Played.{AllPlayed}
use Rattle.core_state.specs.core_facts.Levels.{LevelsFit}
use Rattle.core_state.specs.Kept.{WorldFits}
use Rattle.shared_words.specs.declared.layout.SharedWord.{SharedWord}
use Rattle.shared_words.specs.declared.layout.SharedWord.TheVariants.{State, Lock, Slot, Cpu, Timer}
use Rattle.shared_words.specs.declared.spot.Spot.{Spot}
use Rattle.shared_words.specs.Layout.{IsWordOf, index_of}
use Rattle.shared_words.specs.Words.{lock_word, spot_word, word_of_slot}
use Rattle.event_queue.specs.EventMap.{event_at}
use Rattle.group_word.specs.State.{state_word}
use Rattle.shared_rule.specs.declared.parts.PassView.{PassView}
use Rattle.shared_rule.specs.declared.parts.Receipt.{Receipt}
use Rattle.shared_rule.specs.CoreLaws.{CoreLaws}
use Rattle.shared_rule.specs.Whole.{Whole, box_as, box_of, group_state, group_word, layout_of}
use Rattle.shared_rule.specs.Whole.{leaf_of, own_word, spot_at, timer_at, word_at}
use Rattle.shared_rule.specs.Shows.{BeginsWith, DidRight, FlagsOf, IsShown, Reads, owes}
use Rattle.shared_rule.specs.Shows.{journal_of, receipt_of, reevaluates, set_at}
use Rattle.shared_rule.specs.Rule.{Goes, Me, seat_of}
use Rattle.shared_rule.proofs.Sums.{sum_same}
use Rattle.shared_rule.proofs.Moving.{own_leaf, pass_field, set_here, set_else}
use Rattle.shared_rule.proofs.Growing.{did_stays}
use Rattle.shared_rule.proofs.Entering.{EntryFits, holder_after, noted_more}
use Rattle.shared_rule.proofs.Reaching.{reached_on}

-- a pass with the receipt of the entry e, which comes to a place of the journal of c
abbrev pub noted_pass : (c place : ℕ) → Entry → PassView → PassView
noted_pass c place e p = record p { receipts = p.receipts ++ receipt_of c place e ∷ [] }

-- the whole after such a step: c has these bases, and pass q has the receipt
abbrev pub acted : Whole → (c q : ℕ) → CpuBases → Entry → (ℕ → Option Spot) → Whole
acted s c q bases e spot = record s {
  world = own s.world c (record (cpu_of s.world c) { bases = bases });
  spot = spot;
  pass = set_at q (noted_pass c (length (journal_of s.world c)) e (s.pass q)) s.pass;
}

-- what such a step by the seat of CPU c's box has to show, with the pass p0 of q brought
pub record Acted (o : World) (s : Whole) (c q : ℕ) (bases : CpuBases) (e : Entry)
    (spot : ℕ → Option Spot) (p0 : PassView) (p : SharedWord) (f : ℕ → ℕ)
    (then : ℕ → Me → Type 0) : Type 0 where
  pub step : Step
  pub enabled : Enabled s.world step
  pub is : stepped s.world step ≡ own s.world c (record (cpu_of s.world c) { bases = bases })
  pub time : (reach_of step).time ≡ false
  pub online : (reach_of step).online ≡ false
  pub in_range : c < length o.cpus
  pub brought : p0 ≡ s.pass p0.cpu
  pub whose : p0.cpu ≡ q
  -- the entry, and what becomes of the timers of c
  pub written : bases.journal ≡ journal_of s.world c ++ e ∷ []
  pub entry : EntryFits o c q e
  pub named : (t : ℕ) (class : Class) → class_in t bases ≡ Some class
      → spot t ≡ Some (spot_at c class)
  pub named_else : (t d : ℕ) (class : Class) → d ≢ c
      → class_in t (cpu_of s.world d).bases ≡ Some class → spot t ≡ Some (spot_at d class)
  pub queued : (t : ℕ) (z : Spot) → spot t ≡ Some z
      → ((z.cpu.0 ≡ c) × (class_in t bases ≡ Some z.class))
      ⊎ ((z.cpu.0 ≢ c) × (s.spot t ≡ Some z))
  pub left : (t : ℕ) → (cpu_of o c).online ≡ false → class_in t (cpu_of s.world c).bases ≡ None
      → class_in t bases ≡ None
  -- words
  pub word : word_at (acted s c q bases e spot) p ≡ f (word_at s p)
  pub timers : (t : ℕ) → index_of (layout_of o) (timer_at t) ≢ index_of (layout_of o) p
      → spot t ≡ s.spot t
  pub told : then (word_at s p)
      (seat_of
      (box_as o c (record (cpu_of s.world c) { bases = bases }) (leaf_of s.world c) (s.read c)
      (s.looked c) ∷ [])
      (noted_pass c (length (journal_of s.world c)) e p0 ∷ []))

module _ (law : CoreLaws) (o : World) (s : Whole) (h : IsShown o s) (c q : ℕ) (bases : CpuBases)
    (e : Entry) (spot : ℕ → Option Spot) (p0 : PassView) (p : SharedWord) (f : ℕ → ℕ)
    (then : ℕ → Me → Type 0) (a : Acted o s c q bases e spot p0 p f then) where
  abbrev w : World
  w = s.world

  abbrev y : CpuRecord
  y = record (cpu_of s.world c) { bases = bases }

  abbrev v : World
  v = own s.world c y

  abbrev next : Whole
  next = acted s c q bases e spot

  abbrev mine : PassView
  mine = noted_pass c (length (journal_of s.world c)) e (s.pass q)

  hc : c < length w.cpus
  hc = omega (arith, a.in_range, h.same.cpus)

  kept : KeepsReach (reach_of a.step) w v
  kept = subst (KeepsReach (reach_of a.step) w) a.is (law.frame w a.step a.enabled)

  next_fits : WorldFits v
  next_fits = record {
    planned = subst IsPlanned (sym kept.size.tree) h.fits.planned;
    in_time = subst (λ z. z < 2 ^ 47 - 2) (sym (kept.time a.time)) h.fits.in_time;
    few = subst (λ z. z < 2 ^ 16) (sym kept.size.timers) h.fits.few;
    lawful = subst IsLawful a.is (law.steps w a.step h.fits.lawful a.enabled);
    played = subst AllPlayed a.is (law.played w a.step h.fits.lawful a.enabled h.fits.played);
    levels = subst LevelsFit a.is (law.levels w a.step h.fits.lawful a.enabled h.fits.levels);
  }

  own_cpu : cpu_of v c ≡ y
  own_cpu = cpu_same w 0 (group_of w 0) c y false hc

  else_cpu : (d : ℕ) → d ≢ c → cpu_of v d ≡ cpu_of w d
  else_cpu d ne = cpu_else w 0 (group_of w 0) c y false d ne

  walks : (d : ℕ) → (cpu_of v d).walk ≡ (cpu_of w d).walk
  walks d = own_field w c y hc (λ z. z.walk) refl d

  words : (g : ℕ) → group_word next g ≡ group_word s g
  words g = ap (λ z. state_word (group_state z (s.seq g))) (own_group w c y g)

  passes_but : {X : Type 0} (field : PassView → X) → field mine ≡ field (s.pass q) → (d : ℕ)
      → field (next.pass d) ≡ field (s.pass d)
  passes_but field is d = pass_field field s.pass q mine is d

  own_journal : journal_of v c ≡ journal_of w c ++ e ∷ []
  own_journal = ap (λ (z : CpuRecord). z.bases.journal) own_cpu ∙ a.written

  else_journal : (d : ℕ) → d ≢ c → journal_of v d ≡ journal_of w d
  else_journal d ne = ap (λ (z : CpuRecord). z.bases.journal) (else_cpu d ne)

  grows : (d : ℕ) → BeginsWith (journal_of v d) (journal_of w d)
  grows d = elim (cases_eq d c) [
    | inl is ↦
        (e ∷ [], ap (journal_of v) is ∙ (own_journal ∙ ap (λ m. journal_of w m ++ e ∷ []) (sym is)))
    | inr ne ↦ ([], else_journal d ne ∙ sym (append-nil (journal_of w d)))
  ]

  more_receipts : (d : ℕ)
      → (more : List Receipt) × ((next.pass d).receipts ≡ (s.pass d).receipts ++ more)
  more_receipts d = elim (cases_eq d q) [
    | inl is ↦
        let r = receipt_of c (length (journal_of w c)) e in (
          r ∷ [],
          ap (λ m. (next.pass m).receipts) is
              ∙ (ap (λ (z : PassView). z.receipts) (set_here q mine s.pass)
              ∙ ap (λ m. (s.pass m).receipts ++ r ∷ []) (sym is)),
        )
    | inr ne ↦ (
      [],
      ap (λ (z : PassView). z.receipts) (set_else q mine s.pass d ne)
          ∙ sym (append-nil (s.pass d).receipts),
    )
  ]

  begun_at : length (journal_of o c) ≤ length (journal_of w c)
  begun_at =
      let r = h.replayed c in
      grown (journal_of o c) r.more (journal_of w c) r.grows
    where
      grown : (xs ys zs : List Entry) → zs ≡ xs ++ ys → length xs ≤ length zs
      grown xs ys zs is = omega (arith, ap length is, length-append xs ys)

  next_reads : (d : ℕ) → Reads next d
  next_reads d =
      let was = h.reads d in
      record {
        fresh = λ k m at rd here.
            was.fresh k m (sym (walks d) ∙ at) rd here ∙ ap (λ z. eqb z (s.read d)) (sym (words m));
        before = λ k m at rd here. was.before k m (sym (walks d) ∙ at) rd here;
        good = λ k at rd. was.good k (sym (walks d) ∙ at) rd;
      }

  next_named : (t d : ℕ) (class : Class) → class_in t (cpu_of v d).bases ≡ Some class
      → spot t ≡ Some (spot_at d class)
  next_named t d class is = elim (cases_eq d c) [
    | inl same ↦
        a.named t class
        (ap (λ (z : CpuRecord). class_in t z.bases) (sym own_cpu)
        ∙ (ap (λ m. class_in t (cpu_of v m).bases) (sym same) ∙ is))
        ∙ ap (λ m. Some (spot_at m class)) (sym same)
    | inr ne ↦
        a.named_else t d class ne
        (ap (λ (z : CpuRecord). class_in t z.bases) (sym (else_cpu d ne)) ∙ is)
  ]

  next_queued : (t : ℕ) (z : Spot) → spot t ≡ Some z
      → (z.cpu.0 < length o.cpus) × (class_in t (cpu_of v z.cpu.0).bases ≡ Some z.class)
  next_queued t z is = ⊎_elim
      (λ (m : (z.cpu.0 ≡ c) × (class_in t bases ≡ Some z.class)). (
        omega (arith, m.0, a.in_range),
        ap (λ d. class_in t (cpu_of v d).bases) m.0
            ∙ (ap (λ (x : CpuRecord). class_in t x.bases) own_cpu ∙ m.1),
      ))
      (λ (m : (z.cpu.0 ≢ c) × (s.spot t ≡ Some z)).
      let was = h.queued t z m.1 in
      (was.0, ap (λ (x : CpuRecord). class_in t x.bases) (else_cpu z.cpu.0 m.0) ∙ was.1))
      (a.queued t z is)

  next_journals : (d : ℕ) → BeginsWith (journal_of v d) (next.pass d).journal
  next_journals d =
      let j = h.journals d in
      let g = grows d in
      let pj = passes_but (λ z. z.journal) refl d in (
        j.0 ++ g.0,
        g.1
            ∙ (ap (λ l. l ++ g.0) j.1
            ∙ (append_assoc (s.pass d).journal j.0 g.0 ∙ ap (λ l. l ++ (j.0 ++ g.0)) (sym pj))),
      )

  next_flags : (d : ℕ) → FlagsOf (cpu_of v d) (next.pass d)
  next_flags d =
      let was = h.flags d in
      record {
        idle =
            passes_but (λ z. z.idle) refl d
            ∙ (was.idle ∙ sym (own_field w c y hc (λ z. z.idle) refl d));
        inside =
            passes_but (λ z. z.inside) refl d
            ∙ (was.inside ∙ sym (own_field w c y hc (λ z. z.inside) refl d));
        wakeup =
            passes_but (λ z. z.wakeup) refl d
            ∙ (was.wakeup ∙ sym (own_field w c y hc (λ z. z.wakeup) refl d));
        reeval =
            passes_but (λ z. z.reeval) refl d
            ∙ (was.reeval ∙ ap reevaluates (sym (walks d)));
      }

  next_left : (d t : ℕ) → (cpu_of o d).online ≡ false → class_in t (cpu_of o d).bases ≡ None
      → class_in t (cpu_of v d).bases ≡ None
  next_left d t off none = elim (cases_eq d c) [
    | inl is ↦
        let off' = ap (λ m. (cpu_of o m).online) (sym is) ∙ off in
        let was = h.left c t off' (ap (λ m. class_in t (cpu_of o m).bases) (sym is) ∙ none) in
        ap (λ m. class_in t (cpu_of v m).bases) is
        ∙ (ap (λ (z : CpuRecord). class_in t z.bases) own_cpu ∙ a.left t off' was)
    | inr ne ↦
        ap (λ (z : CpuRecord). class_in t z.bases) (else_cpu d ne) ∙ h.left d t off none
  ]

  pub next_shown : IsShown o next
  next_shown = record {
    opening = h.opening;
    fits = next_fits;
    reached = reached_on o w v a.step h.reached a.enabled a.is;
    same = record {
      tree = kept.size.tree ∙ h.same.tree;
      groups = kept.size.groups ∙ h.same.groups;
      slots = λ m. kept.size.slots m ∙ h.same.slots m;
      cpus = kept.size.cpus ∙ h.same.cpus;
      timers = kept.size.timers ∙ h.same.timers;
    };
    clock = kept.time a.time ∙ h.clock;
    online = λ d. (kept.cpu d).online a.online ∙ h.online d;
    staying = λ d k at. h.staying d k (sym (walks d) ∙ at);
    reads = next_reads;
    bound = λ g.
        let n = length o.cpus in
        let owed = sum_same n (λ d. owes o.tree g d (cpu_of w d).walk)
        (λ d. owes o.tree g d (cpu_of v d).walk) (λ d low. ap (owes o.tree g d) (walks d)) in
        let begun = sum_same n (λ d. (s.pass d).walks) (λ d. (next.pass d).walks)
        (λ d low. passes_but (λ z. z.walks) refl d) in
        omega (arith, owed, begun, h.bound g);
    few = λ d. subst (λ n. n < 2 ^ 32) (sym (passes_but (λ z. z.walks) refl d)) (h.few d);
    opened = λ d. passes_but (λ z. z.opening) refl d ∙ h.opened d;
    passes = λ d. passes_but (λ z. z.cpu) refl d ∙ h.passes d;
    flags = next_flags;
    marked = λ d m.
        subst (λ x. (x ≡ Some m) ↔ Contains (next.pass m).marks d)
        (sym (own_field w c y hc (λ z. z.mark) refl d))
        (subst (λ l. ((cpu_of w d).mark ≡ Some m) ↔ Contains l d)
        (sym (passes_but (λ z. z.marks) refl m)) (h.marked d m));
    named = next_named;
    queued = next_queued;
    replayed = λ d.
        adds_both (cpu_of o d).bases (cpu_of w d).bases (cpu_of v d).bases (h.replayed d)
        (subst (λ (z : World). AddsReplay (cpu_of w d).bases (cpu_of z d).bases) a.is
        (law.adds w a.step h.fits.lawful a.enabled d));
    journals = next_journals;
    parted = λ d.
        let j = h.parted d in
        (j.0, passes_but (λ z. z.journal) refl d ∙ j.1);
    noted = (
      holder_after h.noted.0 c (length (journal_of w c)) (q, length (s.pass q).receipts),
      noted_more o w v s.pass next.pass h.noted.0 c q e a.entry begun_at own_journal else_journal
          (ap (λ (z : PassView). z.receipts) (set_here q mine s.pass))
          (λ d ne. ap (λ (z : PassView). z.receipts) (set_else q mine s.pass d ne)) h.noted.1,
    );
    seen = λ d i x at.
        let m = more_receipts d in
        subst (λ l. DidRight o v l x) (sym m.1)
        (did_stays o w v grows (s.pass d).receipts m.0 x
        (h.seen d i x
        (ap (λ l. slice_get l i) (sym (passes_but (λ z. z.did) refl d)) ∙ at)));
    left = next_left;
  }

  abbrev at' : SharedWord → ℕ
  at' = index_of (layout_of o)

  frame : (m : SharedWord) → IsWordOf (layout_of o) m → at' m ≢ at' p
      → word_at next m ≡ word_at s m
  frame (State g) low ne = words g.0
  frame (Lock g) low ne = ap (λ (z : Group). lock_word z.lock) (own_group w c y g.0)
  frame (Slot g k) low ne =
      ap (λ (z : Group). word_of_slot (s.stray g.0 k) (event_at z.events k)) (own_group w c y g.0)
  frame (Cpu d) low ne = own_field w c y hc own_word refl d.0
  frame (Timer t) low ne = ap spot_word (a.timers t.0 ne)

  pub acts : Goes o s (box_of o s c) (p0 ∷ []) p f (λ n. Some a.step) then
  acts =
      let whose : p0 ≡ s.pass q = a.brought ∙ ap s.pass a.whose in
      record {
        next = next;
        box = box_as o c y (leaf_of w c) (s.read c) (s.looked c);
        passes = noted_pass c (length (journal_of w c)) e p0 ∷ [];
        shown = next_shown;
        makes = (a.enabled, sym a.is);
        word = a.word;
        words = frame;
        own = λ i. box_as o c (sym own_cpu i) (sym (own_leaf w c c y) i) (s.read c) (s.looked c);
        boxes = λ d ne. λ i.
            box_as o d (else_cpu d ne i) (own_leaf w c d y i) (s.read d) (s.looked d);
        same = refl;
        brought = (
          ap (noted_pass c (length (journal_of w c)) e) whose
              ∙ (sym (set_here q mine s.pass) ∙ ap next.pass (sym a.whose)),
          tt,
        );
        others = λ d ne. set_else q mine s.pass d (λ z. ne.0 (a.whose ∙ sym z));
        told = a.told;
      }

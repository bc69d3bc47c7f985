-- for crates above: a step of the core that leaves all timers, as a step of the table
use Rattle.std.proofs.Common.{◌≡◌, ◌≢◌, ◌↔◌, ◌⊎◌, ⊎_elim, ℕ, suc, ◌+◌, ◌-◌, ◌^◌, ◌<◌, ◌≤◌, eqb}
use Rattle.std.proofs.Common.{eq-eqb, ne_eqb, cond, Bool, true, false, List, [], ◌∷◌, ◌++◌, map}
use Rattle.std.proofs.Common.{length, Option, Some, refl, sym, ap, ◌∙◌, subst, inl, inr}
use Rattle.std.proofs.Common.{arith}
use Rattle.std.specs.Prelude.{option_map, Contains, slice_get}
use Rattle.std.proofs.lemmas.Bool.{cases_eq}
use Rattle.std.proofs.lemmas.List.{get_or-set_same, get_or-set_other, set-get_or}
use Rattle.group_word.specs.State.{state_word, IsStateOf}
use Rattle.event_queue.specs.declared.event.Event.{Event}
use Rattle.event_queue.specs.EventMap.{event_at}
use Rattle.cpu_bases.specs.CpuBases.{CpuBases, class_in}
use Rattle.cpu_bases.specs.Replay.{AddsReplay}
use Rattle.tree_plan.specs.Shape.{IsPlanned}
use Rattle.walk_rules.specs.declared.walk.Walk.{Walk}
use Rattle.walk_rules.specs.declared.walk.WalkKind.TheVariants as kinds
use Rattle.walk_rules.specs.Scene.{Group, no_group}
use Rattle.walk_rules.specs.Stages.{forget}
use Rattle.core_world.specs.World.{World, CpuRecord, cpu_of, group_of, moved}
use Rattle.core_world.specs.declared.step.Step.{Step}
use Rattle.core_world.specs.Enabled.{Enabled}
use Rattle.core_world.specs.Lawful.{IsLawful}
use Rattle.core_world.specs.Steps.{stepped}
use Rattle.core_world.proofs.Moves.{cpu_same, cpu_else, beside}
use Rattle.core_state.specs.core_facts.Reach.{Reach, reach_of, KeepsReach}
use Rattle.core_state.specs.core_facts.Played.{AllPlayed}
use Rattle.core_state.specs.core_facts.Levels.{LevelsFit}
use Rattle.core_state.specs.Kept.{WorldFits}
use Rattle.shared_rule.specs.declared.parts.PassView.{PassView}
use Rattle.shared_rule.specs.declared.parts.Looked.{Looked}
use Rattle.shared_rule.specs.CoreLaws.{CoreLaws}
use Rattle.shared_words.specs.declared.layout.SharedWord.{SharedWord}
use Rattle.shared_words.specs.declared.layout.SharedWord.TheVariants.{State, Lock, Slot, Cpu, Timer}
use Rattle.shared_words.specs.Layout.{IsWordOf, index_of}
use Rattle.shared_words.specs.Words.{lock_word, word_of_slot}
use Rattle.shared_words.proofs.Back.{seq_of}
use Rattle.shared_rule.specs.Whole.{layout_of, state_at, lock_at, slot_at, cpu_at, Whole, word_at}
use Rattle.shared_rule.specs.Whole.{box_of, box_as, quiet, own_word, group_word, group_state}
use Rattle.shared_rule.specs.Whole.{leaf_of}
use Rattle.shared_rule.specs.declared.parts.Did.{Did}
use Rattle.shared_rule.specs.Shows.{IsShown, FlagsOf, Reads, ReadsOf, owes, sum_to}
use Rattle.shared_rule.specs.Shows.{raised, after, journal_of, DidRight}
use Rattle.shared_rule.specs.Rule.{Each, Me, seat_of, pass_cpu, Goes}
use Rattle.shared_rule.proofs.Sums.{sum_swap}
use Rattle.shared_rule.proofs.Fits.{shown_walk, seq_low}
use Rattle.shared_rule.proofs.Moving.{set_here, set_else, quiet_else, owes_else, field_else}
use Rattle.shared_rule.proofs.Noting.{did_same, noted_same}
use Rattle.shared_rule.proofs.Reaching.{reached_on}
use Rattle.shared_rule.proofs.Stale.{flags_beside, stale_reads}

-- a step that leaves time, timers and which CPUs are online
pub record IsPlain (r : Reach) : Type 0 where
  pub time : r.time ≡ false
  pub queues : r.queues ≡ false
  pub journals : r.journals ≡ false
  pub online : r.online ≡ false

-- what such a step by the seat of CPU c's box has to show, with the passes ps that become qs
pub record Made (o : World) (s : Whole) (c g : ℕ) (x : Group) (y : CpuRecord) (r : Bool) (n : ℕ)
    (stray : ℕ → ℕ → Bool) (looked : Looked) (pass : ℕ → PassView) (ps qs : List PassView)
    (p : SharedWord) (f : ℕ → ℕ) (then : ℕ → Me → Type 0) : Type 0 where
  pub step : Step
  pub enabled : Enabled s.world step
  pub is : stepped s.world step ≡ moved s.world g x c y r
  pub plain : IsPlain (reach_of step)
  pub in_range : c < length o.cpus
  pub group : (g < length o.groups) ⊎ (x ≡ group_of s.world g)
  pub kept : r ≡ false → (x.active ≡ (group_of s.world g).active)
      × (x.migrator ≡ (group_of s.world g).migrator)
  pub staying : (k : Walk) → y.walk ≡ Some k → k.kind ≢ kinds.Offline
  pub reads : ReadsOf s.world.tree c y.walk n (group_word (after s g x c y r n stray looked pass))
      (raised r g s.seq)
  pub owed : (m : ℕ) → raised r g s.seq m + owes o.tree m c y.walk + sum_to (length o.cpus)
      (λ d. (s.pass d).walks) ≤ s.seq m + owes o.tree m c (cpu_of s.world c).walk + sum_to
      (length o.cpus) (λ d. (pass d).walks)
  pub few : (d : ℕ) → (pass d).walks < 2 ^ 32
  pub opened : (d : ℕ) → (pass d).opening ≡ o
  pub passes : (d : ℕ) → (pass d).cpu ≡ d
  pub flags : FlagsOf y (pass c)
  pub flags_else : (d : ℕ) → d ≢ c → FlagsOf (cpu_of s.world d) (pass d)
  pub marked : (d b : ℕ) → ((cpu_of (moved s.world g x c y r) d).mark ≡ Some b) ↔ Contains
      (pass b).marks d
  pub journal : (d : ℕ) → (pass d).journal ≡ (s.pass d).journal
  pub receipts : (d : ℕ) → (pass d).receipts ≡ (s.pass d).receipts
  pub did : (d i : ℕ) (z : Did) → slice_get (pass d).did i ≡ Some z
      → DidRight o s.world (s.pass d).receipts z
  pub leaf : Option Event
  pub leaf_is : leaf ≡ leaf_of (moved s.world g x c y r) c
  pub leaves : (d : ℕ) → d ≢ c → leaf_of (moved s.world g x c y r) d ≡ leaf_of s.world d
  pub word : word_at (after s g x c y r n stray looked pass) p ≡ f (word_at s p)
  pub state : index_of (layout_of o) (state_at g) ≢ index_of (layout_of o) p
      → state_word (group_state x (raised r g s.seq g)) ≡ group_word s g
  pub lock : index_of (layout_of o) (lock_at g) ≢ index_of (layout_of o) p
      → x.lock ≡ (group_of s.world g).lock
  pub slots : (k : ℕ) → k < 8 → index_of (layout_of o) (slot_at g k) ≢ index_of (layout_of o) p
      → word_of_slot (stray g k) (event_at x.events k)
      ≡ word_of_slot (s.stray g k) (event_at (group_of s.world g).events k)
  pub strays : (m k : ℕ) → m ≢ g → stray m k ≡ s.stray m k
  pub cpu : index_of (layout_of o) (cpu_at c) ≢ index_of (layout_of o) p
      → own_word y ≡ own_word (cpu_of s.world c)
  pub same : map pass_cpu qs ≡ map pass_cpu ps
  pub brought : Each (λ z. z ≡ pass z.cpu) qs
  pub others : (d : ℕ) → Each (λ z. z.cpu ≢ d) ps → pass d ≡ s.pass d
  pub told : then (word_at s p) (seat_of (box_as o c y leaf n looked ∷ []) qs)

module _ (law : CoreLaws) (o : World) (s : Whole) (h : IsShown o s) (c g : ℕ) (x : Group)
    (y : CpuRecord) (r : Bool) (n : ℕ) (stray : ℕ → ℕ → Bool)
    (looked : Looked) (pass : ℕ → PassView)
    (ps qs : List PassView) (p : SharedWord) (f : ℕ → ℕ) (then : ℕ → Me → Type 0)
    (q : Made o s c g x y r n stray looked pass ps qs p f then) where
  abbrev v : World
  v = moved s.world g x c y r

  abbrev next : Whole
  next = after s g x c y r n stray looked pass

  keeps : KeepsReach (reach_of q.step) s.world v
  keeps = subst (KeepsReach (reach_of q.step) s.world) q.is (law.frame s.world q.step q.enabled)

  pub next_fits : WorldFits v
  next_fits = record {
    planned = subst IsPlanned (sym keeps.size.tree) h.fits.planned;
    in_time = subst (λ z. z < 2 ^ 47 - 2) (sym (keeps.time q.plain.time)) h.fits.in_time;
    few = subst (λ z. z < 2 ^ 16) (sym keeps.size.timers) h.fits.few;
    lawful = subst IsLawful q.is (law.steps s.world q.step h.fits.lawful q.enabled);
    played = subst AllPlayed q.is (law.played s.world q.step h.fits.lawful q.enabled h.fits.played);
    levels = subst LevelsFit q.is (law.levels s.world q.step h.fits.lawful q.enabled h.fits.levels);
  }

  bases : (d : ℕ) → (cpu_of v d).bases ≡ (cpu_of s.world d).bases
  bases d = let k = keeps.cpu d in λ i. record {
    bases = k.queues q.plain.queues i;
    journal = k.unwritten q.plain.journals i;
  }

  journal : (d : ℕ) → journal_of v d ≡ journal_of s.world d
  journal d = ap (λ (b : CpuBases). b.journal) (bases d)

  own_cpu : cpu_of v c ≡ y
  own_cpu = cpu_same s.world g x c y r (omega (arith, q.in_range, h.same.cpus))

  else_cpu : (d : ℕ) → d ≢ c → cpu_of v d ≡ beside s.world.tree r g d (cpu_of s.world d)
  else_cpu d ne = cpu_else s.world g x c y r d ne

  own_group : group_of v g ≡ x
  own_group = ⊎_elim (λ low. get_or-set_same s.world.groups g x no_group
      (omega (arith, low, h.same.groups)))
      (λ same. ap (λ z. group_of (moved s.world g z c y r) g) same
      ∙ (ap (λ l. slice_or l) (set-get_or s.world.groups g no_group) ∙ sym same)) q.group
    where
      slice_or : List Group → Group
      slice_or l = group_of (record s.world { groups = l }) g

  else_group : (m : ℕ) → m ≢ g → group_of v m ≡ group_of s.world m
  else_group m ne = get_or-set_other s.world.groups g m x no_group ne

  else_seq : (m : ℕ) → m ≢ g → raised r g s.seq m ≡ s.seq m
  else_seq m ne = by_raise r
    where
      by_raise : (b : Bool) → raised b g s.seq m ≡ s.seq m
      by_raise true = ap (λ b. cond b (suc (s.seq m)) (s.seq m)) (ne_eqb m g ne)
      by_raise false = refl

  seq_grows : (b : Bool) (m : ℕ) → (s.seq m ≤ raised b g s.seq m)
      × (raised b g s.seq m ≤ suc (s.seq m))
  seq_grows true m = by_test (eqb m g)
    where
      by_test : (b : Bool) → (s.seq m ≤ cond b (suc (s.seq m)) (s.seq m))
          × (cond b (suc (s.seq m)) (s.seq m) ≤ suc (s.seq m))
      by_test true = (omega arith, omega arith)
      by_test false = (omega arith, omega arith)
  seq_grows false m = (omega arith, omega arith)

  else_word : (m : ℕ) → m ≢ g → group_word next m ≡ group_word s m
  else_word m ne = λ i. state_word (group_state (else_group m ne i) (else_seq m ne i))

  pub here_word : group_word next g ≡ state_word (group_state x (raised r g s.seq g))
  here_word = ap (λ z. state_word (group_state z (raised r g s.seq g))) own_group

  same_word : r ≡ false → (m : ℕ) → group_word next m ≡ group_word s m
  same_word no' m = let kept = q.kept no' in elim (cases_eq m g) [
    | inl e ↦ ap (group_word next) e ∙ (here_word ∙
        ((λ i. state_word (record {
          active = kept.0 i;
          migrator = kept.1 i;
          seq = raised
              (no' i) g s.seq g;
        })) ∙ ap (group_word s) (sym e)))
    | inr ne ↦ else_word m ne
  ]

  spells_next : (m : ℕ) → IsStateOf (group_word next m)
      (group_state (group_of v m) (raised r g s.seq m))
  spells_next m =
      let low = seq_low law o s h m in
      let up = (seq_grows r m).1 in
      record {
        lawful = record {
          eight_children = next_fits.lawful.groups.eight m;
          group = next_fits.lawful.groups.law m;
          sequence = omega (arith, low, up);
        };
        spelled = refl;
      }

  else_reads : (d : ℕ) → d ≢ c → Reads next d
  else_reads d ne =
      subst (λ (z : CpuRecord). ReadsOf s.world.tree d z.walk (next.read d) (group_word next)
      (raised r g s.seq)) (sym (else_cpu d ne))
      (subst (λ m. ReadsOf s.world.tree d (beside s.world.tree r g d (cpu_of s.world d)).walk m
      (group_word next) (raised r g s.seq)) (sym (set_else c n s.read d ne)) (by_raise r refl))
    where
      by_raise : (b : Bool) → r ≡ b → ReadsOf s.world.tree d
          (beside s.world.tree b g d (cpu_of s.world d)).walk (s.read d) (group_word next)
          (raised r g s.seq)
      by_raise true up =
          let risen : raised r g s.seq g ≡ suc (s.seq g) = ap (λ b. raised b g s.seq g) up
          ∙ ap (λ b. cond b (suc (s.seq g)) (s.seq g)) (eq-eqb g g refl) in
          stale_reads s.world.tree g d (s.read d) (group_word s) (group_word next) s.seq
          (raised r g s.seq) (λ m. (seq_grows r m).0)
          (seq_of _ _ (spells_next g) ∙ risen) else_word (cpu_of s.world d).walk (h.reads d)
      by_raise false no' =
          let was = h.reads d in record {
            fresh = λ k m at rd here. was.fresh k m at rd here
                ∙ ap (λ z. eqb z (s.read d)) (sym (same_word no' m));
            before = λ k m at rd here. let a = was.before k m at rd here in let b =
                (seq_grows r m).0 in omega (arith, a, b);
            good = was.good;
          }

  walk_kind : (d : ℕ) → d ≢ c → (k : Walk) → (cpu_of v d).walk ≡ Some k → k.kind ≢ kinds.Offline
  walk_kind d ne k at =
      let e : option_map forget (cpu_of s.world d).walk ≡ Some (forget k) = sym
      (ap (λ (z : CpuRecord). z.walk) (quiet_else s.world.tree r g d (cpu_of s.world d)))
      ∙ (sym (ap (λ (z : CpuRecord). option_map forget z.walk) (else_cpu d ne))
      ∙ ap (option_map forget) at) in
      let j = shown_walk (cpu_of s.world d).walk (forget k) e in
      λ z. h.staying d j.0 j.1 (ap (λ (w : Walk). w.kind) j.2 ∙ z)

  pub next_shown : IsShown o next
  next_shown = record {
    opening = h.opening;
    fits = next_fits;
    reached = reached_on o s.world v q.step h.reached q.enabled q.is;
    same = record {
      tree = keeps.size.tree ∙ h.same.tree;
      groups = keeps.size.groups
          ∙ h.same.groups;
      slots = λ m. keeps.size.slots m ∙ h.same.slots m;
      cpus = keeps.size.cpus
          ∙ h.same.cpus;
      timers = keeps.size.timers ∙ h.same.timers;
    };
    clock = keeps.time q.plain.time ∙ h.clock;
    online = λ d. (keeps.cpu d).online q.plain.online ∙ h.online d;
    staying = λ d k at. elim (cases_eq d c) [
      | inl e ↦ q.staying k (sym (ap (λ (z : CpuRecord). z.walk) own_cpu)
          ∙ (ap (λ m. (cpu_of v m).walk) (sym e) ∙ at))
      | inr ne ↦ walk_kind d ne k at
    ];
    reads = λ d. elim (cases_eq d c) [
      | inl e ↦ subst (Reads next) (sym e) (subst (λ
          (z : CpuRecord). ReadsOf s.world.tree c z.walk (next.read c) (group_word next)
          (raised r g s.seq)) (sym own_cpu)
          (subst (λ m. ReadsOf s.world.tree c y.walk m (group_word next) (raised r g s.seq))
          (sym (set_here c n s.read)) q.reads))
      | inr ne ↦ else_reads d ne
    ];
    bound = λ m.
        let rest = sum_swap (length o.cpus) c (λ d. owes o.tree m d (cpu_of s.world d).walk)
        (λ d. owes o.tree m d (cpu_of v d).walk) q.in_range
        (λ d ne. ap (λ (z : CpuRecord). owes o.tree m d z.walk) (else_cpu d ne)
        ∙ (subst (λ t. owes o.tree m d (beside t r g d
        (cpu_of s.world d)).walk ≡ owes o.tree m d (cpu_of s.world d).walk) (sym h.same.tree)
        (owes_else o.tree r g m d (cpu_of s.world d)))) in
        let here : owes o.tree m c (cpu_of v c).walk ≡ owes o.tree m c y.walk = ap
        (λ (z : CpuRecord). owes o.tree m c z.walk) own_cpu in
        let less = q.owed m in
        let was = h.bound m in
        omega (arith, rest, here, less, was);
    few = q.few;
    opened = q.opened;
    passes = q.passes;
    flags = λ d. elim (cases_eq d c) [
      | inl e ↦ subst (λ m. FlagsOf (cpu_of v m) (pass m)) (sym e)
          (subst (λ z. FlagsOf z (pass c)) (sym own_cpu) q.flags)
      | inr ne ↦ subst (λ z. FlagsOf z (pass d)) (sym (else_cpu d ne))
          (flags_beside s.world.tree r g d (cpu_of s.world d) (pass d) (q.flags_else d ne))
    ];
    marked = q.marked;
    named = λ t d class e. h.named t d class (ap (class_in t) (sym (bases d)) ∙ e);
    queued = λ t p e. let z = h.queued t p e in (z.0, ap (class_in t) (bases p.cpu.0) ∙ z.1);
    replayed = λ d. subst (AddsReplay (cpu_of o d).bases) (sym (bases d)) (h.replayed d);
    journals = λ d. let j = h.journals d in (
      j.0,
      ap (λ (b : CpuBases). b.journal) (bases d)
          ∙ (j.1 ∙ ap (λ z. z ++ j.0) (sym (q.journal d))),
    );
    parted = λ d. let j = h.parted d in (j.0, q.journal d ∙ j.1);
    noted = (h.noted.0, noted_same o s.world v journal s.pass pass h.noted.0 q.receipts h.noted.1);
    seen = λ d i z at. subst (λ l. DidRight o v l z) (sym (q.receipts d))
        (did_same o s.world v journal (s.pass d).receipts z (q.did d i z at));
    left = λ d t off none. ap (class_in t) (bases d) ∙ h.left d t off none;
  }

  abbrev at' : SharedWord → ℕ
  at' = index_of (layout_of o)

  pub frame : (a : SharedWord) → IsWordOf (layout_of o) a → at' a ≢ at' p
      → word_at next a ≡ word_at s a
  frame (State m) low ne = elim (cases_eq m.0 g) [
    | inl e ↦ ap (group_word next) e ∙ (here_word ∙
        (q.state (λ z. ne (ap (λ k. at' (state_at k)) e ∙ z)) ∙ ap (group_word s) (sym e)))
    | inr other ↦ else_word m.0 other
  ]
  frame (Lock m) low ne = elim (cases_eq m.0 g) [
    | inl e ↦ ap (λ k. lock_word (group_of v k).lock) e
        ∙ (ap (λ (z : Group). lock_word z.lock) own_group
        ∙ (ap lock_word (q.lock (λ z. ne (ap (λ k. at' (lock_at k)) e ∙ z)))
        ∙ ap (λ k. lock_word (group_of s.world k).lock) (sym e)))
    | inr other ↦ ap (λ (z : Group). lock_word z.lock) (else_group m.0 other)
  ]
  frame (Slot m k) low ne = elim (cases_eq m.0 g) [
    | inl e ↦
        ap (λ j. word_of_slot (stray j k) (event_at (group_of v j).events k)) e
        ∙ (ap (λ (z : Group). word_of_slot (stray g k) (event_at z.events k)) own_group
        ∙ (q.slots k low.1 (λ z. ne (ap (λ j. at' (slot_at j k)) e ∙ z))
        ∙ ap (λ j. word_of_slot (s.stray j k) (event_at (group_of s.world j).events k)) (sym e)))
    | inr other ↦
        λ i. word_of_slot (q.strays m.0 k other i) (event_at (else_group m.0 other i).events k)
  ]
  frame (Cpu d) low ne = elim (cases_eq d.0 c) [
    | inl e ↦ ap (λ m. own_word (cpu_of v m)) e ∙ (ap own_word own_cpu
        ∙ (q.cpu (λ z. ne (ap (λ k. at' (cpu_at k)) e ∙ z))
        ∙ ap (λ m. own_word (cpu_of s.world m)) (sym e)))
    | inr other ↦ ap own_word (else_cpu d.0 other) ∙ field_else own_word
        (λ z m. refl) s.world.tree r g d.0 (cpu_of s.world d.0)
  ]
  frame (Timer t) low ne = refl

  else_box : (d : ℕ) → d ≢ c → box_of o next d ≡ box_of o s d
  else_box d ne =
      let e : quiet (cpu_of v d) ≡ quiet (cpu_of s.world d) = ap quiet (else_cpu d ne)
      ∙ quiet_else s.world.tree r g d (cpu_of s.world d) in
      λ i. record {
        opening = o;
        cpu = d;
        own = e i;
        leaf = q.leaves d ne i;
        read = set_else c n s.read d ne i;
        looked = set_else c looked s.looked d ne i;
      }

  pub made : Goes o s (box_of o s c) ps p f (λ n. Some q.step) then
  made = record {
    next = next;
    box = box_as o c y q.leaf n looked;
    passes = qs;
    shown = next_shown;
    makes = (q.enabled, sym q.is);
    word = q.word;
    words = frame;
    own = λ i. box_as o c (sym own_cpu i) (q.leaf_is i) (sym (set_here c n s.read) i)
        (sym (set_here c looked s.looked) i);
    boxes = else_box;
    same = q.same;
    brought = q.brought;
    others = q.others;
    told = q.told;
  }

-- for crates above: a walk that leaves exchanges its group's word, unless it has changed
use Rattle.std.proofs.Common.{◌≡◌, ◌≢◌, ◌↔◌, ℕ, zero, suc, ◌+◌, ◌<◌, ◌≤◌, eqb, eq-eqb, ne_eqb, cond}
use Rattle.std.proofs.Common.{Bool, true, false, true≢false, List, [], ◌∷◌, length, Some}
use Rattle.std.proofs.Common.{refl, sym, ap, ◌∙◌, subst, inl, inr, arith}
use Rattle.std.specs.Prelude.{Contains, nat_le, unwrap_or}
use Rattle.std.proofs.lemmas.Bool.{cases_eq}
use Rattle.std.proofs.lemmas.List.{get_or-set_same}
use Rattle.std.proofs.lemmas.Option.{same_Some}
use prog.Atomic.{either}
use Rattle.event_queue.specs.EventMap.{EventMap, event_at}
use Rattle.group_word.specs.State.{IsStateOf, state_word, swapped_state}
use Rattle.walk_rules.specs.declared.walk.Walk.{Walk}
use Rattle.walk_rules.specs.declared.walk.WalkKind.{WalkKind}
use Rattle.walk_rules.specs.declared.walk.WalkKind.TheVariants as kinds
use Rattle.walk_rules.specs.declared.walk.Stage.TheVariants as stages
use Rattle.walk_rules.specs.Hierarchy.{side}
use Rattle.walk_rules.specs.Scene.{Group, no_group}
use Rattle.walk_rules.specs.Standing.{FitsStage, is_leaving}
use Rattle.walk_rules.specs.Stages.{first_lock, left_by, swap_next}
use Rattle.core_world.specs.declared.step.Step.TheVariants as steps
use Rattle.core_world.specs.Enabled.{MayGoOn}
use Rattle.core_world.specs.Steps.{here, swapped, walk_made, walked, with_walk}
use Rattle.core_world.specs.World.{World, CpuRecord, cpu_of, group_of, is_reading, moved}
use Rattle.core_state.specs.core_facts.Exchanges.{stage_number}
use Rattle.shared_words.specs.Exchanges.{IsSwapOf}
use Rattle.shared_words.specs.Words.{word_of_slot}
use Rattle.shared_rule.specs.declared.parts.BoxView.{BoxView}
use Rattle.shared_rule.specs.declared.parts.PassView.{PassView}
use Rattle.shared_rule.specs.CoreLaws.{CoreLaws}
use Rattle.shared_rule.specs.Whole.{Whole, box_of, group_state, group_word, leaf_of, quiet}
use Rattle.shared_rule.specs.Whole.{state_at}
use Rattle.shared_rule.specs.Shows.{after, exchanges, owes, raised, reevaluates}
use Rattle.shared_rule.specs.Rule.{Goes, Me, seat_of}
use Rattle.shared_rule.specs.Plays.{on_box, swap_box, swapped_walk}
use Rattle.shared_rule.specs.Laws.{SwapStays, walk_always}
use Rattle.shared_rule.proofs.Fits.{good_state}
use Rattle.shared_rule.proofs.Made.{made}
use Rattle.shared_rule.proofs.Moving.{cpu_field, leaf_stays}
use Rattle.shared_rule.proofs.Owing.{past_owes}
use Rattle.shared_rule.proofs.Reading.{reads_anew}
use Rattle.shared_rule.proofs.Rising.{as_they_were}
use Rattle.shared_rule.proofs.Walking.{WalksAt, at_walk, no_reads, walk_is}

-- where a child leaves, or stays
left_events : (on : Bool) (x : Group) (k : ℕ) → (left_by on x k).events ≡ x.events
left_events true x k = refl
left_events false x k = refl

left_lock : (on : Bool) (x : Group) (k : ℕ) → (left_by on x k).lock ≡ x.lock
left_lock true x k = refl
left_lock false x k = refl

left_state : (on : Bool) (x : Group) (k q : ℕ)
    → group_state (left_by on x k) (q + 1) ≡ swapped_state (group_state x q) k on
left_state true x k q = refl
left_state false x k q = refl

lock_reads : (level : ℕ) → is_reading (first_lock level) ≡ false
lock_reads zero = refl
lock_reads (suc l) = refl

lock_past : (level : ℕ) → nat_le 5 (stage_number (first_lock level)) ≡ true
lock_past zero = refl
lock_past (suc l) = refl

leaving : (kind : WalkKind) → is_leaving kind ≡ true → exchanges kind ≡ true
leaving kinds.Activate e = refl
leaving kinds.Deactivate e = e
leaving kinds.Offline e = e
leaving kinds.Reeval e = e
leaving (kinds.Remote by) e = e

-- the walk of c at Swap of the group g
module _ (law : CoreLaws) (o : World) (s : Whole) (c g : ℕ) (k : Walk) (ps : List PassView)
    (old new : ℕ) (q : WalksAt o s c ps k stages.Swap k.level g) (mine : s.read c ≡ old) where
  abbrev w : World
  w = s.world

  abbrev x : Group
  x = left_by k.child_on (group_of w g) (side w.tree c k.level)

  abbrev y : CpuRecord
  y = with_walk (cpu_of w c) (Some (swap_next true k))

  abbrev v : World
  v = moved w g x c y true

  abbrev next : Whole
  next = after s g x c y true (s.read c) s.stray (s.looked c) s.pass

  -- its reading is fresh exactly where the word is the one that it read
  fresh_is : k.fresh ≡ eqb (group_word s g) (s.read c)
  fresh_is = (q.shown.reads c).fresh k g q.walk (ap is_reading q.stage) q.path

  -- a walk at Swap makes exchanges
  leaves : exchanges k.kind ≡ true
  leaves =
      let places = law.places w q.shown.fits.lawful in
      let stand = places.in_tree c k q.walk
      (places.stages_of c k q.walk (λ z. not_end (sym q.stage ∙ z))) in
      leaving k.kind (subst (FitsStage w.tree c k.kind k.level) q.stage stand.fits)
    where
      not_end : stages.Swap ≡ stages.Finish → ⊥
      not_end z = cc

  -- the word after the exchange
  new_is : IsSwapOf old (side o.tree c k.level) k.child_on new → group_word s g ≡ old
      → state_word (group_state x (s.seq g + 1)) ≡ new
  new_is swap e =
      let st = group_state (group_of w g) (s.seq g) in
      let spelled : IsStateOf old st
      = subst (λ n. IsStateOf n st) e (good_state law o s q.shown g) in
      ap state_word (left_state k.child_on (group_of w g) (side w.tree c k.level) (s.seq g))
      ∙ ((λ i. state_word (swapped_state st (side (q.shown.same.tree i) c k.level) k.child_on))
      ∙ sym (swap st spelled))

  swap_hit : IsSwapOf old (side o.tree c k.level) k.child_on new → group_word s g ≡ old
      → Goes o s (box_of o s c) ps (state_at g) (λ n. either (eqb n old) new n) (walk_always c)
      (λ n z. z ≡ on_box (swap_box (eqb n old) n) (seat_of (box_of o s c ∷ []) ps))
  swap_hit swap e =
      let h = q.shown in
      let hc : c < length w.cpus = omega (arith, q.cpu, h.same.cpus) in
      let hg : g < length w.groups = omega (arith, q.group, h.same.groups) in
      let at_g : here w c k ≡ g = ap (λ m. unwrap_or m 0) q.path in
      let fresh : k.fresh ≡ true = fresh_is ∙ eq-eqb _ _ (e ∙ sym mine) in
      let pl = law.paths w.tree h.fits.planned in
      let events : x.events ≡ (group_of w g).events
      = left_events k.child_on (group_of w g) (side w.tree c k.level) in
      let not_reading : is_reading (swap_next true k).stage ≡ false = lock_reads k.level in
      let own_g : group_of v g ≡ x = get_or-set_same w.groups g x no_group hg in
      let seq_is : raised true g s.seq g ≡ s.seq g + 1
      = ap (λ b. cond b (suc (s.seq g)) (s.seq g)) (eq-eqb g g refl)
      ∙ (let z : suc (s.seq g) ≡ s.seq g + 1 = omega arith in z) in
      made law o s h c g x y true (s.read c) s.stray (s.looked c) s.pass ps ps (state_at g) _ _
      (record {
        step = steps.Walk (record { 0 = c });
        enabled = record {
          in_range = hc;
          made = k;
          walk = q.walk;
          may_go_on = subst (MayGoOn w c k) (sym q.stage) tt;
        };
        is =
            ap (walk_made w c) q.walk
            ∙ (ap (walked w c k) q.stage
            ∙ (ap (swapped w c k) fresh
            ∙ (λ i. moved w (at_g i)
            (left_by k.child_on (group_of w (at_g i)) (side w.tree c k.level)) c y true)));
        plain = record { time = refl; queues = refl; journals = refl; online = refl };
        in_range = q.cpu;
        group = inl q.group;
        kept = λ z. absurd (true≢false z);
        staying = λ z at off.
            h.staying c k q.walk (ap (λ (u : Walk). u.kind) (same_Some _ _ at) ∙ off);
        reads = no_reads w.tree c (swap_next true k) (s.read c) (group_word next)
            (raised true g s.seq) not_reading;
        owed = λ m.
            let a = past_owes w.tree g c k s.seq (ap (λ z. nat_le 5 (stage_number z)) q.stage) leaves
            q.path (pl.level c k.level g q.path) (swap_next true k) refl refl
            (lock_past k.level) m in
            let b = subst (λ z. raised true g s.seq m + owes z m c (Some (swap_next true k))
            ≤ s.seq m + owes z m c (Some k)) h.same.tree a in
            let d : owes o.tree m c (cpu_of w c).walk ≡ owes o.tree m c (Some k)
            = ap (owes o.tree m c) q.walk in
            omega (arith, b, d);
        few = h.few;
        opened = h.opened;
        passes = h.passes;
        flags =
            let was = h.flags c in
            record {
              idle = was.idle;
              inside = was.inside;
              wakeup = was.wakeup;
              reeval = was.reeval ∙ ap reevaluates q.walk;
            };
        flags_else = λ d ne. h.flags d;
        marked = λ d m.
            subst (λ z. (z ≡ Some m) ↔ Contains (s.pass m).marks d)
            (sym (cpu_field w g x c y true (λ z. z.mark) (λ z u. refl) hc refl d)) (h.marked d m);
        journal = λ d. refl;
        receipts = λ d. refl;
        did = h.seen;
        leaf = leaf_of w c;
        leaf_is = sym (leaf_stays w g x c y true events c);
        leaves = λ d ne. leaf_stays w g x c y true events d;
        word =
            (λ i. state_word (group_state (own_g i) (seq_is i)))
            ∙ (new_is swap e
            ∙ sym (ap (λ b. either b new (group_word s g)) (eq-eqb _ _ e)));
        state = λ ne. absurd (ne refl);
        lock = λ ne. left_lock k.child_on (group_of w g) (side w.tree c k.level);
        slots = λ m low ne.
            ap (λ (z : EventMap). word_of_slot (s.stray g m) (event_at z m)) events;
        strays = λ m n ne. refl;
        cpu = λ ne. refl;
        same = refl;
        brought = as_they_were o s ps q.known;
        others = λ d ne. refl;
        told =
            subst (λ b. ◌≡◌ {A = Me} (seat_of (record (box_of o s c) { own = quiet y } ∷ []) ps)
            (on_box (swap_box b (group_word s g)) (seat_of (box_of o s c ∷ []) ps)))
            (sym (eq-eqb _ _ e))
            (λ i. seat_of (record (box_of o s c) {
              own = walk_is o s c k (swap_next true k) swapped_walk q.walk refl i;
            } ∷ []) ps);
      })

  swap_miss : group_word s g ≢ old
      → Goes o s (box_of o s c) ps (state_at g) (λ n. either (eqb n old) new n) (walk_always c)
      (λ n z. z ≡ on_box (swap_box (eqb n old) n) (seat_of (box_of o s c ∷ []) ps))
  swap_miss ne =
      let stale : k.fresh ≡ false = fresh_is ∙ ne_eqb _ _ (λ z. ne (z ∙ mine)) in
      reads_anew law o s c g k ps (λ n. either (eqb n old) new n)
      (λ n z. z ≡ on_box (swap_box (eqb n old) n) (seat_of (box_of o s c ∷ []) ps))
      q.shown q.cpu q.known q.walk q.path (subst (MayGoOn w c k) (sym q.stage) tt)
      (ap (walked w c k) q.stage ∙ ap (swapped w c k) stale)
      (ap (λ z. nat_le 5 (stage_number z)) q.stage)
      (ap (λ b. either b new (group_word s g)) (ne_eqb _ _ ne))
      (λ z e.
      subst (λ b. z ≡ on_box (swap_box b (group_word s g)) (seat_of (box_of o s c ∷ []) ps))
      (sym (ne_eqb _ _ ne)) e)

pub swaps : (law : CoreLaws) (o : World) → SwapStays o
swaps law o slots id g new b k ps may swap =
    at_walk law o slots id b k ps (state_at g) (λ n. either (eqb n b.read) new n) (walk_always b.cpu)
    (λ z n v. v ≡ on_box (swap_box (eqb n b.read) n) (seat_of (z ∷ []) ps))
    stages.Swap (λ l. l) g may.group may
    (λ s j is same q.
    let mine : s.read b.cpu ≡ b.read = ap (λ (z : BoxView). z.read) (sym is) in
    let swap' = subst
    (λ (z : Walk). IsSwapOf b.read (side o.tree b.cpu z.level) z.child_on new) (sym same) swap in
    elim (cases_eq (group_word s g) b.read) [
      | inl e ↦ swap_hit law o s b.cpu g j ps b.read new q mine swap' e
      | inr ne ↦ swap_miss law o s b.cpu g j ps b.read new q mine ne
    ])

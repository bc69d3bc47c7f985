-- for crates above: what a pass has gained as it goes off from the part of a CPU that it looked at,
-- marked or let go
use Rattle.std.proofs.Common.{◌≡◌, ⊎_elim, inl, inr, ℕ, ◌+◌, ◌<◌, ◌≤◌, eqb, eq-eqb, ne_eqb, cond}
use Rattle.std.proofs.Common.{Bool, true, false, List, [], ◌∷◌, ◌++◌, Option, Some, None, length}
use Rattle.std.proofs.Common.{length-append, Contains, refl, sym, ap, ◌∙◌, subst, arith}
use Rattle.std.specs.Prelude.{◌||◌, not, option_map}
use Rattle.std.specs.FinSet.{empty}
use Rattle.std.specs.Option.{ForSome}
use Rattle.std.proofs.lemmas.Bool.{cases_eq}
use Rattle.std.proofs.lemmas.List.{append-nil, append_assoc, map-append}
use Rattle.std.proofs.lemmas.List.Elements.{Contains-append_left, Contains-append_right}
use Rattle.std.proofs.lemmas.List.Elements.{Contains-push}
use Rattle.std.proofs.lemmas.Option.{none-some, same_Some}
use Rattle.atomic_table.specs.Seated.{TableId}
use Rattle.event_queue.specs.declared.event.Event.{Event}
use Rattle.event_queue.specs.EventMap.{IsTakenUp}
use Rattle.event_queue.specs.Word.{slot_of}
use Rattle.tm_base.specs.declared.names.CpuId.{CpuId}
use Rattle.cpu_word.specs.declared.state.CpuState.{CpuState}
use Rattle.cpu_word.specs.declared.state.TheConstants.{MARKER_LIMIT}
use Rattle.cpu_word.specs.Word.{IsStateOf}
use Rattle.cpu_bases.specs.declared.entry.Entry.{Entry}
use Rattle.tree_plan.specs.Paths.{group_at_of}
use Rattle.walk_rules.specs.Hierarchy.{HasGroup}
use Rattle.core_world.specs.World.{World}
use Rattle.shared_timers.specs.core_state.Shown.{as_cpu, shown_cpu}
use Rattle.shared_timers.specs.shared_rule.declared.parts.BoxView.{BoxView}
use Rattle.shared_timers.specs.shared_rule.declared.parts.Deed.{Deed}
use Rattle.shared_timers.specs.shared_rule.declared.parts.Deed.TheVariants as deeds
use Rattle.shared_timers.specs.shared_rule.declared.parts.Did.{Did}
use Rattle.shared_timers.specs.shared_rule.declared.parts.PassView.{PassView}
use Rattle.shared_timers.specs.shared_rule.declared.parts.Receipt.{Receipt}
use Rattle.shared_timers.specs.shared_rule.Rule.{with_journal}
use Rattle.shared_timers.specs.shared_rule.Shows.{BeginsWith}
use Rattle.shared_timers.specs.shared_rule.Whole.{own_word}
use Rattle.shared_timers.specs.shared_rule.Plays.{Agree, PartFits, seen_pass}
use Rattle.shared_timers.specs.shared_rule.Parts.{HeldPart, pass_parted, with_guest}
use Rattle.shared_timers.specs.shared_rule.Passes.{HeldPass, IsPassIn}
use Rattle.shared_timers.specs.shared_rule.Turns.{marks_without, released_box, released_pass}
use Rattle.shared_timers.specs.shared_rule.Turns.{taken_box}
use Rattle.shared_timers.specs.shared_rule.Turns.{taken_pass}
use Rattle.shared_looks.specs.shared_cpus.Pairs.{by_pair, cpu_place, leaf_place}
use Rattle.shared_looks.specs.Marks.{HasNoticed, IsTakable, cpu_word_seen, leaf_seen}
use Rattle.shared_acts.specs.Interrupts.{walks_by}
use Rattle.shared_acts.specs.Looks.{IsClosed, IsLeftAlone, IsNoneDue, is_for_others, is_let_be}
use Rattle.shared_acts.specs.Pieces.{PassGains, Piece, deeds_of}
use Rattle.shared_acts.specs.Tries.{HasLetGo, HasMarked, HasUnmarked, with_marks}
use Rattle.shared_acts.proofs.Gaining as gaining

-- a place in a journal is one in what it goes on to
pub place_in : (new old : List Entry) (place : ℕ) → BeginsWith new old → place < length old
    → place < length new
place_in new old place begins low =
    let l = ap length begins.1 in let m = length-append old begins.0 in
    omega (arith, low, l, m)

-- the marks without the one that there is
pub none_left : (c d : ℕ) (marks : List ℕ) → marks ≡ d ∷ [] → c ≡ d → marks_without c marks ≡ []
none_left c d marks is same =
    ap (marks_without c) is ∙ ap (λ t. cond (not t) (d ∷ []) []) (eq-eqb d c (sym same))

-- A PASS that goes off from the part of a CPU takes its journal along, where it is its own CPU's
module _ (p : PassView) (c : ℕ) (journal : List Entry)
    (begins : p.cpu ≡ c → BeginsWith journal p.journal) where
  abbrev pub known_by : List Entry
  known_by = cond (eqb p.cpu c) journal p.journal

  pub goes_on : BeginsWith known_by p.journal
  goes_on = elim (cases_eq p.cpu c) [
    | inl is ↦
        subst (λ t. BeginsWith (cond t journal p.journal) p.journal) (sym (eq-eqb p.cpu c is))
        (begins is)
    | inr ne ↦
        subst (λ t. BeginsWith (cond t journal p.journal) p.journal) (sym (ne_eqb p.cpu c ne))
        (gaining.begins p.journal)
  ]

  -- what it has gained besides
  pub off_gains : (did all : List Did) (m marks : List ℕ) (w walks : ℕ) → all ≡ p.did ++ did
      → m ≡ marks → w ≡ p.walks + walks → walks ≡ walks_by (deeds_of did)
      → PassGains (with_marks marks p)
      (record p { walks = w; did = all; marks = m; journal = known_by }) [] did walks
  off_gains did all m marks w walks did_is marks_is walks_is ended = record {
    opening = refl;
    cpu = refl;
    walks_are = walks_is;
    ended = ended;
    receipts_are = sym (append-nil p.receipts);
    did_are = did_is;
    idle = refl;
    inside = refl;
    reeval = refl;
    wakeup = refl;
    marks = marks_is;
    journal = goes_on;
    known = λ known i r at own.
        place_in known_by p.journal r.place goes_on (known i r at own);
  }

-- A PASS of the run in the part of a CPU, with which it agrees
module _ (table : TableId) (part : HeldPart) (held after : HeldPass) (p : PassView)
    (is : IsPassIn table held p) (agree : Agree part.box p) where
  -- MARKED
  pub marked : p.marks ≡ []
      → after ≡ pass_parted table held.cpu (by_pair taken_box taken_pass (with_guest part held))
      → HasMarked table part.box.cpu held after
  marked none same =
      let did = record { held = length p.receipts; deed = deeds.Took part.box.cpu } ∷ [] in
      record {
        before = p;
        later = with_journal (taken_box part.box p) (taken_pass part.box p);
        had = is;
        has =
            ap (λ (z : HeldPass). z.seated) same
            ∙ ap (λ s. (pass_parted table held.cpu
            (by_pair taken_box taken_pass (with_guest part (record held { seated = s })))).seated) is;
        cpu = ap (λ (z : HeldPass). z.cpu) same;
        room = ap (λ (z : HeldPass). z.room) same;
        did = did;
        gains =
            off_gains p part.box.cpu part.box.own.bases.journal agree.journal did (p.did ++ did)
            (p.marks ++ part.box.cpu ∷ []) (part.box.cpu ∷ []) p.walks 0 refl
            (ap (λ l. l ++ part.box.cpu ∷ []) none) (omega arith) refl;
        just = refl;
      }

  -- LET GO, by taking the mark back
  pub taken_back : p.marks ≡ part.box.cpu ∷ []
      → after
      ≡ pass_parted table held.cpu (by_pair released_box released_pass (with_guest part held))
      → HasUnmarked table (deeds.Released part.box.cpu) held after
  taken_back one same =
      let did = record { held = length p.receipts; deed = deeds.Released part.box.cpu } ∷ [] in
      record {
        before = p;
        later = with_journal (released_box part.box p) (released_pass part.box p);
        had = is;
        has =
            ap (λ (z : HeldPass). z.seated) same
            ∙ ap (λ s. (pass_parted table held.cpu (by_pair released_box released_pass
            (with_guest part (record held { seated = s })))).seated) is;
        cpu = ap (λ (z : HeldPass). z.cpu) same;
        did = did;
        walks = 0;
        few = omega arith;
        gains =
            off_gains p part.box.cpu part.box.own.bases.journal agree.journal did (p.did ++ did)
            (marks_without part.box.cpu p.marks) [] p.walks 0 refl
            (none_left part.box.cpu part.box.cpu p.marks one refl) (omega arith) refl;
        just = refl;
      }

-- NOTED: a pass has loaded the word of a box's CPU, and then its slot in its leaf
pub record IsNoted (table : TableId) (b : BoxView) (held after : HeldPass) : Type 0 where
  pub did : List Did
  pub piece : Piece table held after [] did 0
  pub room : after.room ≡ held.room
  pub rest : List Deed
  pub seen : deeds_of did
      ≡ deeds.Saw (cpu_place b.opening b.cpu) (own_word b.own) ∷ rest
  pub leaf : HasGroup b.opening.tree b.cpu → (slot : ℕ) × (slot_of slot ≡ b.leaf)
      × Contains rest (deeds.Saw (leaf_place b.opening b.cpu) slot)

-- A LOOK whether a CPU may be marked
module _ (table : TableId) (part : HeldPart) (held after : HeldPass) (p : PassView)
    (is : IsPassIn table held p) (agree : Agree part.box p) where
  -- its word alone
  noted_alone : (word : ℕ) → word ≡ own_word part.box.own
      → (HasGroup part.box.opening.tree part.box.cpu → ⊥)
      → after ≡ pass_parted table held.cpu (cpu_word_seen word (with_guest part held))
      → IsNoted table part.box held after
  noted_alone word word_is alone same =
      let place = cpu_place part.box.opening part.box.cpu in
      let did = record { held = length p.receipts; deed = deeds.Saw place word } ∷ [] in
      record {
        did = did;
        piece =
            record {
              before = p;
              later = with_journal part.box (seen_pass place word p);
              had = is;
              has =
                  ap (λ (z : HeldPass). z.seated) same
                  ∙ ap (λ s. (pass_parted table held.cpu
                  (cpu_word_seen word (with_guest part (record held { seated = s })))).seated) is;
              cpu = ap (λ (z : HeldPass). z.cpu) same;
              gains =
                  off_gains p part.box.cpu part.box.own.bases.journal agree.journal did
                  (p.did ++ did) p.marks p.marks p.walks 0 refl refl (omega arith) refl;
            };
        room = ap (λ (z : HeldPass). z.room) same;
        rest = [];
        seen = ap (λ n. deeds.Saw place n ∷ []) word_is;
        leaf = λ group. absurd (alone group);
      }

  -- and its slot
  noted_both : (word slot : ℕ) → word ≡ own_word part.box.own → slot_of slot ≡ part.box.leaf
      → after ≡ pass_parted table held.cpu (leaf_seen word slot (with_guest part held))
      → IsNoted table part.box held after
  noted_both word slot word_is slot_is same =
      let place = cpu_place part.box.opening part.box.cpu in
      let leaf = leaf_place part.box.opening part.box.cpu in
      let first : Did = record { held = length p.receipts; deed = deeds.Saw place word } in
      let second : Did = record { held = length p.receipts; deed = deeds.Saw leaf slot } in
      record {
        did = first ∷ second ∷ [];
        piece =
            record {
              before = p;
              later =
                  with_journal part.box (seen_pass leaf slot (seen_pass place word p));
              had = is;
              has =
                  ap (λ (z : HeldPass). z.seated) same
                  ∙ ap (λ s. (pass_parted table held.cpu
                  (leaf_seen word slot (with_guest part (record held { seated = s })))).seated) is;
              cpu = ap (λ (z : HeldPass). z.cpu) same;
              gains =
                  off_gains p part.box.cpu part.box.own.bases.journal agree.journal
                  (first ∷ second ∷ []) ((p.did ++ first ∷ []) ++ second ∷ []) p.marks p.marks
                  p.walks 0 (append_assoc p.did (first ∷ []) (second ∷ [])) refl (omega arith)
                  refl;
            };
        room = ap (λ (z : HeldPass). z.room) same;
        rest = deeds.Saw leaf slot ∷ [];
        seen = ap (λ n. deeds.Saw place n ∷ deeds.Saw leaf slot ∷ []) word_is;
        leaf = λ group. (slot, slot_is, Contains-push [] (deeds.Saw leaf slot));
      }

  pub noted : HasNoticed table part held after → IsNoted table part.box held after
  noted has =
      let seen = has.noticed in
      ⊎_elim
      (λ (one : (group_at_of part.box.opening.tree part.box.cpu 0 ≡ None)
      × (has.seen ≡ cpu_word_seen seen.word (with_guest part held))).
      noted_alone seen.word seen.word_is
      (λ group. absurd (none-some group.0 (sym one.0 ∙ group.1)))
      (has.pass_is ∙ ap (pass_parted table held.cpu) one.1))
      (λ (two : HasGroup part.box.opening.tree part.box.cpu × ((slot : ℕ)
      × (slot_of slot ≡ part.box.leaf)
      × (has.seen ≡ leaf_seen seen.word slot (with_guest part held)))).
      noted_both seen.word two.1.0 seen.word_is two.1.1
      (has.pass_is ∙ ap (pass_parted table held.cpu) two.1.2))
      seen.then

-- THE WORD of a CPU is that of what it shows
low_mark : (m : Option ℕ) (n : ℕ) → ((c : ℕ) → m ≡ Some c → c < n) → n ≤ 512
    → ForSome (option_map as_cpu m) (λ c. c.0 < MARKER_LIMIT)
low_mark None n low few x is = absurd (none-some x is)
low_mark (Some c) n low few x is =
    subst (λ (y : CpuId). y.0 < MARKER_LIMIT) (same_Some (as_cpu c) x is)
    (let below = low c refl in omega (arith, below, few))

pub shows_word : (b : BoxView) → PartFits b → IsStateOf (own_word b.own) (shown_cpu b.own)
shows_word b fits = record {
  fits =
      record {
        wakeup = fits.wakeup;
        marker = low_mark b.own.mark (length b.opening.cpus) fits.mark fits.many;
      };
  spelled = refl;
}

none_due : (now : ℕ) (m : Option Event) → ((e : Event) → m ≡ Some e → IsTakenUp now empty e → ⊥)
    → IsNoneDue now m
none_due now None not_due = tt
none_due now (Some e) not_due = not_due e refl

pub no_mark : (c : ℕ) (marks : List ℕ) → marks ≡ [] → Contains marks c → ⊥
no_mark c marks is has =
    let low : has.0 < length marks = has.1 in
    let none = ap length is in
    omega (arith, low, none)

-- LEFT ALONE: a CPU that can't be marked shows why
module _ (o : World) (b : BoxView) (p : PassView) (opening : b.opening ≡ o) (fits : PartFits b)
    (agree : Agree b p) (none : p.marks ≡ []) (group : HasGroup b.opening.tree b.cpu)
    (kept : IsTakable b → ⊥) (did rest : List Deed)
    (seen : did ≡ deeds.Saw (cpu_place b.opening b.cpu) (own_word b.own) ∷ rest) where
  by_state : is_let_be p.cpu (shown_cpu b.own) ≡ true → IsLeftAlone o p.cpu b.cpu did
  by_state shows =
      IsLeftAlone.by_word (own_word b.own) (shown_cpu b.own)
      (subst (λ (w : World). Contains did (deeds.Saw (cpu_place w b.cpu) (own_word b.own))) opening
      (subst (λ l. Contains l (deeds.Saw (cpu_place b.opening b.cpu) (own_word b.own))) (sym seen)
      (Contains-append_left (deeds.Saw (cpu_place b.opening b.cpu) (own_word b.own) ∷ []) rest _
      (Contains-push [] _))))
      (shows_word b fits) shows

  by_leaf : (slot : ℕ) → slot_of slot ≡ b.leaf
      → Contains rest (deeds.Saw (leaf_place b.opening b.cpu) slot) → b.own.online ≡ true
      → b.own.idle ≡ true → b.own.mark ≡ None → IsLeftAlone o p.cpu b.cpu did
  by_leaf slot slot_is has online idle unmarked =
      IsLeftAlone.by_slot slot
      (subst (λ (w : World). Contains did (deeds.Saw (leaf_place w b.cpu) slot)) opening
      (subst (λ l. Contains l (deeds.Saw (leaf_place b.opening b.cpu) slot)) (sym seen)
      (Contains-append_right (deeds.Saw (cpu_place b.opening b.cpu) (own_word b.own) ∷ []) rest _
      has)))
      (none_due o.clock (slot_of slot) (λ e at due. kept (record {
        online = online;
        idle = idle;
        unmarked = unmarked;
        due =
            record {
              leaf = group.0;
              event = e;
              path = group.1;
              there = sym slot_is ∙ at;
              counts = due.counts;
              come = subst (λ (w : World). e.expiry ≤ w.clock) (sym opening) due.come;
            };
      })))

  left_by : (slot : ℕ) → slot_of slot ≡ b.leaf
      → Contains rest (deeds.Saw (leaf_place b.opening b.cpu) slot) → (online idle : Bool)
      → (mark : Option ℕ) → b.own.online ≡ online → b.own.idle ≡ idle → b.own.mark ≡ mark
      → IsLeftAlone o p.cpu b.cpu did
  left_by slot slot_is has false idle mark on rests marks =
      by_state (ap (λ t. not t || not b.own.idle
      || is_for_others p.cpu (option_map as_cpu b.own.mark)) on)
  left_by slot slot_is has true false mark on rests marks =
      by_state ((λ i. not (on i) || not (rests i)
      || is_for_others p.cpu (option_map as_cpu b.own.mark)))
  left_by slot slot_is has true true (Some c) on rests marks =
      elim (cases_eq c p.cpu) [
        | inl own ↦
            absurd (no_mark b.cpu p.marks none (agree.marks.0 (marks ∙ ap (λ n. Some n) own)))
        | inr ne ↦
            by_state ((λ i. not (on i) || not (rests i)
            || is_for_others p.cpu (option_map as_cpu (marks i)))
            ∙ ap not (ne_eqb c p.cpu ne))
      ]
  left_by slot slot_is has true true None on rests marks =
      by_leaf slot slot_is has on rests marks

  pub left_alone : (HasGroup b.opening.tree b.cpu → (slot : ℕ) × (slot_of slot ≡ b.leaf)
      × Contains rest (deeds.Saw (leaf_place b.opening b.cpu) slot)) → IsLeftAlone o p.cpu b.cpu did
  left_alone leaf =
      let there = leaf group in
      left_by there.0 there.1 there.2 b.own.online b.own.idle b.own.mark refl refl refl

-- LET GO: what closes a try, whatever came between
module _ (o : World) (d : ℕ) (noted later : List Deed) where
  pub closed_by_carrying : (next : ℕ) → later ≡ deeds.Carried d next ∷ []
      → (front between : List Deed)
      → IsClosed o d (front ++ deeds.Took d ∷ between ++ (noted ++ later))
  closed_by_carrying next is front between =
      let took = deeds.Took d ∷ between in
      let end = deeds.Carried d next ∷ [] in
      IsClosed.by_carrying front (between ++ noted) [] next
      (ap (λ (l : List Deed). (front ++ took) ++ (noted ++ l)) is
      ∙ (sym (append_assoc (front ++ took) noted end)
      ∙ ap (λ (l : List Deed). l ++ end) (append_assoc front took noted)))

  pub closed_by_release : (found : ℕ) (s : CpuState) (rest : List Deed)
      → noted ≡ deeds.Saw (cpu_place o d) found ∷ rest → later ≡ deeds.Released d ∷ []
      → IsStateOf found s → (not s.online || not s.idle) ≡ true → (front between : List Deed)
      → IsClosed o d (front ++ deeds.Took d ∷ between ++ (noted ++ later))
  closed_by_release found s rest noted_is is state awake front between =
      let took = deeds.Took d ∷ between in
      IsClosed.by_release front between rest [] found s
      ((λ i. (front ++ took) ++ (noted_is i ++ is i))
      ∙ sym (append_assoc (front ++ took) (deeds.Saw (cpu_place o d) found ∷ rest)
      (deeds.Released d ∷ []))) state awake

-- a pass gains as much with other marks
pub gains_with : (marks : List ℕ) (p q : PassView) (receipts : List Receipt) (did : List Did)
    (walks : ℕ) → PassGains p q receipts did walks
    → PassGains (with_marks marks p) (with_marks marks q) receipts did walks
gains_with marks p q receipts did walks gains = record {
  opening = gains.opening;
  cpu = gains.cpu;
  walks_are = gains.walks_are;
  ended = gains.ended;
  receipts_are = gains.receipts_are;
  did_are = gains.did_are;
  idle = gains.idle;
  inside = gains.inside;
  reeval = gains.reeval;
  wakeup = gains.wakeup;
  marks = refl;
  journal = gains.journal;
  known = gains.known;
}

-- the looks before the mark is gone, and its going
pub let_go : (table : TableId) (o : World) (b : BoxView) (held mid after : HeldPass) (by : Deed)
    (noted : IsNoted table b held mid) (unmarked : HasUnmarked table by mid after)
    → ((front between : List Deed) → IsClosed o b.cpu
    (front ++ deeds.Took b.cpu ∷ between ++ (deeds_of noted.did ++ deeds_of unmarked.did)))
    → HasLetGo table o b.cpu held after
let_go table o b held mid after by noted unmarked closed =
    let piece = noted.piece in
    let same = gaining.same_pass table mid unmarked.before piece.later unmarked.had piece.has in
    record {
      before = piece.before;
      later = unmarked.later;
      had = piece.had;
      has = unmarked.has;
      cpu = unmarked.cpu ∙ piece.cpu;
      did = noted.did ++ unmarked.did;
      walks = 0 + unmarked.walks;
      few = (let few = unmarked.few in omega (arith, few));
      gains =
          gaining.gains_then (with_marks [] piece.before) (with_marks [] piece.later) unmarked.later []
          [] noted.did unmarked.did 0 unmarked.walks
          (gains_with [] piece.before piece.later [] noted.did 0 piece.gains)
          (subst (λ (x : PassView). PassGains (with_marks [] x) unmarked.later [] unmarked.did
          unmarked.walks) same unmarked.gains);
      closed = λ front between.
          subst (λ (l : List Deed). IsClosed o b.cpu (front ++ deeds.Took b.cpu ∷ between ++ l))
          (sym (map-append (λ (x : Did). x.deed) noted.did unmarked.did)) (closed front between);
    }

-- a drain of the part of a CPU in which a pass is, timer by timer
use Rattle.std.proofs.Common.{◌≡◌, ℕ, suc, ◌+◌, ◌<◌, List, [], ◌∷◌, ◌++◌, Option, Some}
use Rattle.std.proofs.Common.{None}
use Rattle.std.proofs.Common.{false, refl, sym, ap, ◌∙◌, subst, arith, append-nil}
use Rattle.std.proofs.Common.{append_assoc, length, length-append}
use Rattle.std.proofs.Common.{zero}
use Rattle.std.specs.Prelude.{All, IfNone, MatchOption, OnSome, option_map, slice_get}
use Rattle.std.proofs.lemmas.Option.{none-some, same_Some}
use Rattle.std.proofs.lemmas.List.{length_push}
use Rattle.std.proofs.lemmas.List.Elements.{All-push}
use Rattle.tm_base.specs.Classes.{same_class}
use Rattle.tm_base.specs.declared.names.Class.{Class}
use Rattle.tm_base.specs.declared.names.CpuId.{CpuId}
use Rattle.wheel_core.specs.declared.item.Item.{Item}
use Rattle.wheel_core.specs.PlainBase.{NoneBehind, OneFewer, OutIsDue, item_of, next_out}
use Rattle.cpu_bases.specs.declared.entry.Act.TheVariants as acts
use Rattle.cpu_bases.specs.CpuBases.{CpuBases, after_hand_out, base_of, entry_of}
use Rattle.cpu_bases.specs.CpuBases.{ticked_entry, written}
use Rattle.cpu_bases.specs.Laws as laws
use Rattle.cpu_bases.proofs.Queued.{queued_once}
use Rattle.core_world.specs.World.{World}
use Rattle.shared_timers.specs.shared_rule.declared.parts.PassView.{PassView}
use Rattle.shared_timers.specs.shared_rule.declared.parts.Receipt.{Receipt}
use Rattle.shared_timers.specs.shared_rule.Parts.{HeldPart}
use Rattle.shared_timers.specs.shared_rule.Plays.{PartFits}
use Rattle.shared_timers.specs.shared_rule.Shows.{receipt_of}
use Rattle.shared_timers.specs.shared_rule.Turns.{MayRunOf}
use Rattle.shared_timers.specs.Draining.{MayDrain, drained_part, out_noted}
use Rattle.shared_timers.specs.Entries.{pair_changed}
use Rattle.shared_acts.specs.Handing.{ArePlaced, DrainsClass, HandsEach, HandsNone, HandsOne}
use Rattle.shared_acts.specs.Handing.{MayHandEach, rebased, with_receipts}
use Rattle.shared_acts.specs.Pieces.{HandsOutItems, IsHandOut, IsTick, IsTimerOfRun}
use Rattle.shared_acts.proofs.Gaining.{begins, begins_then, each_of_both}

-- a drain step of a part in which this pass is, by what goes out
abbrev after_out : (o : World) → Class → HeldPart → PassView → Option Item → HeldPart
after_out o class old p out =
    rebased old
    (after_hand_out out old.box.opening.clock class (record { 0 = p.cpu }) old.box.own.bases)
    (out_noted class out old.box p)

module _ (o : World) (class : Class) (old new : HeldPart) (p : PassView)
    (was : old.brought ≡ p ∷ []) (now : ℕ) (now_is : now ≡ o.clock)
    (opening : old.box.opening ≡ o) (is : new ≡ drained_part class old) where
  clock : old.box.opening.clock ≡ now
  clock = ap (λ (w : World). w.clock) opening ∙ sym now_is

  -- the step, by what goes out
  stepped : (out : Option Item) → out ≡ next_out now (base_of class old.box.own.bases)
      → new ≡ after_out o class old p out
  stepped out goes =
      let there : next_out old.box.opening.clock (base_of class old.box.own.bases) ≡ out =
      ap (λ t. next_out t (base_of class old.box.own.bases)) clock ∙ sym goes in
      is
      ∙ (λ i. pair_changed (λ b q. record b {
        own = record b.own {
          bases =
              after_hand_out (next_out b.opening.clock (base_of class b.own.bases)) b.opening.clock
              class (record { 0 = q.cpu }) b.own.bases;
        };
      }) (λ b q. out_noted class (next_out b.opening.clock (base_of class b.own.bases)) b q)
      (was i) old)
      ∙ ap (after_out o class old p) there

  -- the bases after it
  bases_of : (bases : CpuBases) (q : PassView) → new ≡ rebased old bases q
      → laws.HandsOut now class p.cpu old.box.own.bases new.box.own.bases
      → (other : Class) → same_class class other ≡ false
      → base_of other bases ≡ base_of other old.box.own.bases
  bases_of bases q there keeps other apart =
      ap (λ (z : HeldPart). base_of other z.box.own.bases) (sym there) ∙ keeps.others other apart

  -- nothing more goes out
  pub hands_none : None ≡ next_out now (base_of class old.box.own.bases)
      → NoneBehind (base_of class new.box.own.bases)
      → laws.HandsOut now class p.cpu old.box.own.bases new.box.own.bases
      → HandsNone class old new
  hands_none none behind keeps =
      let by : CpuId = record { 0 = p.cpu } in
      let e = ticked_entry old.box.opening.clock class by in
      let bases = written e old.box.own.bases in
      let there : new ≡ after_out o class old p None = stepped None none in
      record {
        pass = p;
        bases = bases;
        receipt = receipt_of old.box.cpu (length old.box.own.bases.journal) e;
        was = was;
        part_is = there;
        drains = record {
          journal = (e ∷ [], refl);
          others = bases_of bases (out_noted class None old.box p) there keeps;
        };
        tick = record { cpu = refl; act = refl; by = refl; of_class = refl };
        written = length_push old.box.own.bases.journal e ∙ omega arith;
        at = refl;
        none_behind =
            subst (λ (z : HeldPart). NoneBehind (base_of class z.box.own.bases)) there behind;
      }

  -- an item goes out
  pub hands_one : (item : Item) → Some item ≡ next_out now (base_of class old.box.own.bases)
      → PartFits old.box → item_of item.id (base_of class old.box.own.bases).items ≡ Some item
      → OneFewer (base_of class old.box.own.bases) (base_of class new.box.own.bases)
      → laws.HandsOut now class p.cpu old.box.own.bases new.box.own.bases
      → HandsOne o class old new item
  hands_one item goes fits queued fewer keeps =
      let by : CpuId = record { 0 = p.cpu } in
      let clock = old.box.opening.clock in
      let e = entry_of acts.Handed 0 clock class item by in
      let bases = after_hand_out (Some item) clock class by old.box.own.bases in
      let there : new ≡ after_out o class old p (Some item) = stepped (Some item) goes in
      let known : item.id < old.box.opening.timers =
      fits.timers item.id class
      (ap (option_map (λ (found : Class × Item). found.0))
      (queued_once old.box.own.bases item.id class item fits.consistent queued)) in
      record {
        pass = p;
        bases = bases;
        receipt = receipt_of old.box.cpu (length old.box.own.bases.journal) e;
        was = was;
        part_is = there;
        drains = record {
          journal = (e ∷ [], refl);
          others = bases_of bases (out_noted class (Some item) old.box p) there keeps;
        };
        hand = record {
          cpu = refl;
          act = refl;
          by = refl;
          of_class = refl;
          timer = refl;
          expires = refl;
          wheel = refl;
          job = refl;
          arg = refl;
        };
        timer = record {
          known = subst (λ (w : World). item.id < w.timers) opening known;
          narrow = omega (arith, known, fits.opening.few);
        };
        fewer = subst (λ (z : HeldPart).
            OneFewer (base_of class old.box.own.bases) (base_of class z.box.own.bases)) there fewer;
        written = length_push old.box.own.bases.journal e ∙ omega arith;
        at = refl;
      }

  -- either
  pub hands : (out : Option Item) → out ≡ next_out now (base_of class old.box.own.bases)
      → PartFits old.box → OutIsDue now (base_of class old.box.own.bases).items out
      → OnSome out (OneFewer (base_of class old.box.own.bases) (base_of class new.box.own.bases))
      → IfNone out (NoneBehind (base_of class new.box.own.bases))
      → laws.HandsOut now class p.cpu old.box.own.bases new.box.own.bases
      → MatchOption out (HandsNone class old new) (HandsOne o class old new)
  hands None goes fits due fewer behind keeps = hands_none goes behind keeps
  hands (Some item) goes fits due fewer behind keeps =
      hands_one item goes fits due.queued fewer keeps

-- THE RECEIPTS of what went out so far, in order
unfoldable pub HandsFront : (home runner : ℕ) → Class → List Item → List Receipt → Type 0
HandsFront home runner class [] receipts = receipts ≡ []
HandsFront home runner class (i ∷ is) [] = ⊥
HandsFront home runner class (i ∷ is) (r ∷ rs) =
    IsHandOut home runner class i r × HandsFront home runner class is rs

front_more : (home runner : ℕ) (class : Class) (is : List Item) (rs : List Receipt) (i : Item)
    (r : Receipt) → HandsFront home runner class is rs → IsHandOut home runner class i r
    → HandsFront home runner class (is ++ i ∷ []) (rs ++ r ∷ [])
unfolding HandsFront
front_more home runner class [] rs i r h new =
    subst (λ x. HandsFront home runner class (i ∷ []) (x ++ r ∷ [])) (sym h) (new, refl)
front_more home runner class (j ∷ is) [] i r h new = absurd h
front_more home runner class (j ∷ is) (q ∷ rs) i r h new =
    (h.0, front_more home runner class is rs i r h.1 new)

front_done : (home runner : ℕ) (class : Class) (is : List Item) (rs : List Receipt) (t : Receipt)
    → HandsFront home runner class is rs → IsTick home runner class t
    → HandsOutItems home runner class is (rs ++ t ∷ [])
unfolding HandsFront HandsOutItems
front_done home runner class [] rs t h tick = (t, ap (λ x. x ++ t ∷ []) h, tick)
front_done home runner class (j ∷ is) [] t h tick = absurd h
front_done home runner class (j ∷ is) (q ∷ rs) t h tick =
    (h.0, front_done home runner class is rs t h.1 tick)

-- the one pass of a part
abbrev head_or : PassView → List PassView → PassView
head_or d [] = d
head_or d (x ∷ xs) = x

one_pass : (p q : PassView) → p ∷ [] ≡ q ∷ [] → p ≡ q
one_pass p q is = ap (head_or p) is

-- receipts behind receipts
noted_then : (rs : List Receipt) (r : Receipt) (p : PassView)
    → with_receipts (r ∷ []) (with_receipts rs p) ≡ with_receipts (rs ++ r ∷ []) p
noted_then rs r p =
    ap (λ (x : List Receipt). record p { receipts = x }) (append_assoc p.receipts rs (r ∷ []))

-- one receipt more, of the last entry
placed_more : (home : ℕ) (old new : CpuBases) (rs : List Receipt) (r : Receipt)
    → ArePlaced home old rs → r.cpu.0 ≡ home → r.place ≡ length old.journal
    → length new.journal ≡ suc (length old.journal) → ArePlaced home new (rs ++ r ∷ [])
placed_more home old new rs r placed cpu at long =
    each_of_both (λ (q : Receipt). (q.cpu.0 ≡ home) × (q.place < length new.journal)) rs (r ∷ [])
    (λ i q there. let low = (placed i q there).1 in
    ((placed i q there).0, omega (arith, low, long)))
    (λ i q there. of_one i q there)
  where
    of_one : (i : ℕ) (q : Receipt) → slice_get (r ∷ []) i ≡ Some q
        → (q.cpu.0 ≡ home) × (q.place < length new.journal)
    of_one zero q there =
        let is = same_Some r q there in
        subst (λ (x : Receipt). (x.cpu.0 ≡ home) × (x.place < length new.journal)) is
        (cpu, omega (arith, at, long))
    of_one (suc i) q there = absurd (none-some q there)

-- SO FAR: these went out, and the rest of the base is still there
pub record HandsSoFar (o : World) (class : Class) (start now : HeldPart) (items : List Item) :
    Type 0 where
  pub pass : PassView
  pub receipts : List Receipt
  pub bases : CpuBases
  pub was : start.brought ≡ pass ∷ []
  pub part_is : now ≡ rebased start bases (with_receipts receipts pass)
  pub drains : DrainsClass class start.box.own.bases bases
  pub hands : HandsFront start.box.cpu pass.cpu class items receipts
  pub timers : All (IsTimerOfRun o) items
  pub count : length items + length (base_of class bases).items
      ≡ length (base_of class start.box.own.bases).items
  pub written : length bases.journal ≡ length start.box.own.bases.journal + length items
  pub noted : length receipts ≡ length items
  pub placed : ArePlaced start.box.cpu bases receipts

module _ (o : World) (class : Class) (start : HeldPart) where
  -- nothing yet
  pub none_so_far : (p : PassView) → start.brought ≡ p ∷ [] → HandsSoFar o class start start []
  unfolding HandsFront
  none_so_far p was = record {
    pass = p;
    receipts = [];
    bases = start.box.own.bases;
    was = was;
    part_is = (λ i. record start {
      brought = (was ∙ ap (λ (x : List Receipt). record p { receipts = x } ∷ [])
          (sym (append-nil p.receipts))) i;
    });
    drains = record { journal = begins start.box.own.bases.journal; others = λ other apart. refl };
    hands = refl;
    timers = λ k d low. absurd (omega (arith, low));
    count = omega arith;
    written = omega arith;
    noted = refl;
    placed = λ i r at. absurd (none-some r at);
  }

  module _ (now : HeldPart) (items : List Item) (h : HandsSoFar o class start now items)
      (places : ℕ) (may : MayHandEach class start places) where
    same : may.pass ≡ h.pass
    same = one_pass may.pass h.pass (sym may.brought ∙ h.was)

    -- the drain may go on
    pub goes_on : MayDrain now class
    goes_on = subst (λ (z : HeldPart). MayDrain z class) (sym h.part_is) (record {
      pass = with_receipts h.receipts h.pass;
      brought = refl;
      free = may.free;
      may_run = subst (λ (x : PassView). MayRunOf start.box class x) same may.may_run;
      entry =
          record {
            entry = (let w = h.written in let n = h.count in let r = may.entries in
                omega (arith, w, n, r));
            receipt = (let l = length-append h.pass.receipts h.receipts in let w = h.noted in
                let n = h.count in
                let r = subst (λ (x : PassView). length x.receipts
                + length (base_of class start.box.own.bases).items < start.receipts_room) same
                may.receipts in omega (arith, l, w, n, r));
          };
    })

    -- there is a place for what goes out
    pub has_place : (next : HeldPart) (item : Item) → HandsOne o class now next item
        → length items < places
    has_place next item one =
        let n = h.count in
        let f : OneFewer (base_of class h.bases) (base_of class one.bases) =
        subst (λ (z : HeldPart).
        OneFewer (base_of class z.box.own.bases) (base_of class one.bases)) h.part_is one.fewer in
        let p = may.listed in omega (arith, n, f, p)

  -- a part that has gone on so far
  abbrev so_far : (now : HeldPart) (items : List Item) → HandsSoFar o class start now items
      → HeldPart
  so_far now items h = rebased start h.bases (with_receipts h.receipts h.pass)

  -- one more went out of it
  grown : (now next : HeldPart) (items : List Item) (item : Item)
      (h : HandsSoFar o class start now items) → HandsOne o class (so_far now items h) next item
      → HandsSoFar o class start next (items ++ item ∷ [])
  grown now next items item h at =
      let is : at.pass ≡ with_receipts h.receipts h.pass =
      one_pass at.pass (with_receipts h.receipts h.pass) (sym at.was) in
      record {
        pass = h.pass;
        receipts = h.receipts ++ at.receipt ∷ [];
        bases = at.bases;
        was = h.was;
        part_is = at.part_is
            ∙ ap (λ (x : PassView). rebased start at.bases (with_receipts (at.receipt ∷ []) x)) is
            ∙ ap (rebased start at.bases) (noted_then h.receipts at.receipt h.pass);
        drains = record {
          journal = begins_then at.bases.journal h.bases.journal start.box.own.bases.journal
              h.drains.journal at.drains.journal;
          others = λ other apart. at.drains.others other apart ∙ h.drains.others other apart;
        };
        hands = front_more start.box.cpu h.pass.cpu class items h.receipts item at.receipt h.hands
            (subst (λ (x : PassView). IsHandOut start.box.cpu x.cpu class item at.receipt) is
            at.hand);
        timers = All-push (IsTimerOfRun o) items item h.timers at.timer;
        count = (let l = length_push items item in let n = h.count in let f = at.fewer in
            omega (arith, l, n, f));
        written = (let l = length_push items item in let n = h.written in let f = at.written in
            omega (arith, l, n, f));
        noted = (let l = length_push items item in let n = h.noted in
            let m = length_push h.receipts at.receipt in omega (arith, l, n, m));
        placed = placed_more start.box.cpu h.bases at.bases h.receipts at.receipt h.placed
            at.hand.cpu at.at at.written;
      }

  pub one_more : (now next : HeldPart) (items more : List Item) (item : Item)
      → HandsSoFar o class start now items → HandsOne o class now next item
      → more ≡ items ++ item ∷ [] → HandsSoFar o class start next more
  one_more now next items more item h one pushed =
      subst (HandsSoFar o class start next) (sym pushed)
      (grown now next items item h
      (subst (λ (z : HeldPart). HandsOne o class z next item) h.part_is one))

  -- and nothing more does
  ended : (now next : HeldPart) (items : List Item) (h : HandsSoFar o class start now items)
      → HandsNone class (so_far now items h) next → HandsEach o class h.pass start next items
  ended now next items h at =
      let is : at.pass ≡ with_receipts h.receipts h.pass =
      one_pass at.pass (with_receipts h.receipts h.pass) (sym at.was) in
      record {
        receipts = h.receipts ++ at.receipt ∷ [];
        bases = at.bases;
        part_is = at.part_is
            ∙ ap (λ (x : PassView). rebased start at.bases (with_receipts (at.receipt ∷ []) x)) is
            ∙ ap (rebased start at.bases) (noted_then h.receipts at.receipt h.pass);
        drains = record {
          journal = begins_then at.bases.journal h.bases.journal start.box.own.bases.journal
              h.drains.journal at.drains.journal;
          others = λ other apart. at.drains.others other apart ∙ h.drains.others other apart;
        };
        none_behind = at.none_behind;
        placed = placed_more start.box.cpu h.bases at.bases h.receipts at.receipt h.placed
            at.tick.cpu at.at at.written;
        hands = front_done start.box.cpu h.pass.cpu class items h.receipts at.receipt h.hands
            (subst (λ (x : PassView). IsTick start.box.cpu x.cpu class at.receipt) is at.tick);
        timers = h.timers;
        fewer = (let n = h.count in omega (arith, n));
      }

  pub all_out : (now next : HeldPart) (items : List Item) (p : PassView)
      → HandsSoFar o class start now items → HandsNone class now next
      → start.brought ≡ p ∷ [] → HandsEach o class p start next items
  all_out now next items p h none was =
      subst (λ (x : PassView). HandsEach o class x start next items)
      (one_pass h.pass p (sym h.was ∙ was))
      (ended now next items h (subst (λ (z : HeldPart). HandsNone class z next) h.part_is none))

-- a drain of the part of a CPU, with the pass that is brought for it and goes off again
use Rattle.std.proofs.Common.{◌≡◌, ℕ, ◌+◌, ◌<◌, ◌≤◌, List, [], ◌∷◌, Option, Some}
use Rattle.std.proofs.Common.{None}
use Rattle.std.proofs.Common.{Bool, true, false, refl, sym, ap, ◌∙◌, subst, arith, append-nil}
use Rattle.std.proofs.Common.{length, eqb, cond, eqb-true}
use Rattle.std.proofs.Common.{eq-eqb}
use Rattle.std.specs.Prelude.{All, slice_get}
use Rattle.tm_base.specs.Classes.{same_class}
use Rattle.tm_base.specs.declared.names.Class.{Class}
use Rattle.tm_base.specs.declared.names.Class.TheVariants.{Pinned, Global, Deferrable}
use Rattle.wheel_core.specs.declared.item.Item.{Item}
use Rattle.wheel_core.specs.PlainBase.{NoneBehind}
use Rattle.cpu_bases.specs.CpuBases.{CpuBases, base_of}
use Rattle.atomic_table.specs.Seated.{TableId}
use Rattle.core_world.specs.World.{World}
use Rattle.shared_timers.specs.shared_rule.declared.parts.PassView.{PassView}
use Rattle.shared_timers.specs.shared_rule.declared.parts.Receipt.{Receipt}
use Rattle.shared_timers.specs.shared_rule.Rule.{Each, renewed, with_journal}
use Rattle.shared_timers.proofs.shared_rule.Visits.{agrees}
use Rattle.shared_timers.specs.shared_rule.Parts.{HasGuest, HeldPart, pass_parted, with_guest}
use Rattle.shared_timers.specs.shared_rule.Parts.{without_guest}
use Rattle.shared_timers.specs.shared_rule.Passes.{HeldPass, IsPassIn, Seated, passes_of}
use Rattle.shared_timers.specs.shared_rule.Passes.{receipts_of, seated_of}
use Rattle.shared_timers.specs.shared_rule.Plays.{Agree}
use Rattle.shared_timers.specs.shared_rule.Shows.{BeginsWith}
use Rattle.shared_timers.specs.shared_rule.Turns.{MayRunOf}
use Rattle.shared_timers.specs.shared_rule.Free.{HasNoneBehind}
use Rattle.shared_acts.specs.Handing.{DrainsClass, HandsEach, MayHandEach, with_receipts}
use Rattle.shared_acts.specs.Interrupts.{KnowsOwn}
use Rattle.shared_acts.specs.Pieces.{HandsOutItems, HasDrainRoom, IsTimerOfRun, Piece, but_for_bases}
use Rattle.shared_acts.proofs.Gaining.{begins, begins_then, known_more}

-- WHOLE: where no base was behind, none is
by_class : (P : Class → Type 0) (class other : Class)
    → (same_class class other ≡ false → P other) → P class → P other
by_class P Pinned Pinned apart mine = mine
by_class P Pinned Global apart mine = apart refl
by_class P Pinned Deferrable apart mine = apart refl
by_class P Global Pinned apart mine = apart refl
by_class P Global Global apart mine = mine
by_class P Global Deferrable apart mine = apart refl
by_class P Deferrable Pinned apart mine = apart refl
by_class P Deferrable Global apart mine = apart refl
by_class P Deferrable Deferrable apart mine = mine

pub still_whole : (class : Class) (old new : CpuBases) → DrainsClass class old new
    → NoneBehind (base_of class new) → HasNoneBehind old → HasNoneBehind new
still_whole class old new drains mine whole other =
    by_class (λ c. NoneBehind (base_of c new)) class other
    (λ apart. subst NoneBehind (sym (drains.others other apart)) (whole other)) mine

-- the part has room, and so the drain may go on there
may_there : (table : TableId) (class : Class) (part : HeldPart) (held : HeldPass)
    (p : PassView) (places : ℕ) → IsPassIn table held p → part.box.own.walk ≡ None
    → MayRunOf part.box class p → HasDrainRoom class part held places
    → MayHandEach class (with_guest part held) places
may_there table class part held p places is free may room = record {
  pass = p;
  brought = ap passes_of is;
  free = free;
  may_run = may;
  entries = room.entries;
  receipts =
      subst (λ (s : Option Seated). length (receipts_of s)
      + length (base_of class part.box.own.bases).items < held.room) is room.receipts;
  listed = room.listed;
}

-- a pass was brought into a part with room, and may drain it
pub may_each : (table : TableId) (class : Class) (part : HeldPart) (held : HeldPass)
    (p : PassView) (b : HeldPart) (places : ℕ) → IsPassIn table held p → b ≡ with_guest part held
    → Each (Agree b.box) b.brought → part.box.own.walk ≡ None
    → (Agree part.box p → MayRunOf part.box class p) → HasDrainRoom class part held places
    → MayHandEach class b places
may_each table class part held p b places is there met free may room =
    let agree = agrees part held table p is
    (subst (λ (z : HeldPart). Each (Agree z.box) z.brought) there met) in
    subst (λ (z : HeldPart). MayHandEach class z places) (sym there)
    (may_there table class part held p places is free (may agree) room)

-- a pass was brought into a part, which was drained
module _ (table : TableId) (o : World) (class : Class) (part : HeldPart) (held : HeldPass)
    (p : PassView) (is : IsPassIn table held p) (own : p.cpu ≡ held.cpu) (b : HeldPart)
    (there : b ≡ with_guest part held) (met : Each (Agree b.box) b.brought) (new : HeldPart)
    (items : List Item)
    (each : (q : PassView) → b.brought ≡ q ∷ [] → HandsEach o class q b new items) where
  agree : Agree part.box p
  agree =
      agrees part held table p is
      (subst (λ (z : HeldPart). Each (Agree z.box) z.brought) there met)

  h : HandsEach o class p (with_guest part held) new items
  h =
      subst (λ (z : HeldPart). HandsEach o class p z new items) there
      (each p (ap (λ (z : HeldPart). z.brought) there ∙ ap passes_of is))

  -- what the pass knows then
  abbrev after : PassView
  after = with_journal new.box (with_receipts h.receipts p)

  gone : renewed (new.box ∷ []) new.brought ≡ after ∷ []
  gone =
      ap (λ (ps : List PassView). renewed (new.box ∷ []) ps)
      (ap (λ (z : HeldPart). z.brought) h.part_is)

  begins_so : (t : Bool) → t ≡ (eqb p.cpu part.box.cpu)
      → BeginsWith (cond t h.bases.journal p.journal) p.journal
  begins_so false is = begins p.journal
  begins_so true is =
      begins_then h.bases.journal part.box.own.bases.journal p.journal
      (agree.journal (eqb-true p.cpu part.box.cpu (sym is))) h.drains.journal

  own_places : (i : ℕ) (r : Receipt) → slice_get h.receipts i ≡ Some r → r.cpu.0 ≡ p.cpu
      → r.place < length (cond (eqb p.cpu part.box.cpu) h.bases.journal p.journal)
  own_places i r at mine =
      let there = h.placed i r at in
      subst (λ (t : Bool). r.place < length (cond t h.bases.journal p.journal))
      (sym (eq-eqb p.cpu part.box.cpu (sym mine ∙ there.0))) there.1

  gone_piece : (off : HeldPass) → off ≡ pass_parted table held.cpu new
      → Piece table held off h.receipts [] 0
  gone_piece off there =
      record {
        before = p;
        later = after;
        had = is;
        has = ap (λ (z : HeldPass). z.seated) there ∙ ap (seated_of table) gone;
        cpu = ap (λ (z : HeldPass). z.cpu) there;
        gains =
            record {
              opening = refl;
              cpu = refl;
              walks_are = omega arith;
              ended = refl;
              receipts_are = refl;
              did_are = sym (append-nil p.did);
              idle = refl;
              inside = refl;
              reeval = refl;
              wakeup = refl;
              marks = refl;
              journal =
                  subst (λ (z : HeldPart). BeginsWith (with_journal z.box p).journal p.journal)
                  (sym h.part_is) (begins_so (eqb p.cpu part.box.cpu) refl);
              known =
                  subst (λ (z : HeldPart). KnowsOwn p
                  → KnowsOwn (with_journal z.box (with_receipts h.receipts p))) (sym h.part_is)
                  (known_more p h.receipts (cond (eqb p.cpu part.box.cpu) h.bases.journal p.journal)
                  (begins_so (eqb p.cpu part.box.cpu) refl) own_places);
            };
      }

  -- these timers went out
  pub all_timers : All (IsTimerOfRun o) items
  all_timers = h.timers

  pub few_out : length items ≤ length (base_of class part.box.own.bases).items
  few_out = h.fewer

  -- it is there
  pub still_there : (cpu : ℕ) → held.cpu ≡ cpu → HasGuest cpu new
  still_there cpu same = (
    with_receipts h.receipts p,
    ap (λ (z : HeldPart). z.brought) h.part_is,
    own ∙ same,
  )

  -- the part without it
  pub off_is : (off : HeldPart) → off ≡ without_guest new → but_for_bases part off
  off_is off there =
      let all : CpuBases → HeldPart = λ bases. record part {
        box = record part.box { own = record part.box.own { bases = bases } };
        brought = [];
        receipts_room = 0;
      } in
      let is : off ≡ all h.bases = there ∙ ap without_guest h.part_is in
      is ∙ ap all (sym (ap (λ (z : HeldPart). z.box.own.bases) is))

  pub off_whole : (off : HeldPart) → off ≡ without_guest new
      → HasNoneBehind part.box.own.bases → HasNoneBehind off.box.own.bases
  off_whole off there whole =
      subst HasNoneBehind
      (sym (ap (λ (z : HeldPart). z.box.own.bases) (there ∙ ap without_guest h.part_is)))
      (still_whole class part.box.own.bases h.bases h.drains h.none_behind whole)

  pub off_pass : (cpu : ℕ) (off : HeldPass) → cpu ≡ held.cpu → off ≡ pass_parted table cpu new
      → (receipts : List Receipt) × Piece table held off receipts [] 0
      × HandsOutItems part.box.cpu held.cpu class items receipts
  off_pass cpu off same there = (
    h.receipts,
    gone_piece off (there ∙ ap (λ n. pass_parted table n new) same),
    subst (λ n. HandsOutItems part.box.cpu n class items h.receipts) own h.hands,
  )

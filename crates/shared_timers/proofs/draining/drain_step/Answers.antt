use Rattle.std.proofs.Common.{◌≡◌, ℕ, ◌∷◌, [], List, Option, Some, None, refl, sym, ap}
use Rattle.std.proofs.Common.{◌∙◌, subst}
use Rattle.std.specs.Prelude.{IfNone, OnSome, length}
use Rattle.std.specs.Option.{option_copied_mut}
use Rattle.core_world.specs.World.{World}
use Rattle.tm_base.specs.declared.names.CpuId.{CpuId}
use Rattle.cpu_bases.specs.declared.entry.Entry.{Entry}
use Rattle.wheel_core.specs.declared.item.Item.{Item}
use Rattle.wheel_core.specs.PlainBase.{NoneBehind, OneFewer, OutIsDue, PlainBase, next_out}
use Rattle.cpu_bases.specs.CpuBases.{CpuBases, NotAhead, base_of, handed_out}
use Rattle.cpu_bases.specs.Laws.{HandsOut}
use Rattle.shared_rule.specs.declared.parts.BoxView.{BoxView}
use Rattle.shared_rule.specs.Timers.{handed_box}
use Rattle.shared_rule.specs.declared.box_part.Guest.{Guest}
use Rattle.shared_rule.specs.Parts.{HeldPart, Hosts, box_held, guest_room, looked_of}
use Rattle.shared_rule.specs.Rule.{seat_of}
use Rattle.shared_rule.specs.Shows.{receipt_of}
use Rattle.shared_timers.specs.Draining.{MayDrain, drained_pass}
use Rattle.shared_timers.specs.Entries.{on_both_of, with_receipt}
use Rattle.shared_timers.specs.Exchanging.{IsNext}
use Rattle.shared_timers.proofs.Exchanged.{on_pair_of}
use Rattle.shared_timers.proofs.Kept.{entry_there, guest_of, never_none, note_room, noted_part}
use Rattle.shared_timers.proofs.Kept.{shown, shown_part}
use Rattle.shared_timers.proofs.Outgoing.{journal_is, may_drain, out_entry, pass_is}
use Rattle.shared_timers.proofs.draining.drain_step.Goals as goal

pub drain-requires-clause-may : goal.drain-requires-clause-may
drain-requires-clause-may g c =
    let part = c.part.inside in
    let o : World = g.N.RunName.opening in
    let v : HeldPart = shown o part.cpu.0 part.status part.bases.plain part.leaf part.read
    (looked_of part.seat.me.0.boxes) part.seat.me.0.passes part.bases.room (guest_room part.guest) in
    may_drain o v part.seat.me c.args.class c.next_timer-next.result
    (subst (λ z. MayDrain z c.args.class) (sym c.part.view_is) c.requires.may)
    c.part.invariant.seat refl c.part.invariant.fits
    (subst (λ (z : HeldPart). IsNext o z.box c.args.class c.next_timer-next.result)
    (sym c.part.view_is) c.next_timer-next.ensures)

pub note-requires-clause-there : goal.note-requires-clause-there
note-requires-clause-there g c =
    let bases : CpuBases = c.part.inside.bases.plain in
    let by : CpuId = c.in-Some.guest.now.cpu in
    let e : Entry = out_entry c.args.now c.args.class by bases in (
      e,
      entry_there bases.journal c.take_due-item.new.self.plain.journal e c.len-place.result
          (ap (λ z. z.plain.journal) c.take_due-item.ensures.after
          ∙ journal_is c.args.now c.args.class by bases)
          (c.len-place.ensures ∙ ap (λ (es : List Entry). length es) c.journal.ensures.entries),
    )

pub invariant_of-part : goal.invariant_of-part
invariant_of-part g c =
    let part = c.part.inside in
    let o : World = g.N.RunName.opening in
    let bases : CpuBases = part.bases.plain in
    let looked = looked_of part.seat.me.0.boxes in
    let may = subst (λ z. MayDrain z c.args.class) (sym c.part.view_is) c.requires.may in
    let p = may.pass in
    let class = c.args.class in
    let b : BoxView = box_held o part.cpu.0 part.status bases part.leaf part.read looked in
    let is = on_pair_of (handed_box class) (drained_pass class) part.seat.me c.drain.new.seat.me b p
    (c.part.invariant.seat ∙ ap (seat_of (b ∷ [])) may.brought) c.drain.ensures.told in
    let guest : Guest = c.in-Some.guest.now in
    let there : part.guest ≡ Some guest =
    sym c.as_mut.ensures.value ∙ ap option_copied_mut c.in-Some.is in
    let hosts : Hosts (Some guest) part.seat.me.0.passes =
    subst (λ (z : Option Guest). Hosts z part.seat.me.0.passes) there c.part.invariant.hosts in
    let bytes = guest_of guest part.seat.me.0.passes p hosts may.brought in
    let now : c.args.now ≡ o.clock = c.requires.now in
    let e : Entry = out_entry o.clock class (record { 0 = p.cpu }) bases in
    let was : Entry = out_entry c.args.now class guest.cpu bases in
    let place : c.len-place.result ≡ length bases.journal =
    c.len-place.ensures ∙ ap (λ (es : List Entry). length es) c.journal.ensures.entries in
    noted_part g.N.RunName.table c.drain.new.seat.table_id o part.cpu.0 part.status bases
    (handed_out o.clock class (record { 0 = p.cpu }) bases) part.leaf part.read
    looked p part.seat.me.0.passes c.drain.new.seat.me (handed_box class) (drained_pass class)
    may.brought is refl e guest c.drain.ensures.table c.drain.ensures.sound hosts
    (pass_is class b p)
    c.take_due-item.new.self.plain
    (ap (λ z. z.plain) c.take_due-item.ensures.after
    ∙ (λ i. handed_out (now i) class (record { 0 = sym bytes.cpu i }) bases))
    c.note.new.guest
    (c.note.ensures was
    (entry_there bases.journal c.take_due-item.new.self.plain.journal was c.len-place.result
    (ap (λ z. z.plain.journal) c.take_due-item.ensures.after
    ∙ journal_is c.args.now class guest.cpu bases) place)
    ∙ (λ i. with_receipt (receipt_of part.cpu.0 (place i) (out_entry (now i) class
    (record { 0 = sym bytes.cpu i }) bases)) guest))

pub returns-clause-part : goal.returns-clause-part
returns-clause-part g c =
    let part = c.part.inside in
    let o : World = g.N.RunName.opening in
    let bases : CpuBases = part.bases.plain in
    let looked = looked_of part.seat.me.0.boxes in
    let may = subst (λ z. MayDrain z c.args.class) (sym c.part.view_is) c.requires.may in
    let p = may.pass in
    let class = c.args.class in
    let b : BoxView = box_held o part.cpu.0 part.status bases part.leaf part.read looked in
    let is = on_pair_of (handed_box class) (drained_pass class) part.seat.me c.drain.new.seat.me b p
    (c.part.invariant.seat ∙ ap (seat_of (b ∷ [])) may.brought) c.drain.ensures.told in
    let guest : Guest = c.in-Some.guest.now in
    let there : part.guest ≡ Some guest =
    sym c.as_mut.ensures.value ∙ ap option_copied_mut c.in-Some.is in
    let hosts : Hosts (Some guest) part.seat.me.0.passes =
    subst (λ (z : Option Guest). Hosts z part.seat.me.0.passes) there c.part.invariant.hosts in
    let bytes = guest_of guest part.seat.me.0.passes p hosts may.brought in
    let now : c.args.now ≡ o.clock = c.requires.now in
    let was : Entry = out_entry c.args.now class guest.cpu bases in
    let place : c.len-place.result ≡ length bases.journal =
    c.len-place.ensures ∙ ap (λ (es : List Entry). length es) c.journal.ensures.entries in
    shown_part g.N.RunName.table c.drain.new.seat.table_id o part.cpu.0 part.status bases
    (handed_out o.clock class (record { 0 = p.cpu }) bases) part.leaf part.read
    looked p part.seat.me.0.passes c.drain.new.seat.me (handed_box class) (drained_pass class)
    may.brought is refl
    c.take_due-item.new.self.plain
    (ap (λ z. z.plain) c.take_due-item.ensures.after
    ∙ (λ i. handed_out (now i) class (record { 0 = sym bytes.cpu i }) bases))
    part.bases.room c.take_due-item.new.self.room
    (ap (λ z. z.room) c.take_due-item.ensures.after)
    (guest_room part.guest) c.note.new.guest.receipts.capacity
    (ap (λ (z : Guest). z.receipts.capacity)
    (c.note.ensures was
    (entry_there bases.journal c.take_due-item.new.self.plain.journal was c.len-place.result
    (ap (λ z. z.plain.journal) c.take_due-item.ensures.after
    ∙ journal_is c.args.now class guest.cpu bases)
    place))
    ∙ ap guest_room (sym there))
    ∙ ap (on_both_of (handed_box class) (drained_pass class)) c.part.view_is

-- where nothing is due, nothing is behind a clock that isn't ahead
met : (now : ℕ) (base new : PlainBase) (out : Option Item) → NotAhead now base
    → IfNone out (NotAhead now base → NoneBehind new) → IfNone out (NoneBehind new)
met now base new None near then = then near
met now base new (Some item) near then = tt

pub returns-clause-none_behind : goal.returns-clause-none_behind
returns-clause-none_behind g c =
    let bases = c.part.inside.bases.plain in
    met c.args.now (base_of c.args.class bases)
    (base_of c.args.class c.take_due-item.new.self.plain) c.take_due-item.result
    (subst (λ n. NotAhead n (base_of c.args.class bases)) (sym c.requires.now)
    (c.part.invariant.fits.ahead c.args.class)) c.take_due-item.ensures.none_behind

pub next_timer-next-requires : goal.next_timer-next-requires
next_timer-next-requires g c = record { now = c.requires.now }

pub note-requires-clause-room : goal.note-requires-clause-room
note-requires-clause-room g c =
    let part = c.part.inside in
    let guest : Guest = c.in-Some.guest.now in
    let may = subst (λ z. MayDrain z c.args.class) (sym c.part.view_is) c.requires.may in
    note_room part.guest guest part.seat.me.0.passes may.pass
    (sym c.as_mut.ensures.value ∙ ap option_copied_mut c.in-Some.is) c.part.invariant.hosts
    may.brought may.entry.receipt

pub take_due-item-requires-clause-entry_room : goal.take_due-item-requires-clause-entry_room
take_due-item-requires-clause-entry_room g c =
    (subst (λ z. MayDrain z c.args.class) (sym c.part.view_is) c.requires.may).entry.entry

pub unreachable-requires : goal.unreachable-requires
unreachable-requires g c =
    let part = c.part.inside in
    let may = subst (λ z. MayDrain z c.args.class) (sym c.part.view_is) c.requires.may in
    never_none part.guest part.seat.me.0.passes may.pass
    (sym c.as_mut.ensures.value ∙ ap option_copied_mut c.in-None.is) c.part.invariant.hosts
    may.brought

pub returns-clause-item : goal.returns-clause-item
returns-clause-item g c =
    c.take_due-item.ensures.item
    ∙ ap (λ (z : HeldPart). next_out c.args.now (base_of c.args.class z.box.own.bases))
    c.part.view_is

pub returns-clause-due : goal.returns-clause-due
returns-clause-due g c =
    subst (λ (z : HeldPart). OutIsDue c.args.now (base_of c.args.class z.box.own.bases).items
    c.take_due-item.result) c.part.view_is c.take_due-item.ensures.due

pub returns-clause-one_fewer : goal.returns-clause-one_fewer
returns-clause-one_fewer g c =
    subst (λ (z : HeldPart). OnSome c.take_due-item.result
    (OneFewer (base_of c.args.class z.box.own.bases)
    (base_of c.args.class c.take_due-item.new.self.plain))) c.part.view_is
    c.take_due-item.ensures.one_fewer

pub returns-clause-keeps : goal.returns-clause-keeps
returns-clause-keeps g c =
    λ p one.
    let part = c.part.inside in
    let bases : CpuBases = part.bases.plain in
    let new : CpuBases = c.take_due-item.new.self.plain in
    let guest : Guest = c.in-Some.guest.now in
    let ps = part.seat.me.0.passes in
    let there : part.guest ≡ Some guest =
    sym c.as_mut.ensures.value ∙ ap option_copied_mut c.in-Some.is in
    let bytes = guest_of guest ps p
    (subst (λ (z : Option Guest). Hosts z ps) there c.part.invariant.hosts)
    (ap (λ (z : HeldPart). z.brought) c.part.view_is ∙ one) in
    subst (λ (z : HeldPart). HandsOut c.args.now c.args.class p.cpu z.box.own.bases new)
    c.part.view_is (subst (λ n. HandsOut c.args.now c.args.class n bases new) (sym bytes.cpu)
    c.take_due-item.ensures.keeps)

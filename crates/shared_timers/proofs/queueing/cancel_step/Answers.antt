use Rattle.std.proofs.Common.{◌≡◌, ◌∷◌, [], List, Option, Some, refl, sym, ap, ◌∙◌, subst}
use Rattle.std.proofs.Common.{arith}
use Rattle.std.specs.Prelude.{length}
use Rattle.std.specs.Option.{option_copied_mut}
use Rattle.std.proofs.lemmas.Option.{none-some}
use Rattle.core_world.specs.World.{World}
use Rattle.tm_base.specs.declared.names.CpuId.{CpuId}
use Rattle.cpu_bases.specs.declared.entry.Entry.{Entry}
use Rattle.cpu_bases.specs.CpuBases.{CpuBases, cancelled}
use Rattle.cpu_bases.specs.Laws.{CallKeeps}
use Rattle.shared_rule.specs.declared.parts.BoxView.{BoxView}
use Rattle.shared_rule.specs.Timers.{cancelled_box, cancelled_pass}
use Rattle.shared_rule.specs.declared.box_part.Guest.{Guest}
use Rattle.shared_rule.specs.Parts.{HeldPart, Hosts, box_held, guest_room, looked_of}
use Rattle.shared_rule.specs.Rule.{seat_of}
use Rattle.shared_rule.specs.Shows.{receipt_of}
use Rattle.shared_timers.specs.Entries.{on_both_of, with_receipt}
use Rattle.shared_timers.specs.Queueing.{MayCancel}
use Rattle.shared_timers.proofs.Cancelled.{entry, journal_is, may_take_out, pass_is}
use Rattle.shared_timers.proofs.Exchanged.{on_pair_of}
use Rattle.shared_timers.proofs.Kept.{entry_there, guest_of, never_none, note_room, noted_part}
use Rattle.shared_timers.proofs.Kept.{shown, shown_part}
use Rattle.shared_timers.proofs.queueing.cancel_step.Goals as goal

pub take_out-requires-clause-may : goal.take_out-requires-clause-may
take_out-requires-clause-may g c =
    let part = c.part.inside in
    let o : World = g.N.RunName.opening in
    let v : HeldPart = shown o part.cpu.0 part.status part.bases.plain part.leaf part.read
    (looked_of part.seat.me.0.boxes) part.seat.me.0.passes part.bases.room (guest_room part.guest) in
    may_take_out o v part.seat.me c.args.timer c.in-Some.class
    (subst (λ z. MayCancel o z c.args.timer) (sym c.part.view_is) c.requires.may)
    c.part.invariant.seat refl c.in-Some.ensures

pub note-requires-clause-there : goal.note-requires-clause-there
note-requires-clause-there g c =
    let bases : CpuBases = c.part.inside.bases.plain in
    let by : CpuId = c.in-Some-as_mut.guest.now.cpu in
    let queued = sym c.in-Some.ensures in
    let e : Entry = entry c.args.now c.args.timer.0 c.args.line by c.in-Some.class bases queued in (
      e,
      entry_there bases.journal c.cancel.new.self.plain.journal e c.len-place.result
          (ap (λ z. z.plain.journal) c.cancel.ensures.after
          ∙ journal_is c.args.now c.args.timer.0 c.args.line by c.in-Some.class bases queued)
          (c.len-place.ensures ∙ ap (λ (es : List Entry). length es) c.journal.ensures.entries),
    )

pub invariant_of-part : goal.invariant_of-part
invariant_of-part g c =
    let part = c.part.inside in
    let o : World = g.N.RunName.opening in
    let bases : CpuBases = part.bases.plain in
    let looked = looked_of part.seat.me.0.boxes in
    let may = subst (λ z. MayCancel o z c.args.timer) (sym c.part.view_is) c.requires.may in
    let p = may.pass in
    let b : BoxView = box_held o part.cpu.0 part.status bases part.leaf part.read looked in
    let is = on_pair_of (cancelled_box c.args.timer.0 c.args.line)
    (cancelled_pass c.args.timer.0 c.args.line) part.seat.me c.take_out.new.seat.me b p
    (c.part.invariant.seat ∙ ap (seat_of (b ∷ [])) may.brought) c.take_out.ensures.told in
    let guest : Guest = c.in-Some-as_mut.guest.now in
    let there : part.guest ≡ Some guest =
    sym c.as_mut.ensures.value ∙ ap option_copied_mut c.in-Some-as_mut.is in
    let hosts : Hosts (Some guest) part.seat.me.0.passes =
    subst (λ (z : Option Guest). Hosts z part.seat.me.0.passes) there c.part.invariant.hosts in
    let bytes = guest_of guest part.seat.me.0.passes p hosts may.brought in
    let now : c.args.now ≡ o.clock = c.requires.now in
    let queued = sym c.in-Some.ensures in
    let e : Entry =
    entry o.clock c.args.timer.0 c.args.line (record { 0 = p.cpu }) c.in-Some.class bases queued in
    let was : Entry =
    entry c.args.now c.args.timer.0 c.args.line guest.cpu c.in-Some.class bases queued in
    let place : c.len-place.result ≡ length bases.journal =
    c.len-place.ensures ∙ ap (λ (es : List Entry). length es) c.journal.ensures.entries in
    noted_part g.N.RunName.table c.take_out.new.seat.table_id o part.cpu.0 part.status bases
    (cancelled o.clock c.args.timer.0 c.args.line (record { 0 = p.cpu }) bases) part.leaf part.read
    looked p part.seat.me.0.passes c.take_out.new.seat.me
    (cancelled_box c.args.timer.0 c.args.line) (cancelled_pass c.args.timer.0 c.args.line)
    may.brought is refl e guest c.take_out.ensures.table c.take_out.ensures.sound hosts
    (pass_is c.args.timer.0 c.args.line
    b p c.in-Some.class
    (sym c.in-Some.ensures))
    c.cancel.new.self.plain
    (ap (λ z. z.plain) c.cancel.ensures.after
    ∙ (λ i. cancelled (now i) c.args.timer.0 c.args.line (record { 0 = sym bytes.cpu i }) bases))
    c.note.new.guest
    (c.note.ensures was
    (entry_there bases.journal c.cancel.new.self.plain.journal was c.len-place.result
    (ap (λ z. z.plain.journal) c.cancel.ensures.after
    ∙ journal_is c.args.now c.args.timer.0 c.args.line guest.cpu c.in-Some.class bases queued)
    place)
    ∙ (λ i. with_receipt (receipt_of part.cpu.0 (place i) (entry (now i) c.args.timer.0 c.args.line
    (record { 0 = sym bytes.cpu i }) c.in-Some.class bases queued)) guest))

pub returns-clause-part : goal.returns-clause-part
returns-clause-part g c =
    let part = c.part.inside in
    let o : World = g.N.RunName.opening in
    let bases : CpuBases = part.bases.plain in
    let looked = looked_of part.seat.me.0.boxes in
    let may = subst (λ z. MayCancel o z c.args.timer) (sym c.part.view_is) c.requires.may in
    let p = may.pass in
    let b : BoxView = box_held o part.cpu.0 part.status bases part.leaf part.read looked in
    let is = on_pair_of (cancelled_box c.args.timer.0 c.args.line)
    (cancelled_pass c.args.timer.0 c.args.line) part.seat.me c.take_out.new.seat.me b p
    (c.part.invariant.seat ∙ ap (seat_of (b ∷ [])) may.brought) c.take_out.ensures.told in
    let guest : Guest = c.in-Some-as_mut.guest.now in
    let there : part.guest ≡ Some guest =
    sym c.as_mut.ensures.value ∙ ap option_copied_mut c.in-Some-as_mut.is in
    let hosts : Hosts (Some guest) part.seat.me.0.passes =
    subst (λ (z : Option Guest). Hosts z part.seat.me.0.passes) there c.part.invariant.hosts in
    let bytes = guest_of guest part.seat.me.0.passes p hosts may.brought in
    let now : c.args.now ≡ o.clock = c.requires.now in
    let queued = sym c.in-Some.ensures in
    let was : Entry =
    entry c.args.now c.args.timer.0 c.args.line guest.cpu c.in-Some.class bases queued in
    let place : c.len-place.result ≡ length bases.journal =
    c.len-place.ensures ∙ ap (λ (es : List Entry). length es) c.journal.ensures.entries in
    shown_part g.N.RunName.table c.take_out.new.seat.table_id o part.cpu.0 part.status bases
    (cancelled o.clock c.args.timer.0 c.args.line (record { 0 = p.cpu }) bases) part.leaf part.read
    looked p part.seat.me.0.passes c.take_out.new.seat.me
    (cancelled_box c.args.timer.0 c.args.line) (cancelled_pass c.args.timer.0 c.args.line)
    may.brought is refl
    c.cancel.new.self.plain
    (ap (λ z. z.plain) c.cancel.ensures.after
    ∙ (λ i. cancelled (now i) c.args.timer.0 c.args.line (record { 0 = sym bytes.cpu i }) bases))
    part.bases.room c.cancel.new.self.room (ap (λ z. z.room) c.cancel.ensures.after)
    (guest_room part.guest) c.note.new.guest.receipts.capacity
    (ap (λ (z : Guest). z.receipts.capacity)
    (c.note.ensures was
    (entry_there bases.journal c.cancel.new.self.plain.journal was c.len-place.result
    (ap (λ z. z.plain.journal) c.cancel.ensures.after
    ∙ journal_is c.args.now c.args.timer.0 c.args.line guest.cpu c.in-Some.class bases queued)
    place))
    ∙ ap guest_room (sym there))
    ∙ ap (on_both_of (cancelled_box c.args.timer.0 c.args.line)
    (cancelled_pass c.args.timer.0 c.args.line)) c.part.view_is

pub returns-clause-keeps : goal.returns-clause-keeps
returns-clause-keeps g c =
    subst (λ (z : HeldPart). CallKeeps c.args.now z.box.own.bases c.cancel.new.self.plain)
    c.part.view_is c.cancel.ensures.keeps

pub cancel-requires-clause-now_in_time : goal.cancel-requires-clause-now_in_time
cancel-requires-clause-now_in_time g c =
    omega (arith, c.requires.now, c.part.invariant.fits.opening.in_time)

pub cancel-requires-clause-entry_room : goal.cancel-requires-clause-entry_room
cancel-requires-clause-entry_room g c =
    (subst (λ z. MayCancel g.N.RunName.opening z c.args.timer) (sym c.part.view_is)
    c.requires.may).entry.entry

pub note-requires-clause-room : goal.note-requires-clause-room
note-requires-clause-room g c =
    let part = c.part.inside in
    let guest : Guest = c.in-Some-as_mut.guest.now in
    let may = subst (λ z. MayCancel g.N.RunName.opening z c.args.timer) (sym c.part.view_is)
    c.requires.may in
    note_room part.guest guest part.seat.me.0.passes may.pass
    (sym c.as_mut.ensures.value ∙ ap option_copied_mut c.in-Some-as_mut.is) c.part.invariant.hosts
    may.brought may.entry.receipt

pub unreachable-requires-in-None : goal.unreachable-requires-in-None
unreachable-requires-in-None g c =
    let part = c.part.inside in
    let may = subst (λ z. MayCancel g.N.RunName.opening z c.args.timer) (sym c.part.view_is)
    c.requires.may in
    never_none part.guest part.seat.me.0.passes may.pass
    (sym c.as_mut.ensures.value ∙ ap option_copied_mut c.in-None.is) c.part.invariant.hosts
    may.brought

pub unreachable-requires : goal.unreachable-requires
unreachable-requires g c =
    let may = subst (λ z. MayCancel g.N.RunName.opening z c.args.timer) (sym c.part.view_is)
    c.requires.may in
    none-some may.class (c.in_default.ensures ∙ may.may.queued)

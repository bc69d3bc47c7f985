use Rattle.std.proofs.Common.{◌≡◌, ◌<◌, ◌∷◌, [], List, Option, Some, refl, sym, ap, ◌∙◌, subst}
use Rattle.std.proofs.Common.{arith}
use Rattle.std.specs.Prelude.{length}
use Rattle.std.specs.Option.{option_copied_mut}
use Rattle.core_world.specs.World.{World}
use Rattle.cpu_bases.specs.declared.entry.Entry.{Entry}
use Rattle.cpu_bases.specs.CpuBases.{CpuBases, armed, item_queued}
use Rattle.cpu_bases.specs.Laws.{CallKeeps}
use Rattle.shared_words.specs.declared.spot.Spot.{Spot}
use Rattle.shared_words.specs.Words.{spot_of}
use Rattle.shared_rule.specs.declared.parts.BoxView.{BoxView}
use Rattle.shared_rule.specs.declared.parts.PassView.{PassView}
use Rattle.shared_rule.specs.Plays.{Agree, head_pass, seen_pass}
use Rattle.shared_rule.specs.Rule.{Each, Me, seat_of}
use Rattle.shared_rule.specs.Shows.{receipt_of}
use Rattle.shared_rule.specs.Timers.{armed_box, armed_pass}
use Rattle.shared_rule.proofs.Holding.{holds}
use Rattle.shared_rule.specs.declared.box_part.Guest.{Guest}
use Rattle.shared_rule.specs.Parts.{HeldPart, Hosts, box_held, guest_room, looked_of}
use Rattle.shared_timers.specs.Entries.{on_both_of, with_receipt}
use Rattle.shared_timers.specs.Exchanging.{timer_word}
use Rattle.shared_timers.specs.Queueing.{MayArm}
use Rattle.shared_timers.proofs.Tried.{arm_entry, is_zero, may_try_arm, not_zero, seen_hosts}
use Rattle.shared_timers.proofs.Exchanged.{armed_me, consistent_of, missed_me}
use Rattle.shared_timers.proofs.Kept.{entry_there, never_none, note_room, noted_part, shown}
use Rattle.shared_timers.proofs.Kept.{shown_part}
use Rattle.shared_timers.proofs.Unqueued.{was_unqueued}
use Rattle.shared_timers.proofs.queueing.arm_step.Goals as goal

pub try_arm-found-requires-clause-may : goal.try_arm-found-requires-clause-may
try_arm-found-requires-clause-may g c =
    let part = c.part.inside in
    let o : World = g.N.RunName.opening in
    let v : HeldPart = shown o part.cpu.0 part.status part.bases.plain part.leaf part.read
    (looked_of part.seat.me.0.boxes) part.seat.me.0.passes part.bases.room (guest_room part.guest) in
    may_try_arm o v part.seat.me c.args.arming
    (subst (λ z. MayArm o z c.args.arming) (sym c.part.view_is) c.requires.may)
    c.part.invariant.seat refl

pub invariant_of-part : goal.invariant_of-part
invariant_of-part g c =
    let part = c.part.inside in
    let o : World = g.N.RunName.opening in
    let bases : CpuBases = part.bases.plain in
    let looked = looked_of part.seat.me.0.boxes in
    let b : BoxView = box_held o part.cpu.0 part.status bases part.leaf part.read looked in
    let may = subst (λ z. MayArm o z c.args.arming) (sym c.part.view_is) c.requires.may in
    let p = may.pass in
    let found = c.try_arm-found.result in
    let word = timer_word o c.args.arming.timer.0 in
    let m = c.try_arm-found.new.seat.me in
    let missed = missed_me c.args.arming word found part.seat.me m b p
    (c.part.invariant.seat ∙ ap (seat_of (b ∷ [])) may.brought)
    (not_zero found c.in-Some.spot c.in-Some.ensures.exact) c.try_arm-found.ensures.told in
    holds g.N.RunName.table c.try_arm-found.new.seat.table_id o part.cpu.0 part.status bases
    part.leaf part.read looked m part.guest (seen_pass word found p ∷ [])
    c.try_arm-found.ensures.table missed.0 c.try_arm-found.ensures.sound
    (seen_hosts part.guest part.seat.me.0.passes p word found may.brought c.part.invariant.hosts)

pub arm-wheel-requires-clause-not_queued : goal.arm-wheel-requires-clause-not_queued
arm-wheel-requires-clause-not_queued g c =
    let part = c.part.inside in
    let o : World = g.N.RunName.opening in
    let bases : CpuBases = part.bases.plain in
    let looked = looked_of part.seat.me.0.boxes in
    let b : BoxView = box_held o part.cpu.0 part.status bases part.leaf part.read looked in
    let may = subst (λ z. MayArm o z c.args.arming) (sym c.part.view_is) c.requires.may in
    let p = may.pass in
    let a = c.args.arming in
    let found = c.try_arm-found.result in
    let m = c.try_arm-found.new.seat.me in
    let is = armed_me a (timer_word o a.timer.0) found part.seat.me m b p
    (c.part.invariant.seat ∙ ap (seat_of (b ∷ [])) may.brought)
    (is_zero found c.in_default.ensures.exact) c.try_arm-found.ensures.told in
    was_unqueued o.clock a.class a.timer.0 a.expires a.job a.arg a.line (record { 0 = p.cpu }) bases
    c.journal.ensures.consistent
    (consistent_of m (armed_box a.class a.timer.0 a.expires a.job a.arg a.line b p)
    (armed_pass a.class a.timer.0 a.expires a.job a.arg a.line b p) is
    c.try_arm-found.ensures.sound)

pub note-requires-clause-there : goal.note-requires-clause-there
note-requires-clause-there g c =
    let bases : CpuBases = c.part.inside.bases.plain in
    let e : Entry = arm_entry c.args.now c.args.arming c.part.inside.cpu bases in (
      e,
      entry_there bases.journal c.arm-wheel.new.self.plain.journal e c.len-place.result
          (ap (λ z. z.plain.journal) c.arm-wheel.ensures.after)
          (c.len-place.ensures ∙ ap (λ (es : List Entry). length es) c.journal.ensures.entries),
    )

pub invariant_of-part-2 : goal.invariant_of-part-2
invariant_of-part-2 g c =
    let part = c.part.inside in
    let o : World = g.N.RunName.opening in
    let bases : CpuBases = part.bases.plain in
    let looked = looked_of part.seat.me.0.boxes in
    let b : BoxView = box_held o part.cpu.0 part.status bases part.leaf part.read looked in
    let may = subst (λ z. MayArm o z c.args.arming) (sym c.part.view_is) c.requires.may in
    let p = may.pass in
    let a = c.args.arming in
    let found = c.try_arm-found.result in
    let m = c.try_arm-found.new.seat.me in
    let is = armed_me a (timer_word o a.timer.0) found part.seat.me m b p
    (c.part.invariant.seat ∙ ap (seat_of (b ∷ [])) may.brought)
    (is_zero found c.in_default.ensures.exact) c.try_arm-found.ensures.told in
    let guest : Guest = c.in-Some-as_mut.guest.now in
    let there : part.guest ≡ Some guest =
    sym c.as_mut.ensures.value ∙ ap option_copied_mut c.in-Some-as_mut.is in
    let hosts : Hosts (Some guest) part.seat.me.0.passes =
    subst (λ (z : Option Guest). Hosts z part.seat.me.0.passes) there c.part.invariant.hosts in
    let now : c.args.now ≡ o.clock = c.requires.now in
    let by : p.cpu ≡ part.cpu.0 = may.may.own in
    let place : c.len-place.result ≡ length bases.journal =
    c.len-place.ensures ∙ ap (λ (es : List Entry). length es) c.journal.ensures.entries in
    let was : Entry = arm_entry c.args.now a part.cpu bases in
    noted_part g.N.RunName.table c.try_arm-found.new.seat.table_id o part.cpu.0 part.status bases
    (armed o.clock a.class a.timer.0 a.expires a.job a.arg a.line (record { 0 = p.cpu }) bases)
    part.leaf part.read looked p part.seat.me.0.passes m
    (armed_box a.class a.timer.0 a.expires a.job a.arg a.line)
    (armed_pass a.class a.timer.0 a.expires a.job a.arg a.line) may.brought is refl
    (arm_entry o.clock a (record { 0 = p.cpu }) bases) guest c.try_arm-found.ensures.table
    c.try_arm-found.ensures.sound hosts refl c.arm-wheel.new.self.plain
    (ap (λ z. z.plain) c.arm-wheel.ensures.after
    ∙ (λ i. armed (now i) a.class a.timer.0 a.expires a.job a.arg a.line
    (record { 0 = sym by i }) bases))
    c.note.new.guest
    (c.note.ensures was
    (entry_there bases.journal c.arm-wheel.new.self.plain.journal was c.len-place.result
    (ap (λ z. z.plain.journal) c.arm-wheel.ensures.after) place)
    ∙ (λ i. with_receipt (receipt_of part.cpu.0 (place i)
    (arm_entry (now i) a (record { 0 = sym by i }) bases)) guest))

pub returns-clause-armed : goal.returns-clause-armed
returns-clause-armed g c =
    let part = c.part.inside in
    let o : World = g.N.RunName.opening in
    let bases : CpuBases = part.bases.plain in
    let looked = looked_of part.seat.me.0.boxes in
    let b : BoxView = box_held o part.cpu.0 part.status bases part.leaf part.read looked in
    let may = subst (λ z. MayArm o z c.args.arming) (sym c.part.view_is) c.requires.may in
    let p = may.pass in
    let a = c.args.arming in
    let found = c.try_arm-found.result in
    let m = c.try_arm-found.new.seat.me in
    let is = armed_me a (timer_word o a.timer.0) found part.seat.me m b p
    (c.part.invariant.seat ∙ ap (seat_of (b ∷ [])) may.brought)
    (is_zero found c.in_default.ensures.exact) c.try_arm-found.ensures.told in
    let guest : Guest = c.in-Some-as_mut.guest.now in
    let there : part.guest ≡ Some guest =
    sym c.as_mut.ensures.value ∙ ap option_copied_mut c.in-Some-as_mut.is in
    let hosts : Hosts (Some guest) part.seat.me.0.passes =
    subst (λ (z : Option Guest). Hosts z part.seat.me.0.passes) there c.part.invariant.hosts in
    let now : c.args.now ≡ o.clock = c.requires.now in
    let by : p.cpu ≡ part.cpu.0 = may.may.own in
    let place : c.len-place.result ≡ length bases.journal =
    c.len-place.ensures ∙ ap (λ (es : List Entry). length es) c.journal.ensures.entries in
    let was : Entry = arm_entry c.args.now a part.cpu bases in
    shown_part g.N.RunName.table c.try_arm-found.new.seat.table_id o part.cpu.0 part.status bases
    (armed o.clock a.class a.timer.0 a.expires a.job a.arg a.line (record { 0 = p.cpu }) bases)
    part.leaf part.read looked p part.seat.me.0.passes m
    (armed_box a.class a.timer.0 a.expires a.job a.arg a.line)
    (armed_pass a.class a.timer.0 a.expires a.job a.arg a.line) may.brought is refl
    c.arm-wheel.new.self.plain
    (ap (λ z. z.plain) c.arm-wheel.ensures.after
    ∙ (λ i. armed (now i) a.class a.timer.0 a.expires a.job a.arg a.line
    (record { 0 = sym by i }) bases))
    part.bases.room c.arm-wheel.new.self.room (ap (λ z. z.room) c.arm-wheel.ensures.after)
    (guest_room part.guest) c.note.new.guest.receipts.capacity
    (ap (λ (z : Guest). z.receipts.capacity)
    (c.note.ensures was
    (entry_there bases.journal c.arm-wheel.new.self.plain.journal was c.len-place.result
    (ap (λ z. z.plain.journal) c.arm-wheel.ensures.after) place))
    ∙ ap guest_room (sym there))
    ∙ ap (on_both_of (armed_box a.class a.timer.0 a.expires a.job a.arg a.line)
    (armed_pass a.class a.timer.0 a.expires a.job a.arg a.line)) c.part.view_is

pub arm-wheel-requires-clause-now_in_time : goal.arm-wheel-requires-clause-now_in_time
arm-wheel-requires-clause-now_in_time g c =
    omega (arith, c.requires.now, c.part.invariant.fits.opening.in_time)

pub arm-wheel-requires-clause-expires_in_time : goal.arm-wheel-requires-clause-expires_in_time
arm-wheel-requires-clause-expires_in_time g c = c.requires.may.may.in_time

pub arm-wheel-requires-clause-room : goal.arm-wheel-requires-clause-room
arm-wheel-requires-clause-room g c =
    (subst (λ z. MayArm g.N.RunName.opening z c.args.arming) (sym c.part.view_is)
    c.requires.may).room

pub arm-wheel-requires-clause-entry_room : goal.arm-wheel-requires-clause-entry_room
arm-wheel-requires-clause-entry_room g c =
    (subst (λ z. MayArm g.N.RunName.opening z c.args.arming) (sym c.part.view_is)
    c.requires.may).entry.entry

pub arm-wheel-requires-clause-none_behind : goal.arm-wheel-requires-clause-none_behind
arm-wheel-requires-clause-none_behind g c =
    (subst (λ z. MayArm g.N.RunName.opening z c.args.arming) (sym c.part.view_is)
    c.requires.may).may.none_behind

pub note-requires-clause-room : goal.note-requires-clause-room
note-requires-clause-room g c =
    let part = c.part.inside in
    let guest : Guest = c.in-Some-as_mut.guest.now in
    let may = subst (λ z. MayArm g.N.RunName.opening z c.args.arming) (sym c.part.view_is)
    c.requires.may in
    note_room part.guest guest part.seat.me.0.passes may.pass
    (sym c.as_mut.ensures.value ∙ ap option_copied_mut c.in-Some-as_mut.is) c.part.invariant.hosts
    may.brought may.entry.receipt

pub unreachable-requires : goal.unreachable-requires
unreachable-requires g c =
    let part = c.part.inside in
    let may = subst (λ z. MayArm g.N.RunName.opening z c.args.arming) (sym c.part.view_is)
    c.requires.may in
    never_none part.guest part.seat.me.0.passes may.pass
    (sym c.as_mut.ensures.value ∙ ap option_copied_mut c.in-None.is) c.part.invariant.hosts
    may.brought

pub returns-in-Some-clause-queued : goal.returns-in-Some-clause-queued
returns-in-Some-clause-queued g c =
    let part = c.part.inside in
    let o : World = g.N.RunName.opening in
    let b : BoxView = box_held o part.cpu.0 part.status part.bases.plain part.leaf part.read
    (looked_of part.seat.me.0.boxes) in
    let may = subst (λ z. MayArm g.N.RunName.opening z c.args.arming) (sym c.part.view_is)
    c.requires.may in
    let p = may.pass in
    let found = c.try_arm-found.result in
    let spot : Spot = c.in-Some.spot in
    let word = timer_word o c.args.arming.timer.0 in
    let seen = seen_pass word found in
    let names : spot_of found ≡ Some spot = sym c.in-Some.ensures.exact in
    let missed = missed_me c.args.arming word found part.seat.me c.try_arm-found.new.seat.me b p
    (c.part.invariant.seat ∙ ap (seat_of (b ∷ [])) may.brought)
    (not_zero found spot c.in-Some.ensures.exact) c.try_arm-found.ensures.told in
    let agrees : Each (Agree b) (p ∷ []) =
    subst (λ (ps : List PassView). Each (Agree b) ps) may.brought c.part.invariant.agrees in
    let at : Me → HeldPart
    = λ me. shown o part.cpu.0 part.status part.bases.plain part.leaf part.read
    (looked_of me.0.boxes) me.0.passes part.bases.room (guest_room part.guest) in
    let after : HeldPart → HeldPart = λ v. record v { brought = head_pass seen v.brought } in
    record {
      found = found;
      spot = spot;
      names = names;
      of_run = subst (λ (w : World). spot.cpu.0 < length w.cpus) agrees.0.opening
          (missed.1 spot names);
      is = refl;
      remembered =
          ap at missed.0
          ∙ (sym (ap (λ ps. after (record (at part.seat.me) { brought = ps })) may.brought)
          ∙ ap after c.part.view_is);
    }

pub returns-clause-wheel : goal.returns-clause-wheel
returns-clause-wheel g c =
    let a = c.args.arming in
    c.arm-wheel.ensures.wheel
    ∙ ap (λ (z : HeldPart). (item_queued c.args.now a.class a.timer.0 a.expires a.job a.arg
    z.box.own.bases).wheel) c.part.view_is

pub returns-clause-keeps : goal.returns-clause-keeps
returns-clause-keeps g c =
    subst (λ (z : HeldPart). CallKeeps c.args.now z.box.own.bases c.arm-wheel.new.self.plain)
    c.part.view_is c.arm-wheel.ensures.keeps

use Rattle.std.proofs.Common.{◌≡◌, Option, Some, None, sym, ap, ◌∙◌, subst}
use Rattle.core_world.specs.World.{World}
use Rattle.shared_rule.specs.declared.box_part.Guest.{Guest}
use Rattle.shared_rule.specs.declared.parts.View.{View}
use Rattle.shared_rule.specs.Parts.{HeldPart, Hosts, box_held, guest_room, looked_of, pass_parted}
use Rattle.shared_rule.specs.Parts.{without_guest}
use Rattle.shared_rule.specs.Passes.{seated_of}
use Rattle.shared_rule.specs.Rule.{Me, renewed, seen, tail_of}
use Rattle.shared_rule.proofs.Calls.{some_word}
use Rattle.shared_rule.proofs.Holding.{has_first, parted}
use Rattle.shared_rule.proofs.Seated.{held_pass}
use Rattle.shared_rule.proofs.bringing.part_off.Goals as goal

pub split_seat-seat-requires : goal.split_seat-seat-requires
split_seat-seat-requires g c =
    let run = c.args.run.now in
    let key : World = run.words.shared.key.core in
    let seat = c.part.inside.seat in
    let brought = c.requires.brought in (
      c.part.invariant.named ∙ sym run.fits.named,
      some_word g.N.RunName.table g.N.RunName.opening run.words.shared.table_id key run.tree
          run.layout run.fits,
      (c.law_seats.ensures key).renewed seat.id seat.me.0
          (has_first seat.me.0.passes brought.0
          (ap (λ z. z.brought) c.part.view_is ∙ brought.1)),
    )

pub put-requires-clause-part : goal.put-requires-clause-part
put-requires-clause-part g c =
    let part = c.part.inside in
    let b = box_held g.N.RunName.opening part.cpu.0 part.status part.bases.plain part.leaf part.read
    (looked_of part.seat.me.0.boxes) in
    let is : part.guest ≡ Some c.in-Some.guest = sym c.take.ensures.value ∙ c.in-Some.is in
    parted part.seat.me c.split_seat-seat.result.me b c.in-Some.guest c.part.invariant.seat
    (subst (λ (z : Option Guest). Hosts z part.seat.me.0.passes) is c.part.invariant.hosts)
    c.split_seat-seat.ensures.4

pub returns-clause-pass : goal.returns-clause-pass
returns-clause-pass g c =
    let part = c.part.inside in
    let off = c.split_seat-seat.ensures in
    let is = sym c.take.ensures.value ∙ c.in-Some.is in
    let named = off.3 ∙ c.part.invariant.named in
    let passes = ap (λ (z : Me). z.0.passes) off.4
    ∙ ap (λ (z : Me). renewed z.0.boxes part.seat.me.0.passes) c.part.invariant.seat in
    c.put.ensures
    ∙ ((λ t. held_pass c.args.pass.now.cpu (guest_room (sym is t)) (seated_of (named t) (passes t)))
    ∙ ap (pass_parted g.N.RunName.table c.args.pass.now.cpu) c.part.view_is)

pub returns-clause-part : goal.returns-clause-part
returns-clause-part g c =
    let part = c.part.inside in
    let left = c.split_seat-seat.ensures.2 in
    let none = c.take.ensures.after in
    let is : part.guest ≡ Some c.in-Some.guest = sym c.take.ensures.value ∙ c.in-Some.is in
    let hosts = subst (λ (z : Option Guest). Hosts z part.seat.me.0.passes) is
    c.part.invariant.hosts in
    let with_passes : View → Option Guest → HeldPart = λ v guest. record {
      box = box_held g.N.RunName.opening part.cpu.0 part.status part.bases.plain part.leaf part.read
          (looked_of v.boxes);
      brought = v.passes;
      room = part.bases.room;
      receipts_room = guest_room guest;
    } in
    (λ t. with_passes (left t).0 (none t))
    ∙ (ap (λ ps. with_passes (seen part.seat.me.0.boxes (tail_of ps)) None) hosts.1
    ∙ ap without_guest c.part.view_is)

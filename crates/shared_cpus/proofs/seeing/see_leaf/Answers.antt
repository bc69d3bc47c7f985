use Rattle.std.proofs.Common.{◌≡◌, ◌∷◌, [], refl, sym, ap, ◌∙◌, subst}
use mathlib.Core.Option.{none}
use Rattle.atomic_table.specs.Table.{step}
use Rattle.core_world.specs.World.{World}
use Rattle.event_queue.specs.Word.{slot_of}
use Rattle.walk_rules.specs.Hierarchy.{HasGroup, group_on, side}
use Rattle.shared_words.specs.declared.layout.SharedWord.{SharedWord}
use Rattle.shared_words.specs.Layout.{index_of}
use Rattle.shared_rule.specs.declared.parts.BoxView.{BoxView}
use Rattle.shared_rule.specs.declared.parts.PassView.{PassView}
use Rattle.shared_rule.specs.Plays as plays
use Rattle.shared_rule.specs.Turns as turns
use Rattle.shared_rule.specs.Rule.{Me, seat_of}
use Rattle.shared_rule.specs.Whole.{slot_at}
use Rattle.shared_rule.specs.Parts.{HeldPart, Hosts, box_held, guest_room, looked_of}
use Rattle.shared_rule.proofs.Calls.{asks, place}
use Rattle.shared_cpus.specs.Pairs.{HasOne, leaf_place, with_seen}
use Rattle.shared_cpus.proofs.Guesting.{same_hosts}
use Rattle.shared_cpus.proofs.Turned.{keeps, path_on, shows}
use Rattle.shared_cpus.proofs.seeing.see_leaf.Goals as goal

pub load-requires : goal.load-requires
load-requires g c =
    let run = c.args.run.now in
    let table = run.words.shared.table_id in
    let part = c.part.inside in
    let o : World = g.N.RunName.opening in
    let b = box_held o part.cpu.0 part.status part.bases.plain part.leaf part.read
    (looked_of part.seat.me.0.boxes) in
    let can = subst HasOne (sym c.part.view_is) c.requires.brought in
    let me : part.seat.me ≡ seat_of (b ∷ []) (can.0 ∷ []) =
    c.part.invariant.seat ∙ ap (seat_of (b ∷ [])) can.1 in
    let low = c.leaf_place-place.ensures in
    let leaf = subst (λ (z : HeldPart). HasGroup z.box.opening.tree z.box.cpu) (sym c.part.view_is)
    c.requires.leaf in
    let path = path_on o.tree b.cpu leaf.0 leaf.1 in
    let at : SharedWord = slot_at (group_on o.tree b.cpu 0) (side o.tree b.cpu 0) in
    let where_at : c.leaf_place-place.result ≡ index_of run.layout at = low.place
    ∙ sym (place g.N.RunName.table o table run.words.shared.key.core run.tree run.layout run.fits
    at) in
    asks g.N.RunName.table o table run.words.shared.key.core run.tree run.layout run.fits
    part.seat.table_id part.seat.id c.leaf_place-place.result part.seat.me b (can.0 ∷ []) at
    (λ n. n) (λ i v n w. turns.SeesLeaf (step table.slots i 0 0 none) v n w)
    c.part.invariant.named me where_at (low.group, low.side)
    (c.law_notice.ensures.leaf o table.slots part.seat.id (group_on o.tree b.cpu 0) b can.0
    low.group
    low.side path)

pub invariant_of-part : goal.invariant_of-part
invariant_of-part g c =
    let part = c.part.inside in
    let o : World = g.N.RunName.opening in
    let looked = looked_of part.seat.me.0.boxes in
    let b = box_held o part.cpu.0 part.status part.bases.plain part.leaf part.read looked in
    let can = subst HasOne (sym c.part.view_is) c.requires.brought in
    let p = can.0 in
    let me : part.seat.me ≡ seat_of (b ∷ []) (p ∷ []) =
    c.part.invariant.seat ∙ ap (seat_of (b ∷ [])) can.1 in
    let m = c.load.new.seat.me in
    let h : BoxView → PassView → PassView = λ x q. plays.seen_pass c.leaf_place-place.result
    c.load.result q in
    let is : m ≡ seat_of (b ∷ []) (h b p ∷ []) = c.load.ensures.2.0.0
    ∙ ap (plays.on_pass (plays.seen_pass c.leaf_place-place.result c.load.result)) me in
    keeps g.N.RunName.table c.load.new.seat.table_id o part.cpu.0 part.status part.bases.plain
    part.leaf part.read looked part.guest m (λ x q. x) h b p is refl
    (c.load.ensures.0 ∙ c.part.invariant.named) c.load.ensures.2.1
    (same_hosts part.guest p (h b p) (subst (Hosts part.guest) can.1 c.part.invariant.hosts)
    (record { cpu = refl; walks_are = refl; receipts = refl }))

pub returns-clause-seen : goal.returns-clause-seen
returns-clause-seen g c =
    let part = c.part.inside in
    let o : World = g.N.RunName.opening in
    let looked = looked_of part.seat.me.0.boxes in
    let b = box_held o part.cpu.0 part.status part.bases.plain part.leaf part.read looked in
    let can = subst HasOne (sym c.part.view_is) c.requires.brought in
    let p = can.0 in
    let me : part.seat.me ≡ seat_of (b ∷ []) (p ∷ []) =
    c.part.invariant.seat ∙ ap (seat_of (b ∷ [])) can.1 in
    let m = c.load.new.seat.me in
    let h : BoxView → PassView → PassView = λ x q. plays.seen_pass c.leaf_place-place.result
    c.load.result q in
    let is : m ≡ seat_of (b ∷ []) (h b p ∷ []) = c.load.ensures.2.0.0
    ∙ ap (plays.on_pass (plays.seen_pass c.leaf_place-place.result c.load.result)) me in
    shows g.N.RunName.table c.load.new.seat.table_id o part.cpu.0 part.status part.bases.plain
    part.leaf part.read looked part.guest m (λ x q. x) h b p is refl part.bases.room
    (guest_room part.guest) part.seat.me.0.passes refl can.1
    ∙ (λ i. with_seen ((c.leaf_place-place.ensures.place ∙ ap (λ
    (z : HeldPart). leaf_place z.box.opening z.box.cpu) c.part.view_is) i)
    c.load.result (c.part.view_is i))

pub returns-clause-event : goal.returns-clause-event
returns-clause-event g c =
    let part = c.part.inside in
    let o : World = g.N.RunName.opening in
    let b = box_held o part.cpu.0 part.status part.bases.plain part.leaf part.read
    (looked_of part.seat.me.0.boxes) in
    let event : slot_of c.load.result ≡ b.leaf =
    subst (λ (z : Me). turns.IsOwnLeaf z.0.boxes c.load.result) c.part.invariant.seat
    c.load.ensures.2.0.1 in
    event ∙ ap (λ (z : HeldPart). z.box.leaf) c.part.view_is

pub leaf_place-place-requires-clause-leaf : goal.leaf_place-place-requires-clause-leaf
leaf_place-place-requires-clause-leaf g c =
    subst (λ (z : HeldPart). HasGroup z.box.opening.tree z.box.cpu)
    (sym c.part.view_is) c.requires.leaf

use Rattle.std.proofs.Common.{◌≡◌, ◌∷◌, [], refl, sym, ap, ◌∙◌, subst}
use mathlib.Core.Option.{none}
use Rattle.atomic_table.specs.Table.{step}
use Rattle.core_world.specs.World.{World}
use Rattle.shared_rule.specs.declared.parts.BoxView.{BoxView}
use Rattle.shared_rule.specs.declared.parts.PassView.{PassView}
use Rattle.shared_rule.specs.Plays as plays
use Rattle.shared_rule.specs.Turns as turns
use Rattle.shared_rule.specs.Rule.{Me, seat_of}
use Rattle.shared_rule.specs.Whole.{cpu_at, own_word}
use Rattle.shared_rule.specs.Parts.{HeldPart, Hosts, box_held, guest_room, looked_of}
use Rattle.shared_rule.proofs.Calls.{asks, place}
use Rattle.shared_cpus.specs.Pairs.{HasOne, cpu_place, with_seen}
use Rattle.shared_cpus.proofs.Guesting.{same_hosts}
use Rattle.shared_cpus.proofs.Turned.{keeps, shows}
use Rattle.shared_cpus.proofs.seeing.see_cpu.Goals as goal

pub load-requires : goal.load-requires
load-requires g c =
    let run = c.args.run.now in
    let table = run.words.shared.table_id in
    let part = c.part.inside in
    let o : World = g.N.RunName.opening in
    let b = box_held o part.cpu.0 part.status part.bases.plain part.leaf part.read
    (looked_of part.seat.me.0.boxes) in
    let can = subst HasOne (sym c.part.view_is) c.requires in
    let me : part.seat.me ≡ seat_of (b ∷ []) (can.0 ∷ []) =
    c.part.invariant.seat ∙ ap (seat_of (b ∷ [])) can.1 in
    asks g.N.RunName.table o table run.words.shared.key.core run.tree run.layout run.fits
    part.seat.table_id part.seat.id c.index-place.result part.seat.me b (can.0 ∷ []) (cpu_at b.cpu)
    (λ n. n) (λ i v n w. turns.SeesCpu (step table.slots i 0 0 none) v n w)
    c.part.invariant.named me c.index-place.ensures c.part.invariant.fits.cpu
    (c.law_notice.ensures.cpu o table.slots part.seat.id b can.0 c.part.invariant.fits.cpu)

pub invariant_of-part : goal.invariant_of-part
invariant_of-part g c =
    let part = c.part.inside in
    let o : World = g.N.RunName.opening in
    let looked = looked_of part.seat.me.0.boxes in
    let b = box_held o part.cpu.0 part.status part.bases.plain part.leaf part.read looked in
    let can = subst HasOne (sym c.part.view_is) c.requires in
    let p = can.0 in
    let me : part.seat.me ≡ seat_of (b ∷ []) (p ∷ []) =
    c.part.invariant.seat ∙ ap (seat_of (b ∷ [])) can.1 in
    let m = c.load.new.seat.me in
    let h : BoxView → PassView → PassView = λ x q. plays.seen_pass c.index-place.result
    c.load.result q in
    let is : m ≡ seat_of (b ∷ []) (h b p ∷ []) = c.load.ensures.2.0.0
    ∙ ap (plays.on_pass (plays.seen_pass c.index-place.result c.load.result)) me in
    keeps g.N.RunName.table c.load.new.seat.table_id o part.cpu.0 part.status part.bases.plain
    part.leaf part.read looked part.guest m (λ x q. x) h b p is refl
    (c.load.ensures.0 ∙ c.part.invariant.named) c.load.ensures.2.1
    (same_hosts part.guest p (h b p) (subst (Hosts part.guest) can.1 c.part.invariant.hosts)
    (record { cpu = refl; walks_are = refl; receipts = refl }))

pub returns-clause-seen : goal.returns-clause-seen
returns-clause-seen g c =
    let run = c.args.run.now in
    let part = c.part.inside in
    let o : World = g.N.RunName.opening in
    let looked = looked_of part.seat.me.0.boxes in
    let b = box_held o part.cpu.0 part.status part.bases.plain part.leaf part.read looked in
    let can = subst HasOne (sym c.part.view_is) c.requires in
    let p = can.0 in
    let me : part.seat.me ≡ seat_of (b ∷ []) (p ∷ []) =
    c.part.invariant.seat ∙ ap (seat_of (b ∷ [])) can.1 in
    let m = c.load.new.seat.me in
    let h : BoxView → PassView → PassView = λ x q. plays.seen_pass c.index-place.result
    c.load.result q in
    let is : m ≡ seat_of (b ∷ []) (h b p ∷ []) = c.load.ensures.2.0.0
    ∙ ap (plays.on_pass (plays.seen_pass c.index-place.result c.load.result)) me in
    let where_at : c.index-place.result ≡ cpu_place o part.cpu.0 = c.index-place.ensures
    ∙ place g.N.RunName.table o run.words.shared.table_id run.words.shared.key.core run.tree
    run.layout run.fits (cpu_at part.cpu.0) in
    shows g.N.RunName.table c.load.new.seat.table_id o part.cpu.0 part.status part.bases.plain
    part.leaf part.read looked part.guest m (λ x q. x) h b p is refl part.bases.room
    (guest_room part.guest) part.seat.me.0.passes refl can.1
    ∙ (λ i. with_seen ((where_at ∙ ap (λ (z : HeldPart). cpu_place z.box.opening z.box.cpu)
    c.part.view_is) i)
    c.load.result (c.part.view_is i))

pub returns-clause-word : goal.returns-clause-word
returns-clause-word g c =
    let part = c.part.inside in
    let o : World = g.N.RunName.opening in
    let b = box_held o part.cpu.0 part.status part.bases.plain part.leaf part.read
    (looked_of part.seat.me.0.boxes) in
    let word : c.load.result ≡ own_word b.own =
    subst (λ (z : Me). turns.IsOwnWord z.0.boxes c.load.result) c.part.invariant.seat
    c.load.ensures.2.0.1 in
    word ∙ ap (λ (z : HeldPart). own_word z.box.own) c.part.view_is

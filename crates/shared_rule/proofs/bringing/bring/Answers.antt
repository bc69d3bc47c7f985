use Rattle.std.proofs.Common.{◌≡◌, ◌∷◌, [], Some, refl, sym, ap, ◌∙◌}
use Rattle.std.proofs.lemmas.Option.{same_Some}
use Rattle.core_world.specs.World.{World}
use Rattle.shared_rule.specs.Rule.{Me, seat_of}
use Rattle.shared_rule.specs.Parts.{box_held, looked_of}
use Rattle.shared_rule.specs.Passes.{Seated}
use Rattle.shared_rule.proofs.Calls.{some_word}
use Rattle.shared_rule.proofs.Holding.{holds, joined}
use Rattle.shared_rule.proofs.bringing.bring.Goals as goal

pub join_seat-requires : goal.join_seat-requires
join_seat-requires g c =
    let run = c.args.run.now in
    let name = g.N.RunName.table in
    let table = run.words.shared.table_id in
    let key : World = run.words.shared.key.core in
    let seat = c.part.inside.seat in
    let other = c.take-guest.result.1 in
    let there = c.take-guest.ensures.seat in
    let same : record { table = other.table_id; pass = there.0 }
    ≡ record { table = name; pass = c.requires.pass.0 } =
    same_Some _ _ (sym there.1 ∙ c.requires.pass.1) in (
      c.part.invariant.named ∙ sym run.fits.named,
      ap (λ (z : Seated). z.table) same ∙ sym run.fits.named,
      ap (λ (z : Me). z.1) there.2,
      some_word name g.N.RunName.opening table key run.tree run.layout run.fits,
      (c.law_seats.ensures key).joined seat.id other.id seat.me.0 other.me.0,
    )

pub meet-requires-clause-part : goal.meet-requires-clause-part
meet-requires-clause-part g c =
    let part = c.part.inside in
    let b = box_held g.N.RunName.opening part.cpu.0 part.status part.bases.plain part.leaf part.read
    (looked_of part.seat.me.0.boxes) in
    let there = c.take-guest.ensures.seat in
    let none = ap (λ z. z.brought) c.part.view_is ∙ c.requires.alone in
    let is = joined part.seat.me c.take-guest.result.1.me c.join_seat.new.seat.me b there.0
    c.part.invariant.seat none there.2 c.join_seat.ensures.2 in
    (b, refl, is ∙ ap (seat_of (b ∷ [])) (sym (ap (λ (z : Me). z.0.passes) is)))

pub invariant_of-part : goal.invariant_of-part
invariant_of-part g c =
    let part = c.part.inside in
    let o : World = g.N.RunName.opening in
    let looked = looked_of part.seat.me.0.boxes in
    let b = box_held o part.cpu.0 part.status part.bases.plain part.leaf part.read looked in
    let there = c.take-guest.ensures.seat in
    let none = ap (λ z. z.brought) c.part.view_is ∙ c.requires.alone in
    let is : c.join_seat.new.seat.me ≡ seat_of (b ∷ []) (there.0 ∷ []) = joined part.seat.me c.take-guest.result.1.me c.join_seat.new.seat.me b there.0
    c.part.invariant.seat none there.2 c.join_seat.ensures.2 in
    holds g.N.RunName.table c.meet.new.seat.table_id o part.cpu.0 part.status part.bases.plain
    part.leaf part.read looked c.meet.new.seat.me (Some c.take-guest.result.0) (there.0 ∷ [])
    c.meet.ensures.table (c.meet.ensures.same ∙ is) c.meet.ensures.sound (there.0, refl, there.3)

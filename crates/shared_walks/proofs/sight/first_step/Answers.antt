use Rattle.std.proofs.Common.{◌≡◌, ◌<◌, Some, refl, ap, sym, ◌∙◌}
use mathlib.Core.Option.{none}
use Rattle.atomic_table.specs.Table.{step}
use Rattle.walk_rules.specs.declared.walk.Walk.{Walk}
use Rattle.walk_rules.specs.declared.walk.Stage.TheVariants as stages
use Rattle.walk_rules.specs.Hierarchy.{group_on}
use Rattle.core_world.specs.World.{World}
use Rattle.shared_rule.specs.Plays as plays
use Rattle.shared_rule.specs.Whole.{slot_at}
use Rattle.shared_rule.specs.Parts.{box_held, looked_of}
use Rattle.shared_rule.proofs.Calls.{asks, place}
use Rattle.shared_walks.specs.Steps.{slot_place}
use Rattle.shared_walks.proofs.Standing.{fits_at, path_to, stands}
use Rattle.shared_walks.proofs.sight.first_step.Goals as goal

pub slot_place-place-requires-clause-there : goal.slot_place-place-requires-clause-there
slot_place-place-requires-clause-there g c =
    let part = c.part.inside in
    let o : World = g.N.RunName.opening in
    let b = box_held o part.cpu.0 part.status part.bases.plain part.leaf part.read
    (looked_of part.seat.me.0.boxes) in
    let k : Walk = c.args.walk in
    let at : b.own.walk ≡ Some k = ap (λ z. z.box.own.walk) c.part.view_is ∙ c.requires.walk in
    stands o b k (stages.First c.args.k) (c.part.invariant.fits.walk k at) c.requires.stage refl

pub load-found-requires : goal.load-found-requires
load-found-requires g c =
    let run = c.args.run.now in
    let table = run.words.shared.table_id in
    let part = c.part.inside in
    let o : World = g.N.RunName.opening in
    let b = box_held o part.cpu.0 part.status part.bases.plain part.leaf part.read
    (looked_of part.seat.me.0.boxes) in
    let k : Walk = c.args.walk in
    let at : b.own.walk ≡ Some k = ap (λ z. z.box.own.walk) c.part.view_is ∙ c.requires.walk in
    let ps = part.seat.me.0.passes in
    let group = group_on o.tree b.cpu k.level in
    let path = path_to o.tree b.cpu k.level
    (stands o b k (stages.First c.args.k) (c.part.invariant.fits.walk k at) c.requires.stage refl) in
    let low = c.slot_place-place.ensures.group in
    let eight : c.args.k < 8 = (fits_at o b k (stages.First c.args.k) (c.part.invariant.fits.walk k at) c.requires.stage refl).2 in
    let same = place g.N.RunName.table o table run.words.shared.key.core run.tree run.layout
    run.fits (slot_at group c.args.k) in
    let there = ◌∙◌ {b = slot_place o b.cpu k.level c.args.k} c.slot_place-place.ensures.place (sym same) in
    asks g.N.RunName.table o table run.words.shared.key.core run.tree run.layout run.fits
    part.seat.table_id part.seat.id c.slot_place-place.result part.seat.me b ps (slot_at group c.args.k)
    (λ n. n) (λ i v n w. plays.ScansTop (step table.slots i 0 0 none) v n w)
    (c.part.invariant.named) (c.part.invariant.seat)
    there
    (low, eight)
    (c.law_sight.ensures.top o table.slots part.seat.id group c.args.k b k ps eight (record { group = low; walk = at; stage = c.requires.stage; path = path }))

pub first_next-requires : goal.first_next-requires
first_next-requires g c =
    let part = c.part.inside in
    let o : World = g.N.RunName.opening in
    let b = box_held o part.cpu.0 part.status part.bases.plain part.leaf part.read
    (looked_of part.seat.me.0.boxes) in
    let k : Walk = c.args.walk in
    let at : b.own.walk ≡ Some k = ap (λ z. z.box.own.walk) c.part.view_is ∙ c.requires.walk in
    (fits_at o b k (stages.First c.args.k) (c.part.invariant.fits.walk k at) c.requires.stage refl).2

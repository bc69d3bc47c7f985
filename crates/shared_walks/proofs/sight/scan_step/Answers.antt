use Rattle.std.proofs.Common.{◌≡◌, ◌<◌, Some, refl, ap, ◌∙◌}
use mathlib.Core.Option.{none}
use Rattle.atomic_table.specs.Table.{step}
use Rattle.walk_rules.specs.declared.walk.Walk.{Walk}
use Rattle.walk_rules.specs.declared.walk.Stage.TheVariants as stages
use Rattle.core_world.specs.World.{World}
use Rattle.shared_rule.specs.Plays as plays
use Rattle.shared_rule.specs.Whole.{slot_at}
use Rattle.shared_rule.specs.Parts.{box_held, looked_of}
use Rattle.shared_rule.proofs.Calls.{asks}
use Rattle.shared_walks.proofs.Standing.{fits_at, stands_over}
use Rattle.shared_walks.proofs.sight.scan_step.Goals as goal

pub group_below-group-requires-clause-there : goal.group_below-group-requires-clause-there
group_below-group-requires-clause-there g c =
    let part = c.part.inside in
    let o : World = g.N.RunName.opening in
    let b = box_held o part.cpu.0 part.status part.bases.plain part.leaf part.read
    (looked_of part.seat.me.0.boxes) in
    let k : Walk = c.args.walk in
    let at : b.own.walk ≡ Some k = ap (λ z. z.box.own.walk) c.part.view_is ∙ c.requires.walk in
    stands_over o b k (stages.Scan c.args.k) (c.law_hierarchy.ensures o.tree c.part.invariant.fits.planned)
    (c.part.invariant.fits.walk k at) c.requires.stage refl (fits_at o b k (stages.Scan c.args.k) (c.part.invariant.fits.walk k at) c.requires.stage refl).1

pub load-found-requires : goal.load-found-requires
load-found-requires g c =
    let run = c.args.run.now in
    let table = run.words.shared.table_id in
    let part = c.part.inside in
    let o : World = g.N.RunName.opening in
    let b = box_held o part.cpu.0 part.status part.bases.plain part.leaf part.read
    (looked_of part.seat.me.0.boxes) in
    let k : Walk = c.args.walk in
    let at : b.own.walk ≡ Some k = ap (λ z. z.box.own.walk) c.part.view_is ∙ c.requires.walk in
    let ps = part.seat.me.0.passes in
    let group = c.group_below-group.result.0 in
    let low = c.group_below-group.ensures.group in
    let path = c.group_below-group.ensures.path in
    let eight : c.args.k < 8 = (fits_at o b k (stages.Scan c.args.k) (c.part.invariant.fits.walk k at) c.requires.stage refl).2 in
    asks g.N.RunName.table o table run.words.shared.key.core run.tree run.layout run.fits
    part.seat.table_id part.seat.id c.index-place.result part.seat.me b ps (slot_at group c.args.k)
    (λ n. n) (λ i v n w. plays.Scans (step table.slots i 0 0 none) v n w)
    (c.part.invariant.named) (c.part.invariant.seat) (c.index-place.ensures) ((low, eight)) (c.law_sight.ensures.scan o table.slots part.seat.id group c.args.k b k ps eight (record { group = low; walk = at; stage = c.requires.stage; path = path }))

pub scan_next-requires : goal.scan_next-requires
scan_next-requires g c =
    let part = c.part.inside in
    let o : World = g.N.RunName.opening in
    let b = box_held o part.cpu.0 part.status part.bases.plain part.leaf part.read
    (looked_of part.seat.me.0.boxes) in
    let k : Walk = c.args.walk in
    let at : b.own.walk ≡ Some k = ap (λ z. z.box.own.walk) c.part.view_is ∙ c.requires.walk in
    (fits_at o b k (stages.Scan c.args.k) (c.part.invariant.fits.walk k at) c.requires.stage refl).2

use Rattle.std.proofs.Common.{◌≡◌, ◌<◌, Some, refl, sym, ap, ◌∙◌}
use Rattle.std.proofs.Common.{length, subst}
use mathlib.Core.Option.{none}
use Rattle.atomic_table.specs.Table.{step}
use Rattle.walk_rules.specs.declared.walk.Walk.{Walk}
use Rattle.walk_rules.specs.declared.walk.Stage.TheVariants as stages
use Rattle.core_world.specs.World.{World}
use Rattle.shared_rule.specs.Plays as plays
use Rattle.shared_rule.specs.Whole.{cpu_at}
use Rattle.shared_rule.specs.Parts.{box_held, looked_of}
use Rattle.shared_rule.proofs.Calls.{asks}
use Rattle.shared_walks.proofs.Standing.{stands}
use Rattle.shared_walks.proofs.leaving.own_child_step.Goals as goal

pub load-requires : goal.load-requires
load-requires g c =
    let run = c.args.run.now in
    let table = run.words.shared.table_id in
    let part = c.part.inside in
    let o : World = g.N.RunName.opening in
    let b = box_held o part.cpu.0 part.status part.bases.plain part.leaf part.read
    (looked_of part.seat.me.0.boxes) in
    let k : Walk = c.args.walk in
    let at : b.own.walk ≡ Some k = ap (λ z. z.box.own.walk) c.part.view_is ∙ c.requires.stands.walk in
    let ps = part.seat.me.0.passes in
    let there = stands o b k stages.Child (c.part.invariant.fits.walk k at) c.requires.stands.stage refl in
    let cpu = c.part.invariant.fits.cpu in
    let group = there.0 in
    let path = there.1 in
    let low : group < length o.groups = subst (λ n. group < n) (sym run.fits.groups)
    ((c.law_paths.ensures o.tree c.part.invariant.fits.planned).group_within b.cpu k.level group path) in
    asks g.N.RunName.table o table run.words.shared.key.core run.tree run.layout run.fits
    part.seat.table_id part.seat.id c.index-place.result part.seat.me b ps (cpu_at b.cpu)
    (λ n. n) (λ i v n w. plays.ReadsOwn (step table.slots i 0 0 none) v n w)
    (c.part.invariant.named) (c.part.invariant.seat) (c.index-place.ensures) (cpu) (c.law_leave.ensures.own o table.slots part.seat.id group b k ps cpu c.requires.leaf (record { group = low; walk = at; stage = c.requires.stands.stage; path = path }))

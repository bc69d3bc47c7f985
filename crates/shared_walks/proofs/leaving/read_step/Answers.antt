use Rattle.std.proofs.Common.{◌≡◌, Some, refl, ap, ◌∙◌}
use mathlib.Core.Option.{none}
use Rattle.atomic_table.specs.Table.{step}
use Rattle.walk_rules.specs.declared.walk.Walk.{Walk}
use Rattle.walk_rules.specs.declared.walk.Stage.TheVariants as stages
use Rattle.core_world.specs.World.{World}
use Rattle.shared_rule.specs.Plays as plays
use Rattle.shared_rule.specs.Whole.{state_at}
use Rattle.shared_rule.specs.Parts.{box_held, looked_of}
use Rattle.shared_rule.proofs.Calls.{asks}
use Rattle.shared_walks.proofs.Standing.{stands}
use Rattle.shared_walks.proofs.leaving.read_step.Goals as goal

pub group_on-group-requires-clause-there : goal.group_on-group-requires-clause-there
group_on-group-requires-clause-there g c =
    let part = c.part.inside in
    let o : World = g.N.RunName.opening in
    let b = box_held o part.cpu.0 part.status part.bases.plain part.leaf part.read
    (looked_of part.seat.me.0.boxes) in
    let k : Walk = c.args.walk in
    let at : b.own.walk ≡ Some k = ap (λ z. z.box.own.walk) c.part.view_is ∙ c.requires.walk in
    stands o b k stages.Read (c.part.invariant.fits.walk k at) c.requires.stage refl

pub load-found-requires : goal.load-found-requires
load-found-requires g c =
    let run = c.args.run.now in
    let table = run.words.shared.table_id in
    let part = c.part.inside in
    let o : World = g.N.RunName.opening in
    let b = box_held o part.cpu.0 part.status part.bases.plain part.leaf part.read
    (looked_of part.seat.me.0.boxes) in
    let k : Walk = c.args.walk in
    let at : b.own.walk ≡ Some k = ap (λ z. z.box.own.walk) c.part.view_is ∙ c.requires.walk in
    let ps = part.seat.me.0.passes in
    let group = c.group_on-group.result.0 in
    let low = c.group_on-group.ensures.group in
    let path = c.group_on-group.ensures.path in
    asks g.N.RunName.table o table run.words.shared.key.core run.tree run.layout run.fits
    part.seat.table_id part.seat.id c.index-place.result part.seat.me b ps (state_at group)
    (λ n. n) (λ i v n w. plays.ReadsGroup (step table.slots i 0 0 none) v n w)
    (c.part.invariant.named) (c.part.invariant.seat) (c.index-place.ensures) (low) (c.law_leave.ensures.group o table.slots part.seat.id group b k ps (record { group = low; walk = at; stage = c.requires.stage; path = path }))

use Rattle.std.proofs.Common.{◌≡◌, ◌^◌, ◌<◌, Some, refl, ap, ◌∙◌, subst}
use Rattle.std.specs.Prelude.{bit_or}
use mathlib.Core.Option.{none}
use Rattle.atomic_table.specs.Table.{step}
use Rattle.walk_rules.specs.declared.walk.Walk.{Walk}
use Rattle.walk_rules.specs.declared.walk.Stage.TheVariants as stages
use Rattle.walk_rules.specs.Hierarchy.{side}
use Rattle.core_world.specs.World.{World}
use Rattle.shared_words.specs.Layout.{index_of}
use Rattle.shared_rule.specs.Plays as plays
use Rattle.shared_rule.specs.Whole.{slot_at}
use Rattle.shared_rule.specs.Parts.{box_held, looked_of}
use Rattle.shared_rule.proofs.Calls.{asks}
use Rattle.shared_walks.proofs.Standing.{has_group}
use Rattle.shared_walks.proofs.activation.own_step.Goals as goal

pub group_on-group-requires-clause-there : goal.group_on-group-requires-clause-there
group_on-group-requires-clause-there g c =
    let part = c.part.inside in
    let o : World = g.N.RunName.opening in
    let b = box_held o part.cpu.0 part.status part.bases.plain part.leaf part.read
    (looked_of part.seat.me.0.boxes) in
    let k : Walk = c.args.walk in
    let at : b.own.walk ≡ Some k = ap (λ z. z.box.own.walk) c.part.view_is ∙ c.requires.walk in
    has_group o b k stages.Own (c.part.invariant.fits.walk k at) c.requires.stage refl

pub fetch_or-requires : goal.fetch_or-requires
fetch_or-requires g c =
    let run = c.args.run.now in
    let table = run.words.shared.table_id in
    let part = c.part.inside in
    let o : World = g.N.RunName.opening in
    let b = box_held o part.cpu.0 part.status part.bases.plain part.leaf part.read
    (looked_of part.seat.me.0.boxes) in
    let k : Walk = c.args.walk in
    let ps = part.seat.me.0.passes in
    let at : b.own.walk ≡ Some k = ap (λ z. z.box.own.walk) c.part.view_is ∙ c.requires.walk in
    let group = c.group_on-group.result.0 in
    let child = side o.tree b.cpu 0 in
    let low = c.group_on-group.ensures.group in
    let a_child : child < 8 = subst (λ n. n < 8) c.side_on-child.ensures.side
    c.side_on-child.ensures.a_child in
    let where_at : c.index-place.result ≡ index_of run.layout (slot_at group child) =
    c.index-place.ensures
    ∙ ap (λ n. index_of run.layout (slot_at group n)) c.side_on-child.ensures.side in
    asks g.N.RunName.table o table run.words.shared.key.core run.tree run.layout run.fits
    part.seat.table_id part.seat.id c.index-place.result part.seat.me b ps (slot_at group child)
    (λ n. bit_or n (2 ^ 58)) (λ i v n w. plays.MarksOwn (step table.slots i (2 ^ 58) 0 none) v n w)
    c.part.invariant.named c.part.invariant.seat where_at (low, a_child)
    (c.law_ignore.ensures.own o table.slots part.seat.id group b k ps a_child
    (record {
      group = low;
      walk = at;
      stage = c.requires.stage;
      path = c.group_on-group.ensures.path;
    }))

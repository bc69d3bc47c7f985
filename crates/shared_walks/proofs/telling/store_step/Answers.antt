use Rattle.std.proofs.Common.{◌≡◌, ◌<◌, Some, refl, sym, ap, ◌∙◌}
use Rattle.std.proofs.Common.{Option, subst, arith}
use mathlib.Core.Option.{none}
use Rattle.atomic_table.specs.Table.{step}
use Rattle.walk_rules.specs.declared.walk.Walk.{Walk}
use Rattle.walk_rules.specs.declared.walk.Stage.TheVariants as stages
use Rattle.walk_rules.specs.Hierarchy.{side}
use Rattle.std.specs.Option.{ForSome}
use Rattle.event_queue.specs.declared.event.Event.{Event}
use Rattle.event_queue.specs.EventMap.{FitsWord}
use Rattle.core_world.specs.World.{World}
use Rattle.event_queue.specs.Word.{slot_word}
use Rattle.shared_words.specs.Layout.{index_of}
use Rattle.shared_rule.specs.Plays as plays
use Rattle.shared_rule.specs.Whole.{slot_at}
use Rattle.shared_rule.specs.Parts.{box_held, looked_of}
use Rattle.shared_rule.proofs.Calls.{asks}
use Rattle.shared_walks.proofs.Fitting.{stored_fits}
use Rattle.shared_walks.proofs.Standing.{stands}
use Rattle.shared_walks.proofs.telling.store_step.Goals as goal

pub group_on-group-requires-clause-there : goal.group_on-group-requires-clause-there
group_on-group-requires-clause-there g c =
    let part = c.part.inside in
    let o : World = g.N.RunName.opening in
    let b = box_held o part.cpu.0 part.status part.bases.plain part.leaf part.read
    (looked_of part.seat.me.0.boxes) in
    let k : Walk = c.args.walk in
    let at : b.own.walk ≡ Some k = ap (λ z. z.box.own.walk) c.part.view_is ∙ c.requires.walk in
    stands o b k stages.Store (c.part.invariant.fits.walk k at) c.requires.stage refl

pub store-requires : goal.store-requires
store-requires g c =
    let run = c.args.run.now in
    let table = run.words.shared.table_id in
    let part = c.part.inside in
    let o : World = g.N.RunName.opening in
    let b = box_held o part.cpu.0 part.status part.bases.plain part.leaf part.read
    (looked_of part.seat.me.0.boxes) in
    let k : Walk = c.args.walk in
    let at : b.own.walk ≡ Some k = ap (λ z. z.box.own.walk) c.part.view_is ∙ c.requires.walk in
    let ps = part.seat.me.0.passes in
    let group = c.group_on-group.result.0 in
    let low = c.group_on-group.ensures.group in
    let path = c.group_on-group.ensures.path in
    let child = side o.tree b.cpu k.level in
    let a_child : child < 8 = subst (λ n. n < 8) c.side_on-child.ensures.side
    c.side_on-child.ensures.a_child in
    let new = c.pack_event-word.result in
    asks g.N.RunName.table o table run.words.shared.key.core run.tree run.layout run.fits
    part.seat.table_id part.seat.id c.index-place.result part.seat.me b ps (slot_at group child)
    (λ n. new) (λ i v n w. plays.Stores (step table.slots i new 0 none) v new w)
    (c.part.invariant.named) (c.part.invariant.seat) (c.index-place.ensures ∙ ap (λ n. index_of run.layout (slot_at group n)) c.side_on-child.ensures.side) ((low, a_child)) (c.law_store.ensures o table.slots part.seat.id group new b k ps a_child (record { group = low; walk = at; stage = c.requires.stage; path = path })
    (c.pack_event-word.ensures ∙ ap slot_word c.stored_event-event.ensures.event))

pub at_top-top-requires-clause-level : goal.at_top-top-requires-clause-level
at_top-top-requires-clause-level g c =
    let at = ap (λ z. z.box.own.walk) c.part.view_is ∙ c.requires.walk in
    let fits = c.part.invariant.fits.walk c.args.walk at in
    let low = fits.low in
    omega (arith, low)

pub pack_event-word-requires : goal.pack_event-word-requires
pack_event-word-requires g c =
    let part = c.part.inside in
    let o : World = g.N.RunName.opening in
    let k : Walk = c.args.walk in
    let at = ap (λ z. z.box.own.walk) c.part.view_is ∙ c.requires.walk in
    let fits = c.part.invariant.fits in
    subst (λ (e : Option Event). ForSome e FitsWord) (sym c.stored_event-event.ensures.event)
    (stored_fits o part.cpu.0 k fits.many fits.cpu (fits.walk k at).ranges)

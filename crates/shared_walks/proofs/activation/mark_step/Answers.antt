use Rattle.std.proofs.Common.{◌≡◌, ◌+◌, ◌^◌, ◌<◌, Some, suc, refl, sym, ap, ◌∙◌, subst}
use Rattle.std.proofs.Common.{◌∷◌, [], false, eq-eqb, ne_eqb, arith}
use Rattle.std.specs.Prelude.{bit_or}
use mathlib.Core.Option.{none}
use Rattle.atomic_table.specs.Table.{step}
use Rattle.tree_plan.specs.Paths.{group_at_of}
use Rattle.walk_rules.specs.declared.walk.Walk.{Walk}
use Rattle.walk_rules.specs.declared.walk.Stage.TheVariants as stages
use Rattle.walk_rules.specs.Hierarchy.{side}
use Rattle.walk_rules.specs.Stages.{mark_next}
use Rattle.core_world.specs.World.{World}
use Rattle.shared_rule.specs.core_state.Kept.{HasLevel}
use Rattle.shared_words.specs.Layout.{index_of}
use Rattle.shared_rule.specs.declared.parts.BoxView.{BoxView}
use Rattle.shared_rule.specs.Plays as plays
use Rattle.shared_rule.specs.Rule.{seat_of}
use Rattle.shared_rule.specs.Whole.{slot_at}
use Rattle.shared_rule.specs.Parts.{HeldPart, box_held, guest_room, looked_of}
use Rattle.shared_rule.proofs.Calls.{asks}
use Rattle.shared_walks.specs.Steps.{on_part}
use Rattle.shared_walks.proofs.Boxed.{keeps, shows, walked}
use Rattle.shared_walks.proofs.Standing.{fits_at}
use Rattle.shared_walks.proofs.activation.mark_step.Goals as goal

pub overflow_add-level : goal.overflow_add-level
overflow_add-level g c =
    let at = ap (λ z. z.box.own.walk) c.part.view_is ∙ c.requires.walk in
    let low = (c.part.invariant.fits.walk c.args.walk at).low in
    omega (arith, low)

pub group_on-group-requires-clause-there : goal.group_on-group-requires-clause-there
group_on-group-requires-clause-there g c =
    let part = c.part.inside in
    let o : World = g.N.RunName.opening in
    let b = box_held o part.cpu.0 part.status part.bases.plain part.leaf part.read
    (looked_of part.seat.me.0.boxes) in
    let k : Walk = c.args.walk in
    let at : b.own.walk ≡ Some k = ap (λ z. z.box.own.walk) c.part.view_is ∙ c.requires.walk in
    let same : suc k.level ≡ k.level + 1 = omega arith in
    subst (HasLevel o.tree b.cpu) same
    (fits_at o b k (stages.Mark c.args.more) (c.part.invariant.fits.walk k at) c.requires.stage
    refl).1

pub mark_next-next-requires : goal.mark_next-next-requires
mark_next-next-requires g c =
    let at = ap (λ z. z.box.own.walk) c.part.view_is ∙ c.requires.walk in
    let low = (c.part.invariant.fits.walk c.args.walk at).low in
    omega (arith, low)

pub load-found-requires : goal.load-found-requires
load-found-requires g c =
    let run = c.args.run.now in
    let table = run.words.shared.table_id in
    let part = c.part.inside in
    let o : World = g.N.RunName.opening in
    let b = box_held o part.cpu.0 part.status part.bases.plain part.leaf part.read
    (looked_of part.seat.me.0.boxes) in
    let k : Walk = c.args.walk in
    let ps = part.seat.me.0.passes in
    let at : b.own.walk ≡ Some k = ap (λ z. z.box.own.walk) c.part.view_is ∙ c.requires.walk in
    let same : k.level + 1 ≡ suc k.level = omega arith in
    let group = c.group_on-group.result.0 in
    let child = side o.tree b.cpu (suc k.level) in
    let a_child : child < 8 = subst (λ n. n < 8) (c.side_on-child.ensures.side
    ∙ ap (side o.tree b.cpu) same) c.side_on-child.ensures.a_child in
    let where_at : c.index-place.result ≡ index_of run.layout (slot_at group child) =
    c.index-place.ensures
    ∙ ap (λ n. index_of run.layout (slot_at group n)) (c.side_on-child.ensures.side
    ∙ ap (side o.tree b.cpu) same) in
    asks g.N.RunName.table o table run.words.shared.key.core run.tree run.layout run.fits
    part.seat.table_id part.seat.id c.index-place.result part.seat.me b ps (slot_at group child)
    (λ n. n) (λ i v n w. plays.FindsMark (step table.slots i 0 0 none) v n w)
    c.part.invariant.named c.part.invariant.seat where_at
    (c.group_on-group.ensures.group, a_child)
    (c.law_ignore.ensures.look o table.slots part.seat.id group c.args.more b k ps a_child
    (record {
      group = c.group_on-group.ensures.group;
      walk = at;
      stage = c.requires.stage;
      path = ap (group_at_of o.tree b.cpu) (sym same) ∙ c.group_on-group.ensures.path;
    }))

pub fetch_or-requires : goal.fetch_or-requires
fetch_or-requires g c =
    let run = c.args.run.now in
    let table = run.words.shared.table_id in
    let part = c.part.inside in
    let o : World = g.N.RunName.opening in
    let b = box_held o part.cpu.0 part.status part.bases.plain part.leaf part.read
    (looked_of part.seat.me.0.boxes) in
    let k : Walk = c.args.walk in
    let ps = part.seat.me.0.passes in
    let at : b.own.walk ≡ Some k = ap (λ z. z.box.own.walk) c.part.view_is ∙ c.requires.walk in
    let same : k.level + 1 ≡ suc k.level = omega arith in
    let group = c.group_on-group.result.0 in
    let child = side o.tree b.cpu (suc k.level) in
    let a_child : child < 8 = subst (λ n. n < 8) (c.side_on-child.ensures.side
    ∙ ap (side o.tree b.cpu) same) c.side_on-child.ensures.a_child in
    let where_at : c.index-place.result ≡ index_of run.layout (slot_at group child) =
    c.index-place.ensures
    ∙ ap (λ n. index_of run.layout (slot_at group n)) (c.side_on-child.ensures.side
    ∙ ap (side o.tree b.cpu) same) in
    let seat = c.load-found.new.seat in
    let told = c.load-found.ensures in
    let found = c.load-found.result in
    let me : seat.me ≡ seat_of (b ∷ []) ps
    = told.2.0
    ∙ (ap (λ m. plays.on_box (plays.marked_where m) part.seat.me) (ne_eqb _ _ c.if-found.false)
    ∙ ap (plays.on_box (plays.marked_where false)) c.part.invariant.seat) in
    asks g.N.RunName.table o table run.words.shared.key.core run.tree run.layout run.fits
    seat.table_id seat.id c.index-place.result seat.me b ps (slot_at group child)
    (λ n. bit_or n (2 ^ 58)) (λ i v n w. plays.Marks (step table.slots i (2 ^ 58) 0 none) v n w)
    (told.0 ∙ c.part.invariant.named) me where_at
    (c.group_on-group.ensures.group, a_child)
    (c.law_ignore.ensures.group o table.slots seat.id group c.args.more b k ps a_child
    (record {
      group = c.group_on-group.ensures.group;
      walk = at;
      stage = c.requires.stage;
      path = ap (group_at_of o.tree b.cpu) (sym same) ∙ c.group_on-group.ensures.path;
    }))

pub invariant_of-part : goal.invariant_of-part
invariant_of-part g c =
    let part = c.part.inside in
    let o : World = g.N.RunName.opening in
    let looked = looked_of part.seat.me.0.boxes in
    let b : BoxView = box_held o part.cpu.0 part.status part.bases.plain
    part.leaf part.read looked in
    let k : Walk = c.args.walk in
    let ps = part.seat.me.0.passes in
    let at : part.status.walk ≡ Some k
    = ap (λ z. z.box.own.walk) c.part.view_is ∙ c.requires.walk in
    let m = c.load-found.new.seat.me in
    let is : m ≡ seat_of (plays.by_walk plays.marked_walk b ∷ []) ps
    = c.load-found.ensures.2.0
    ∙ (ap (λ z. plays.on_box (plays.marked_where z) part.seat.me) (eq-eqb _ _ c.if-found.true)
    ∙ ap (plays.on_box (plays.by_walk plays.marked_walk)) c.part.invariant.seat) in
    let next : c.mark_next-next.result ≡ plays.marked_walk b k
    = c.mark_next-next.ensures.next
    ∙ sym (ap (λ z. mark_next (plays.marks_more z) k) c.requires.stage) in
    let same = walked o part.cpu.0 part.status b.own part.leaf part.read looked
    plays.marked_walk k c.mark_next-next.result at next in
    keeps g.N.RunName.table c.load-found.new.seat.table_id o part.cpu.0
    (record part.status { walk = c.mark_next-next.result }) b.own
    part.leaf part.read looked part.guest m (plays.by_walk plays.marked_walk) b ps is same
    (c.load-found.ensures.0 ∙ c.part.invariant.named) c.load-found.ensures.2.1
    c.part.invariant.hosts

pub returns-then-found : goal.returns-then-found
returns-then-found g c =
    let part = c.part.inside in
    let o : World = g.N.RunName.opening in
    let looked = looked_of part.seat.me.0.boxes in
    let b : BoxView = box_held o part.cpu.0 part.status part.bases.plain
    part.leaf part.read looked in
    let k : Walk = c.args.walk in
    let ps = part.seat.me.0.passes in
    let v : HeldPart = record {
      box = b;
      brought = ps;
      room = part.bases.room;
      receipts_room = guest_room part.guest;
    } in
    let at : part.status.walk ≡ Some k
    = ap (λ z. z.box.own.walk) c.part.view_is ∙ c.requires.walk in
    let m = c.load-found.new.seat.me in
    let is : m ≡ seat_of (plays.by_walk plays.marked_walk b ∷ []) ps
    = c.load-found.ensures.2.0
    ∙ (ap (λ z. plays.on_box (plays.marked_where z) part.seat.me) (eq-eqb _ _ c.if-found.true)
    ∙ ap (plays.on_box (plays.by_walk plays.marked_walk)) c.part.invariant.seat) in
    let next : c.mark_next-next.result ≡ plays.marked_walk b k
    = c.mark_next-next.ensures.next
    ∙ sym (ap (λ z. mark_next (plays.marks_more z) k) c.requires.stage) in
    let same = walked o part.cpu.0 part.status b.own part.leaf part.read looked
    plays.marked_walk k c.mark_next-next.result at next in
    shows g.N.RunName.table c.load-found.new.seat.table_id o part.cpu.0
    (record part.status { walk = c.mark_next-next.result }) b.own
    part.leaf part.read looked part.guest m (plays.by_walk plays.marked_walk) b ps is same v
    ∙ ap (on_part (plays.by_walk plays.marked_walk)) c.part.view_is

pub invariant_of-part-2 : goal.invariant_of-part-2
invariant_of-part-2 g c =
    let part = c.part.inside in
    let o : World = g.N.RunName.opening in
    let looked = looked_of part.seat.me.0.boxes in
    let b : BoxView = box_held o part.cpu.0 part.status part.bases.plain
    part.leaf part.read looked in
    let k : Walk = c.args.walk in
    let ps = part.seat.me.0.passes in
    let at : part.status.walk ≡ Some k
    = ap (λ z. z.box.own.walk) c.part.view_is ∙ c.requires.walk in
    let m = c.fetch_or.new.seat.me in
    let first : c.load-found.new.seat.me ≡ seat_of (b ∷ []) ps
    = c.load-found.ensures.2.0
    ∙ (ap (λ z. plays.on_box (plays.marked_where z) part.seat.me) (ne_eqb _ _ c.if-found.false)
    ∙ ap (plays.on_box (plays.marked_where false)) c.part.invariant.seat) in
    let is : m ≡ seat_of (plays.by_walk plays.marked_walk b ∷ []) ps
    = c.fetch_or.ensures.2.0 ∙ ap (plays.on_box (plays.by_walk plays.marked_walk)) first in
    let next : c.mark_next-next.result ≡ plays.marked_walk b k
    = c.mark_next-next.ensures.next
    ∙ sym (ap (λ z. mark_next (plays.marks_more z) k) c.requires.stage) in
    let same = walked o part.cpu.0 part.status b.own part.leaf part.read looked
    plays.marked_walk k c.mark_next-next.result at next in
    keeps g.N.RunName.table c.fetch_or.new.seat.table_id o part.cpu.0
    (record part.status { walk = c.mark_next-next.result }) b.own
    part.leaf part.read looked part.guest m (plays.by_walk plays.marked_walk) b ps is same
    (c.fetch_or.ensures.0 ∙ (c.load-found.ensures.0 ∙ c.part.invariant.named))
    c.fetch_or.ensures.2.1 c.part.invariant.hosts

pub returns : goal.returns
returns g c =
    let part = c.part.inside in
    let o : World = g.N.RunName.opening in
    let looked = looked_of part.seat.me.0.boxes in
    let b : BoxView = box_held o part.cpu.0 part.status part.bases.plain
    part.leaf part.read looked in
    let k : Walk = c.args.walk in
    let ps = part.seat.me.0.passes in
    let v : HeldPart = record {
      box = b;
      brought = ps;
      room = part.bases.room;
      receipts_room = guest_room part.guest;
    } in
    let at : part.status.walk ≡ Some k
    = ap (λ z. z.box.own.walk) c.part.view_is ∙ c.requires.walk in
    let m = c.fetch_or.new.seat.me in
    let first : c.load-found.new.seat.me ≡ seat_of (b ∷ []) ps
    = c.load-found.ensures.2.0
    ∙ (ap (λ z. plays.on_box (plays.marked_where z) part.seat.me) (ne_eqb _ _ c.if-found.false)
    ∙ ap (plays.on_box (plays.marked_where false)) c.part.invariant.seat) in
    let is : m ≡ seat_of (plays.by_walk plays.marked_walk b ∷ []) ps
    = c.fetch_or.ensures.2.0 ∙ ap (plays.on_box (plays.by_walk plays.marked_walk)) first in
    let next : c.mark_next-next.result ≡ plays.marked_walk b k
    = c.mark_next-next.ensures.next
    ∙ sym (ap (λ z. mark_next (plays.marks_more z) k) c.requires.stage) in
    let same = walked o part.cpu.0 part.status b.own part.leaf part.read looked
    plays.marked_walk k c.mark_next-next.result at next in
    shows g.N.RunName.table c.fetch_or.new.seat.table_id o part.cpu.0
    (record part.status { walk = c.mark_next-next.result }) b.own
    part.leaf part.read looked part.guest m (plays.by_walk plays.marked_walk) b ps is same v
    ∙ ap (on_part (plays.by_walk plays.marked_walk)) c.part.view_is

use Rattle.std.proofs.Common.{◌≡◌, ◌==◌, Some, refl, sym, ap, ◌∙◌}
use Rattle.std.proofs.Common.{subst, ◌∷◌, [], Option, false, true, eq-eqb, ne_eqb}
use mathlib.Core.Option.{none}
use prog.Atomic.{either}
use Rattle.atomic_table.specs.Table.{step}
use Rattle.walk_rules.specs.declared.walk.Walk.{Walk}
use Rattle.walk_rules.specs.declared.walk.Stage.TheVariants as stages
use Rattle.core_world.specs.World.{World, is_reading}
use Rattle.shared_words.specs.Exchanges.{IsSwapOf}
use Rattle.shared_rule.specs.declared.parts.BoxView.{BoxView}
use Rattle.shared_rule.specs.Plays as plays
use Rattle.shared_rule.specs.Rule.{seat_of}
use Rattle.shared_rule.specs.Whole.{state_at}
use Rattle.shared_rule.specs.Parts.{HeldPart, box_held, guest_room, looked_of}
use Rattle.shared_rule.proofs.Calls.{asks}
use Rattle.shared_walks.specs.Steps.{on_part}
use Rattle.shared_walks.proofs.Boxed.{keeps, shows, walked}
use Rattle.shared_walks.proofs.Standing.{stands}
use Rattle.shared_walks.proofs.leaving.swap_step.Goals as goal

pub group_on-group-requires-clause-there : goal.group_on-group-requires-clause-there
group_on-group-requires-clause-there g c =
    let part = c.part.inside in
    let o : World = g.N.RunName.opening in
    let b = box_held o part.cpu.0 part.status part.bases.plain part.leaf part.read
    (looked_of part.seat.me.0.boxes) in
    let k : Walk = c.args.walk in
    let at : b.own.walk ≡ Some k = ap (λ z. z.box.own.walk) c.part.view_is ∙ c.requires.walk in
    stands o b k stages.Swap (c.part.invariant.fits.walk k at) c.requires.stage refl

pub compare_exchange-found-requires : goal.compare_exchange-found-requires
compare_exchange-found-requires g c =
    let run = c.args.run.now in
    let table = run.words.shared.table_id in
    let part = c.part.inside in
    let o : World = g.N.RunName.opening in
    let b = box_held o part.cpu.0 part.status part.bases.plain part.leaf part.read
    (looked_of part.seat.me.0.boxes) in
    let k : Walk = c.args.walk in
    let at : b.own.walk ≡ Some k = ap (λ z. z.box.own.walk) c.part.view_is ∙ c.requires.walk in
    let ps = part.seat.me.0.passes in
    let group = c.group_on-group.result.0 in
    let low = c.group_on-group.ensures.group in
    let path = c.group_on-group.ensures.path in
    let new = c.swapped_word-new.result in
    asks g.N.RunName.table o table run.words.shared.key.core run.tree run.layout run.fits
    part.seat.table_id part.seat.id c.index-place.result part.seat.me b ps (state_at group)
    (λ n. either (n == part.read) new n) (λ i v n w. plays.Swaps (step table.slots i part.read new none) v n w)
    (c.part.invariant.named) (c.part.invariant.seat) (c.index-place.ensures) (low) (c.law_leave.ensures.swap o table.slots part.seat.id group c.swapped_word-new.result b k ps (record { group = low; walk = at; stage = c.requires.stage; path = path })
    (subst (λ n. IsSwapOf part.read n k.child_on c.swapped_word-new.result) c.side_on-child.ensures.side
    c.swapped_word-new.ensures.exact))

pub swapped_word-new-requires-clause-room : goal.swapped_word-new-requires-clause-room
swapped_word-new-requires-clause-room g c =
    let at = ap (λ z. z.box.own.walk) c.part.view_is ∙ c.requires.walk in
    let fits = c.part.invariant.fits.walk c.args.walk at in
    fits.good (ap is_reading c.requires.stage)

pub invariant_of-part : goal.invariant_of-part
invariant_of-part g c =
    let part = c.part.inside in
    let o : World = g.N.RunName.opening in
    let looked = looked_of part.seat.me.0.boxes in
    let b : BoxView = box_held o part.cpu.0 part.status part.bases.plain
    part.leaf part.read looked in
    let k : Walk = c.args.walk in
    let ps = part.seat.me.0.passes in
    let at : part.status.walk ≡ Some k
    = ap (λ z. z.box.own.walk) c.part.view_is ∙ c.requires.walk in
    let found = c.compare_exchange-found.result in
    let m = c.compare_exchange-found.new.seat.me in
    let is : m ≡ seat_of (plays.swap_box false found b ∷ []) ps
    = c.compare_exchange-found.ensures.2.0
    ∙ (ap (λ z. plays.on_box (plays.swap_box z found) part.seat.me) (ne_eqb _ _ c.if-found-old.true)
    ∙ ap (plays.on_box (plays.swap_box false found)) c.part.invariant.seat) in
    let walk : Option Walk = Some c.read_in_box.result in
    let same : box_held o part.cpu.0 (record part.status { walk = walk }) part.bases.plain part.leaf
    found looked ≡ plays.swap_box false found b
    = ap (plays.reading found) (walked o part.cpu.0 part.status b.own part.leaf part.read
    looked plays.read_walk k walk at (ap Some c.read_in_box.ensures)) in
    keeps g.N.RunName.table c.compare_exchange-found.new.seat.table_id o part.cpu.0
    (record part.status { walk = walk }) b.own
    part.leaf found looked part.guest m (plays.swap_box false found) b ps is same
    (c.compare_exchange-found.ensures.0 ∙ c.part.invariant.named)
    c.compare_exchange-found.ensures.2.1 c.part.invariant.hosts

pub invariant_of-part-2 : goal.invariant_of-part-2
invariant_of-part-2 g c =
    let part = c.part.inside in
    let o : World = g.N.RunName.opening in
    let looked = looked_of part.seat.me.0.boxes in
    let b : BoxView = box_held o part.cpu.0 part.status part.bases.plain
    part.leaf part.read looked in
    let k : Walk = c.args.walk in
    let ps = part.seat.me.0.passes in
    let at : part.status.walk ≡ Some k
    = ap (λ z. z.box.own.walk) c.part.view_is ∙ c.requires.walk in
    let found = c.compare_exchange-found.result in
    let m = c.compare_exchange-found.new.seat.me in
    let is : m ≡ seat_of (plays.swap_box true found b ∷ []) ps
    = c.compare_exchange-found.ensures.2.0
    ∙ (ap (λ z. plays.on_box (plays.swap_box z found) part.seat.me)
    (eq-eqb _ _ c.if-found-old.false)
    ∙ ap (plays.on_box (plays.swap_box true found)) c.part.invariant.seat) in
    let walk : Option Walk = Some c.swap_next.result in
    let same : box_held o part.cpu.0 (record part.status { walk = walk }) part.bases.plain part.leaf
    part.read looked ≡ plays.swap_box true found b
    = walked o part.cpu.0 part.status b.own part.leaf part.read looked
    plays.swapped_walk k walk at (ap Some c.swap_next.ensures.next) in
    keeps g.N.RunName.table c.compare_exchange-found.new.seat.table_id o part.cpu.0
    (record part.status { walk = walk }) b.own
    part.leaf part.read looked part.guest m (plays.swap_box true found) b ps is same
    (c.compare_exchange-found.ensures.0 ∙ c.part.invariant.named)
    c.compare_exchange-found.ensures.2.1 c.part.invariant.hosts

pub returns-then-found-old : goal.returns-then-found-old
returns-then-found-old g c =
    let part = c.part.inside in
    let o : World = g.N.RunName.opening in
    let looked = looked_of part.seat.me.0.boxes in
    let b : BoxView = box_held o part.cpu.0 part.status part.bases.plain
    part.leaf part.read looked in
    let k : Walk = c.args.walk in
    let ps = part.seat.me.0.passes in
    let v : HeldPart = record {
      box = b;
      brought = ps;
      room = part.bases.room;
      receipts_room = guest_room part.guest;
    } in
    let at : part.status.walk ≡ Some k
    = ap (λ z. z.box.own.walk) c.part.view_is ∙ c.requires.walk in
    let found = c.compare_exchange-found.result in
    let m = c.compare_exchange-found.new.seat.me in
    let is : m ≡ seat_of (plays.swap_box false found b ∷ []) ps
    = c.compare_exchange-found.ensures.2.0
    ∙ (ap (λ z. plays.on_box (plays.swap_box z found) part.seat.me) (ne_eqb _ _ c.if-found-old.true)
    ∙ ap (plays.on_box (plays.swap_box false found)) c.part.invariant.seat) in
    let walk : Option Walk = Some c.read_in_box.result in
    let same : box_held o part.cpu.0 (record part.status { walk = walk }) part.bases.plain part.leaf
    found looked ≡ plays.swap_box false found b
    = ap (plays.reading found) (walked o part.cpu.0 part.status b.own part.leaf part.read
    looked plays.read_walk k walk at (ap Some c.read_in_box.ensures)) in record {
      found = found;
      exactly =
          sym (ne_eqb _ _ c.if-found-old.true)
          ∙ ap (λ (z : HeldPart). found == z.box.read) c.part.view_is;
      box =
          shows g.N.RunName.table c.compare_exchange-found.new.seat.table_id o part.cpu.0
          (record part.status { walk = walk }) b.own
          part.leaf found looked part.guest m (plays.swap_box false found) b ps is same v
          ∙ ap (on_part (plays.swap_box false found)) c.part.view_is;
    }

pub returns : goal.returns
returns g c =
    let part = c.part.inside in
    let o : World = g.N.RunName.opening in
    let looked = looked_of part.seat.me.0.boxes in
    let b : BoxView = box_held o part.cpu.0 part.status part.bases.plain
    part.leaf part.read looked in
    let k : Walk = c.args.walk in
    let ps = part.seat.me.0.passes in
    let v : HeldPart = record {
      box = b;
      brought = ps;
      room = part.bases.room;
      receipts_room = guest_room part.guest;
    } in
    let at : part.status.walk ≡ Some k
    = ap (λ z. z.box.own.walk) c.part.view_is ∙ c.requires.walk in
    let found = c.compare_exchange-found.result in
    let m = c.compare_exchange-found.new.seat.me in
    let is : m ≡ seat_of (plays.swap_box true found b ∷ []) ps
    = c.compare_exchange-found.ensures.2.0
    ∙ (ap (λ z. plays.on_box (plays.swap_box z found) part.seat.me)
    (eq-eqb _ _ c.if-found-old.false)
    ∙ ap (plays.on_box (plays.swap_box true found)) c.part.invariant.seat) in
    let walk : Option Walk = Some c.swap_next.result in
    let same : box_held o part.cpu.0 (record part.status { walk = walk }) part.bases.plain part.leaf
    part.read looked ≡ plays.swap_box true found b
    = walked o part.cpu.0 part.status b.own part.leaf part.read looked
    plays.swapped_walk k walk at (ap Some c.swap_next.ensures.next) in record {
      found = found;
      exactly =
          sym (eq-eqb _ _ c.if-found-old.false)
          ∙ ap (λ (z : HeldPart). found == z.box.read) c.part.view_is;
      box =
          shows g.N.RunName.table c.compare_exchange-found.new.seat.table_id o part.cpu.0
          (record part.status { walk = walk }) b.own
          part.leaf part.read looked part.guest m (plays.swap_box true found) b ps is same v
          ∙ ap (on_part (plays.swap_box true found)) c.part.view_is;
    }

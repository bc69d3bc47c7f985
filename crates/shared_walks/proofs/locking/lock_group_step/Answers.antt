use Rattle.std.proofs.Common.{◌≡◌, ◌≢◌, ◌==◌, ◌∷◌, [], Some, refl, sym, ap}
use Rattle.std.proofs.Common.{◌∙◌, subst, ne_eqb}
use mathlib.Core.Option.{none}
use prog.Atomic.{either}
use Rattle.atomic_table.specs.Table.{step}
use Rattle.walk_rules.specs.declared.walk.Walk.{Walk}
use Rattle.walk_rules.specs.declared.walk.Stage.TheVariants as stages
use Rattle.walk_rules.specs.Hierarchy.{group_on}
use Rattle.core_world.specs.World.{World}
use Rattle.shared_words.specs.Layout.{index_of}
use Rattle.shared_rule.specs.Plays as plays
use Rattle.shared_rule.specs.Laws.{Stays, walk_of, where_made}
use Rattle.shared_rule.specs.Rule.{Me, seat_of}
use Rattle.shared_rule.specs.Whole.{layout_of, lock_at}
use Rattle.shared_rule.specs.Parts.{HeldPart, box_held, guest_room, looked_of}
use Rattle.shared_rule.proofs.Calls.{asks, place}
use Rattle.shared_walks.specs.Steps.{lock_place, on_part}
use Rattle.shared_walks.proofs.Standing.{path_to, stands}
use Rattle.shared_walks.proofs.locking.lock_group_step.Goals as goal

pub lock_place-place-requires-clause-there : goal.lock_place-place-requires-clause-there
lock_place-place-requires-clause-there g c =
    let part = c.part.inside in
    let o : World = g.N.RunName.opening in
    let b = box_held o part.cpu.0 part.status part.bases.plain part.leaf part.read
    (looked_of part.seat.me.0.boxes) in
    let k : Walk = c.args.walk in
    let at : b.own.walk ≡ Some k = ap (λ z. z.box.own.walk) c.part.view_is ∙ c.requires.walk in
    stands o b k stages.LockGroup (c.part.invariant.fits.walk k at) c.requires.stage refl

pub compare_exchange-found-requires : goal.compare_exchange-found-requires
compare_exchange-found-requires g c =
    let run = c.args.run.now in
    let table = run.words.shared.table_id in
    let part = c.part.inside in
    let o : World = g.N.RunName.opening in
    let b = box_held o part.cpu.0 part.status part.bases.plain part.leaf part.read
    (looked_of part.seat.me.0.boxes) in
    let k : Walk = c.args.walk in
    let at : b.own.walk ≡ Some k = ap (λ z. z.box.own.walk) c.part.view_is ∙ c.requires.walk in
    let ps = part.seat.me.0.passes in
    let group = group_on o.tree b.cpu k.level in
    let path = path_to o.tree b.cpu k.level
    (stands o b k stages.LockGroup (c.part.invariant.fits.walk k at) c.requires.stage refl) in
    let low = c.lock_place-place.ensures.group in
    let same = place g.N.RunName.table o table run.words.shared.key.core run.tree run.layout
    run.fits (lock_at group) in
    let there = ◌∙◌ {b = lock_place o b.cpu k.level} c.lock_place-place.ensures.place (sym same) in
    let new = c.pack_lock-mine.result in
    asks g.N.RunName.table o table run.words.shared.key.core run.tree run.layout run.fits
    part.seat.table_id part.seat.id c.lock_place-place.result part.seat.me b ps (lock_at group)
    (λ n. either (n == 0) new n)
    (λ i v n w. plays.Locks (step table.slots i 0 new none) v n w)
    c.part.invariant.named c.part.invariant.seat there low
    (subst (λ x. Stays o table.slots part.seat.id b ps (lock_at group) (λ n. either (n == 0) x n)
    (λ n. where_made (n == 0) (walk_of b.cpu))
    (plays.Locks (step table.slots (index_of (layout_of o) (lock_at group)) 0 x none)
    (seat_of (b ∷ []) ps))) (sym c.pack_lock-mine.ensures)
    (c.law_lock_group.ensures o table.slots part.seat.id group b k ps
    (record { group = low; walk = at; stage = c.requires.stage; path = path })))

pub returns-then-found-ne0 : goal.returns-then-found-ne0
returns-then-found-ne0 g c =
    let part = c.part.inside in
    let o : World = g.N.RunName.opening in
    let b = box_held o part.cpu.0 part.status part.bases.plain part.leaf part.read
    (looked_of part.seat.me.0.boxes) in
    let ps = part.seat.me.0.passes in
    let found = c.compare_exchange-found.result in
    let at = c.lock_place-place.result in
    let ne : found ≢ 0 = c.if-found-ne0.true in
    let told : c.compare_exchange-found.new.seat.me ≡ plays.on_box (plays.trying at found) part.seat.me
    = subst (λ z. c.compare_exchange-found.new.seat.me
    ≡ plays.on_box (plays.lock_box plays.locked_walk z at found) part.seat.me) (ne_eqb _ _ ne)
    c.compare_exchange-found.ensures.2.0 in
    let whole : c.compare_exchange-found.new.seat.me
    ≡ seat_of (plays.trying at found b ∷ []) ps
    = told ∙ ap (plays.on_box (plays.trying at found)) c.part.invariant.seat in
    let shown : Me → HeldPart
    = λ me. record {
      box = box_held o part.cpu.0 part.status part.bases.plain part.leaf part.read
          (looked_of me.0.boxes);
      brought = me.0.passes;
      room = part.bases.room;
      receipts_room = guest_room part.guest;
    } in
    record {
      found = found;
      taken = ne;
      box =
          ap shown whole
          ∙ (ap (λ n. on_part (plays.trying n found) (shown part.seat.me))
          c.lock_place-place.ensures.place
          ∙ ap (on_part (λ x. plays.trying (lock_place o x.cpu c.args.walk.level) found x)) c.part.view_is);
    }

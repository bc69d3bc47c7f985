use Rattle.std.proofs.Common.{◌≡◌, ◌≢◌, ◌==◌, ◌∷◌, [], ℕ, Some, false, refl, sym, ap, ◌∙◌}
use Rattle.std.proofs.Common.{subst, arith, eq-eqb, ne_eqb, not}
use mathlib.Core.Option.{none}
use prog.Atomic.{either}
use Rattle.atomic_table.specs.Table.{step}
use Rattle.walk_rules.specs.declared.walk.Walk.{Walk}
use Rattle.walk_rules.specs.declared.walk.Stage.TheVariants as stages
use Rattle.walk_rules.specs.Hierarchy.{group_on}
use Rattle.walk_rules.specs.Stages.{up_next}
use Rattle.core_world.specs.World.{World}
use Rattle.shared_words.specs.Exchanges.{IsJoinOf}
use Rattle.shared_rule.specs.declared.parts.BoxView.{BoxView}
use Rattle.shared_rule.specs.Plays as plays
use Rattle.shared_rule.specs.Rule.{Me, seat_of}
use Rattle.shared_rule.specs.Whole.{state_at}
use Rattle.shared_rule.specs.Parts.{HeldPart, box_held, guest_room, looked_of}
use Rattle.shared_rule.proofs.Calls.{asks, place}
use Rattle.shared_rule.proofs.Holding.{holds}
use Rattle.shared_walks.specs.Steps.{on_part, state_place}
use Rattle.shared_walks.proofs.Boxed.{keeps, shows, walked}
use Rattle.shared_walks.proofs.Standing.{path_to, stands}
use Rattle.shared_walks.proofs.activation.up_step.Goals as goal

pub state_place-place-requires-clause-there : goal.state_place-place-requires-clause-there
state_place-place-requires-clause-there g c =
    let part = c.part.inside in
    let o : World = g.N.RunName.opening in
    let b = box_held o part.cpu.0 part.status part.bases.plain part.leaf part.read
    (looked_of part.seat.me.0.boxes) in
    let k : Walk = c.args.walk in
    let at : b.own.walk ≡ Some k = ap (λ z. z.box.own.walk) c.part.view_is ∙ c.requires.walk in
    stands o b k stages.Up (c.part.invariant.fits.walk k at) c.requires.stage refl

pub load-old-requires : goal.load-old-requires
load-old-requires g c =
    let run = c.args.run.now in
    let table = run.words.shared.table_id in
    let part = c.part.inside in
    let o : World = g.N.RunName.opening in
    let b = box_held o part.cpu.0 part.status part.bases.plain part.leaf part.read
    (looked_of part.seat.me.0.boxes) in
    let k : Walk = c.args.walk in
    let ps = part.seat.me.0.passes in
    let group = group_on o.tree b.cpu k.level in
    let low = c.state_place-place.ensures.group in
    let same = place g.N.RunName.table o table run.words.shared.key.core run.tree run.layout
    run.fits (state_at group) in
    let there = ◌∙◌ {b = state_place o b.cpu k.level} c.state_place-place.ensures.place (sym same) in
    asks g.N.RunName.table o table run.words.shared.key.core run.tree run.layout run.fits
    part.seat.table_id part.seat.id c.state_place-place.result part.seat.me b ps (state_at group)
    (λ n. n) (λ i v n w. plays.Looks (step table.slots i 0 0 none) v n w)
    c.part.invariant.named c.part.invariant.seat there low
    (c.law_rise.ensures.look o table.slots part.seat.id group b ps low)

pub compare_exchange-found-requires : goal.compare_exchange-found-requires
compare_exchange-found-requires g c =
    let run = c.args.run.now in
    let table = run.words.shared.table_id in
    let part = c.part.inside in
    let o : World = g.N.RunName.opening in
    let b = box_held o part.cpu.0 part.status part.bases.plain part.leaf part.read
    (looked_of part.seat.me.0.boxes) in
    let k : Walk = c.args.walk in
    let at : b.own.walk ≡ Some k = ap (λ z. z.box.own.walk) c.part.view_is ∙ c.requires.walk in
    let ps = part.seat.me.0.passes in
    let group = group_on o.tree b.cpu k.level in
    let path = path_to o.tree b.cpu k.level
    (stands o b k stages.Up (c.part.invariant.fits.walk k at) c.requires.stage refl) in
    let low = c.state_place-place.ensures.group in
    let same = place g.N.RunName.table o table run.words.shared.key.core run.tree run.layout
    run.fits (state_at group) in
    let there = ◌∙◌ {b = state_place o b.cpu k.level} c.state_place-place.ensures.place (sym same) in
    let seat = c.load-old.new.seat in
    let old = c.load-old.result in
    let new = c.joined_word-new.result in
    let told = c.load-old.ensures in
    let seen = plays.trying c.state_place-place.result old b in
    let me : seat.me ≡ seat_of (seen ∷ []) ps
    = told.2.0.0 ∙ ap (plays.on_box (plays.trying c.state_place-place.result old))
    c.part.invariant.seat in
    asks g.N.RunName.table o table run.words.shared.key.core run.tree run.layout run.fits
    seat.table_id seat.id c.state_place-place.result seat.me seen ps (state_at group)
    (λ n. either (n == old) new n) (λ i v n w. plays.Rises (step table.slots i old new none) v n w)
    (told.0 ∙ c.part.invariant.named) me there low
    (c.law_rise.ensures.rise o table.slots seat.id group seen k ps old new
    (record {
      opening = refl;
      group = low;
      walk = at;
      stage = c.requires.stage;
      path = path;
      word = subst (λ n. IsJoinOf old n new) c.side_on-child.ensures.side
          c.joined_word-new.ensures.exact;
    }))

pub at_top-top-requires-clause-level : goal.at_top-top-requires-clause-level
at_top-top-requires-clause-level g c =
    let at = ap (λ z. z.box.own.walk) c.part.view_is ∙ c.requires.walk in
    let fits = c.part.invariant.fits.walk c.args.walk at in
    let low = fits.low in
    omega (arith, low)

pub returns-then-found-old : goal.returns-then-found-old
returns-then-found-old g c =
    let part = c.part.inside in
    let o : World = g.N.RunName.opening in
    let b = box_held o part.cpu.0 part.status part.bases.plain part.leaf part.read
    (looked_of part.seat.me.0.boxes) in
    let ps = part.seat.me.0.passes in
    let old = c.load-old.result in
    let found = c.compare_exchange-found.result in
    let at = c.state_place-place.result in
    let ne : found ≢ old = c.if-found-old.true in
    let first : c.load-old.new.seat.me ≡ plays.on_box (plays.trying at old) part.seat.me
    = c.load-old.ensures.2.0.0 in
    let second : c.compare_exchange-found.new.seat.me
    ≡ plays.on_box (plays.up_box false old at found) c.load-old.new.seat.me
    = subst (λ z. c.compare_exchange-found.new.seat.me
    ≡ plays.on_box (plays.up_box z old at found) c.load-old.new.seat.me) (ne_eqb _ _ ne)
    c.compare_exchange-found.ensures.2.0 in
    let both : c.compare_exchange-found.new.seat.me
    ≡ seat_of (plays.trying at found (plays.trying at old b) ∷ []) ps
    = second ∙ ap (plays.on_box (plays.up_box false old at found))
    (first ∙ ap (plays.on_box (plays.trying at old)) c.part.invariant.seat) in
    let shown : Me → HeldPart
    = λ me. record {
      box = box_held o part.cpu.0 part.status part.bases.plain part.leaf part.read
          (looked_of me.0.boxes);
      brought = me.0.passes;
      room = part.bases.room;
      receipts_room = guest_room part.guest;
    } in
    let missed : ℕ → BoxView → BoxView
    = λ n x. plays.trying n found (plays.trying n old x) in
    record {
      loaded = old;
      found = found;
      other = ne;
      box =
          ap shown both
          ∙ (ap (λ n. on_part (missed n) (shown part.seat.me)) c.state_place-place.ensures.place
          ∙ ap (on_part (λ x. missed (state_place o x.cpu c.args.walk.level) x)) c.part.view_is);
    }

pub invariant_of-part : goal.invariant_of-part
invariant_of-part g c =
    let part = c.part.inside in
    let o : World = g.N.RunName.opening in
    let looked = looked_of part.seat.me.0.boxes in
    let b : BoxView = box_held o part.cpu.0 part.status part.bases.plain
    part.leaf part.read looked in
    let ps = part.seat.me.0.passes in
    let old = c.load-old.result in
    let found = c.compare_exchange-found.result in
    let where_at = c.state_place-place.result in
    let m = c.compare_exchange-found.new.seat.me in
    let first : c.load-old.new.seat.me ≡ seat_of (plays.trying where_at old b ∷ []) ps
    = c.load-old.ensures.2.0.0
    ∙ ap (plays.on_box (plays.trying where_at old)) c.part.invariant.seat in
    let is : m ≡ seat_of (plays.trying where_at found (plays.trying where_at old b) ∷ []) ps
    = c.compare_exchange-found.ensures.2.0
    ∙ (ap (λ z. plays.on_box (plays.up_box z old where_at found) c.load-old.new.seat.me)
    (ne_eqb _ _ c.if-found-old.true) ∙ ap (plays.on_box (plays.trying where_at found)) first) in
    holds g.N.RunName.table c.compare_exchange-found.new.seat.table_id o part.cpu.0
    part.status part.bases.plain part.leaf part.read
    (plays.trying where_at found (plays.trying where_at old b)).looked m part.guest ps
    (c.compare_exchange-found.ensures.0 ∙ (c.load-old.ensures.0 ∙ c.part.invariant.named))
    is c.compare_exchange-found.ensures.2.1 c.part.invariant.hosts

pub invariant_of-part-2 : goal.invariant_of-part-2
invariant_of-part-2 g c =
    let part = c.part.inside in
    let o : World = g.N.RunName.opening in
    let looked = looked_of part.seat.me.0.boxes in
    let b : BoxView = box_held o part.cpu.0 part.status part.bases.plain
    part.leaf part.read looked in
    let k : Walk = c.args.walk in
    let ps = part.seat.me.0.passes in
    let at : part.status.walk ≡ Some k
    = ap (λ z. z.box.own.walk) c.part.view_is ∙ c.requires.walk in
    let old = c.load-old.result in
    let found = c.compare_exchange-found.result in
    let where_at = c.state_place-place.result in
    let m = c.compare_exchange-found.new.seat.me in
    let first : c.load-old.new.seat.me ≡ seat_of (plays.trying where_at old b ∷ []) ps
    = c.load-old.ensures.2.0.0
    ∙ ap (plays.on_box (plays.trying where_at old)) c.part.invariant.seat in
    let is : m ≡ seat_of (plays.risen_box old b ∷ []) ps
    = c.compare_exchange-found.ensures.2.0
    ∙ (ap (λ z. plays.on_box (plays.up_box z old where_at found) c.load-old.new.seat.me)
    (eq-eqb _ _ c.if-found-old.false) ∙ ap (plays.on_box (plays.risen_box old)) first) in
    let next : c.up_next.result ≡ plays.up_walk old b k
    = c.up_next.ensures.next
    ∙ (λ i. up_next (c.at_top-top.ensures i) (not (c.has_migrator-more.ensures.exact i)) k) in
    let same : box_held o part.cpu.0 (record part.status { walk = c.up_next.result })
    part.bases.plain part.leaf part.read (record looked { tried = [] }) ≡ plays.risen_box old b
    = ap plays.done_trying (walked o part.cpu.0 part.status b.own part.leaf part.read
    looked (plays.up_walk old) k c.up_next.result at next) in
    keeps g.N.RunName.table c.compare_exchange-found.new.seat.table_id o part.cpu.0
    (record part.status { walk = c.up_next.result }) b.own
    part.leaf part.read (record looked { tried = [] }) part.guest m (plays.risen_box old)
    b ps is same
    (c.compare_exchange-found.ensures.0 ∙ (c.load-old.ensures.0 ∙ c.part.invariant.named))
    c.compare_exchange-found.ensures.2.1 c.part.invariant.hosts

pub returns : goal.returns
returns g c =
    let part = c.part.inside in
    let o : World = g.N.RunName.opening in
    let looked = looked_of part.seat.me.0.boxes in
    let b : BoxView = box_held o part.cpu.0 part.status part.bases.plain
    part.leaf part.read looked in
    let k : Walk = c.args.walk in
    let ps = part.seat.me.0.passes in
    let v : HeldPart = record {
      box = b;
      brought = ps;
      room = part.bases.room;
      receipts_room = guest_room part.guest;
    } in
    let at : part.status.walk ≡ Some k
    = ap (λ z. z.box.own.walk) c.part.view_is ∙ c.requires.walk in
    let old = c.load-old.result in
    let found = c.compare_exchange-found.result in
    let where_at = c.state_place-place.result in
    let m = c.compare_exchange-found.new.seat.me in
    let first : c.load-old.new.seat.me ≡ seat_of (plays.trying where_at old b ∷ []) ps
    = c.load-old.ensures.2.0.0
    ∙ ap (plays.on_box (plays.trying where_at old)) c.part.invariant.seat in
    let is : m ≡ seat_of (plays.risen_box old b ∷ []) ps
    = c.compare_exchange-found.ensures.2.0
    ∙ (ap (λ z. plays.on_box (plays.up_box z old where_at found) c.load-old.new.seat.me)
    (eq-eqb _ _ c.if-found-old.false) ∙ ap (plays.on_box (plays.risen_box old)) first) in
    let next : c.up_next.result ≡ plays.up_walk old b k
    = c.up_next.ensures.next
    ∙ (λ i. up_next (c.at_top-top.ensures i) (not (c.has_migrator-more.ensures.exact i)) k) in
    let same : box_held o part.cpu.0 (record part.status { walk = c.up_next.result })
    part.bases.plain part.leaf part.read (record looked { tried = [] }) ≡ plays.risen_box old b
    = ap plays.done_trying (walked o part.cpu.0 part.status b.own part.leaf part.read
    looked (plays.up_walk old) k c.up_next.result at next) in (
      old,
      shows g.N.RunName.table c.compare_exchange-found.new.seat.table_id o part.cpu.0
          (record part.status { walk = c.up_next.result }) b.own
          part.leaf part.read (record looked { tried = [] }) part.guest m (plays.risen_box old)
          b ps is same v
          ∙ ap (on_part (plays.risen_box old)) c.part.view_is,
    )

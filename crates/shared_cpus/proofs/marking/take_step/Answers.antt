use Rattle.std.proofs.Common.{◌≡◌, ◌∷◌, [], Some, refl, sym, ap, ◌∙◌, subst}
use mathlib.Core.Option.{none}
use Rattle.atomic_table.specs.Table.{step}
use Rattle.shared_rule.specs.declared.parts.PassView.{PassView}
use Rattle.shared_rule.specs.Whole.{own_word}
use Rattle.core_world.specs.World.{World}
use Rattle.shared_rule.specs.Turns as turns
use Rattle.shared_rule.specs.Rule.{seat_of}
use Rattle.shared_rule.specs.Whole.{cpu_at}
use Rattle.shared_rule.specs.Parts.{HeldPart, Hosts, box_held, guest_room, looked_of}
use Rattle.shared_rule.proofs.Calls.{asks}
use Rattle.shared_cpus.specs.Conditions.{CanTake}
use Rattle.shared_cpus.specs.Pairs.{by_pair}
use Rattle.shared_cpus.proofs.Guesting.{guest_is, has_guest, marker_low, same_hosts}
use Rattle.shared_cpus.proofs.Turned.{keeps, shows}
use Rattle.shared_cpus.proofs.marking.take_step.Goals as goal

pub store-requires : goal.store-requires
store-requires g c =
    let run = c.args.run.now in
    let table = run.words.shared.table_id in
    let part = c.part.inside in
    let o : World = g.N.RunName.opening in
    let b = box_held o part.cpu.0 part.status part.bases.plain part.leaf part.read
    (looked_of part.seat.me.0.boxes) in
    let can = subst (λ (z : HeldPart). (q : PassView) × CanTake z q)
    (sym c.part.view_is) c.requires in
    let p = can.0 in
    let hosted = subst (Hosts part.guest) can.1.brought c.part.invariant.hosts in
    let by : p.cpu ≡ c.guest_cpu-by.result.0 = guest_is part.guest p c.guest_cpu-by.result hosted
    c.guest_cpu-by.ensures in
    let me : part.seat.me ≡ seat_of (b ∷ []) (p ∷ []) =
    c.part.invariant.seat ∙ ap (seat_of (b ∷ [])) can.1.brought in
    let new = c.status_word-word.result in
    asks g.N.RunName.table o table run.words.shared.key.core run.tree run.layout run.fits
    part.seat.table_id part.seat.id c.index-place.result part.seat.me b (p ∷ []) (cpu_at b.cpu)
    (λ n. new) (λ i v n w. turns.Takes (step table.slots i new 0 none) v new w)
    c.part.invariant.named me c.index-place.ensures c.part.invariant.fits.cpu
    (c.law_take.ensures.take o table.slots part.seat.id can.1.due.leaf can.1.due.event b p new
    (record {
      cpu = c.part.invariant.fits.cpu;
      placed = can.1.placed;
      inside = can.1.inside;
      goes_on = can.1.goes_on;
      free = can.1.free;
      online = can.1.online;
      idle = can.1.idle;
      unmarked = can.1.unmarked;
      path = can.1.due.path;
      there = can.1.due.there;
      counts = can.1.due.counts;
      come = can.1.due.come;
      word = c.status_word-word.ensures part.bases.plain ∙ ap (λ n. own_word
          (turns.taken n b.own)) (sym by);
    }))

pub invariant_of-part : goal.invariant_of-part
invariant_of-part g c =
    let part = c.part.inside in
    let o : World = g.N.RunName.opening in
    let b = box_held o part.cpu.0 part.status part.bases.plain part.leaf part.read
    (looked_of part.seat.me.0.boxes) in
    let can = subst (λ (z : HeldPart). (q : PassView) × CanTake z q)
    (sym c.part.view_is) c.requires in
    let p = can.0 in
    let hosted = subst (Hosts part.guest) can.1.brought c.part.invariant.hosts in
    let by : p.cpu ≡ c.guest_cpu-by.result.0 = guest_is part.guest p c.guest_cpu-by.result hosted
    c.guest_cpu-by.ensures in
    let me : part.seat.me ≡ seat_of (b ∷ []) (p ∷ []) =
    c.part.invariant.seat ∙ ap (seat_of (b ∷ [])) can.1.brought in
    let m = c.store.new.seat.me in
    let is : m ≡ seat_of (turns.taken_box b p ∷ []) (turns.taken_pass b p ∷ []) =
    c.store.ensures.2.0 ∙ ap (turns.on_pair turns.taken_box turns.taken_pass) me in
    let same : box_held o part.cpu.0 (record part.status {
      mark =
          Some c.guest_cpu-by.result.0;
    }) part.bases.plain part.leaf part.read
    (looked_of part.seat.me.0.boxes) ≡ turns.taken_box b p =
    ap (λ n. box_held o part.cpu.0 (record part.status {
      mark =
          Some n;
    }) part.bases.plain part.leaf part.read (looked_of part.seat.me.0.boxes)) (sym by) in
    keeps g.N.RunName.table c.store.new.seat.table_id o part.cpu.0 (record part.status {
      mark =
          Some c.guest_cpu-by.result.0;
    })
    part.bases.plain part.leaf part.read (looked_of part.seat.me.0.boxes) part.guest m
    (turns.taken_box) (turns.taken_pass) b p is same
    (c.store.ensures.0 ∙ c.part.invariant.named) c.store.ensures.2.1
    (same_hosts part.guest p (turns.taken_pass b p) (subst (Hosts part.guest) can.1.brought
    c.part.invariant.hosts)
    (record { cpu = refl; walks_are = refl; receipts = refl }))

pub returns : goal.returns
returns g c =
    let part = c.part.inside in
    let o : World = g.N.RunName.opening in
    let b = box_held o part.cpu.0 part.status part.bases.plain part.leaf part.read
    (looked_of part.seat.me.0.boxes) in
    let can = subst (λ (z : HeldPart). (q : PassView) × CanTake z q)
    (sym c.part.view_is) c.requires in
    let p = can.0 in
    let hosted = subst (Hosts part.guest) can.1.brought c.part.invariant.hosts in
    let by : p.cpu ≡ c.guest_cpu-by.result.0 = guest_is part.guest p c.guest_cpu-by.result hosted
    c.guest_cpu-by.ensures in
    let me : part.seat.me ≡ seat_of (b ∷ []) (p ∷ []) =
    c.part.invariant.seat ∙ ap (seat_of (b ∷ [])) can.1.brought in
    let m = c.store.new.seat.me in
    let is : m ≡ seat_of (turns.taken_box b p ∷ []) (turns.taken_pass b p ∷ []) =
    c.store.ensures.2.0 ∙ ap (turns.on_pair turns.taken_box turns.taken_pass) me in
    let same : box_held o part.cpu.0 (record part.status {
      mark =
          Some c.guest_cpu-by.result.0;
    }) part.bases.plain part.leaf part.read
    (looked_of part.seat.me.0.boxes) ≡ turns.taken_box b p =
    ap (λ n. box_held o part.cpu.0 (record part.status {
      mark =
          Some n;
    }) part.bases.plain part.leaf part.read (looked_of part.seat.me.0.boxes)) (sym by) in
    shows g.N.RunName.table c.store.new.seat.table_id o part.cpu.0 (record part.status {
      mark =
          Some c.guest_cpu-by.result.0;
    })
    part.bases.plain part.leaf part.read (looked_of part.seat.me.0.boxes) part.guest m
    (turns.taken_box) (turns.taken_pass) b p is same
    part.bases.room (guest_room part.guest) part.seat.me.0.passes refl can.1.brought
    ∙ ap (by_pair (turns.taken_box) (turns.taken_pass)) c.part.view_is

pub guest_cpu-by-requires : goal.guest_cpu-by-requires
guest_cpu-by-requires g c =
    let part = c.part.inside in
    let can = subst (λ (z : HeldPart). (q : PassView) × CanTake z q)
    (sym c.part.view_is) c.requires in
    has_guest part.guest can.0 (subst (Hosts part.guest) can.1.brought c.part.invariant.hosts)

pub status_word-word-requires-clause-mark : goal.status_word-word-requires-clause-mark
status_word-word-requires-clause-mark g c =
    let run = c.args.run.now in
    let part = c.part.inside in
    let o : World = g.N.RunName.opening in
    let can = subst (λ (z : HeldPart). (q : PassView) × CanTake z q)
    (sym c.part.view_is) c.requires in
    let p = can.0 in
    let hosted = subst (Hosts part.guest) can.1.brought c.part.invariant.hosts in
    let by : p.cpu ≡ c.guest_cpu-by.result.0 = guest_is part.guest p c.guest_cpu-by.result hosted
    c.guest_cpu-by.ensures in
    marker_low o p.cpu c.guest_cpu-by.result.0 run.fits c.part.invariant.fits.many can.1.placed by

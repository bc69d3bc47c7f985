use Rattle.std.proofs.Common.{◌≡◌, ◌∷◌, [], Option, None, refl, sym, ap, ◌∙◌, subst}
use mathlib.Core.Option.{none}
use Rattle.atomic_table.specs.Table.{step}
use Rattle.walk_rules.specs.declared.walk.Walk.{Walk}
use Rattle.walk_rules.specs.declared.walk.WalkKind.TheVariants as kinds
use Rattle.shared_rule.specs.core_state.Shown.{as_cpu}
use Rattle.core_world.specs.World.{World}
use Rattle.shared_rule.specs.Turns as turns
use Rattle.shared_rule.specs.Rule.{seat_of}
use Rattle.shared_rule.specs.Whole.{cpu_at}
use Rattle.shared_rule.specs.Parts.{Hosts, box_held, guest_room, looked_of}
use Rattle.shared_rule.proofs.Calls.{asks}
use Rattle.shared_cpus.specs.Conditions.{CanEndCarry}
use Rattle.shared_cpus.specs.Pairs.{by_pair}
use Rattle.shared_cpus.proofs.Guesting.{same_hosts}
use Rattle.shared_cpus.proofs.Turned.{keeps, shows}
use Rattle.shared_cpus.proofs.ending.carried_step.Goals as goal

pub store-requires : goal.store-requires
store-requires g c =
    let run = c.args.run.now in
    let table = run.words.shared.table_id in
    let part = c.part.inside in
    let o : World = g.N.RunName.opening in
    let b = box_held o part.cpu.0 part.status part.bases.plain part.leaf part.read
    (looked_of part.seat.me.0.boxes) in
    let can = subst CanEndCarry (sym c.part.view_is) c.requires in
    let p = can.pass in
    let me : part.seat.me ≡ seat_of (b ∷ []) (p ∷ []) =
    c.part.invariant.seat ∙ ap (seat_of (b ∷ [])) can.brought in
    let new = c.status_word-word.result in
    asks g.N.RunName.table o table run.words.shared.key.core run.tree run.layout run.fits
    part.seat.table_id part.seat.id c.index-place.result part.seat.me b (p ∷ []) (cpu_at b.cpu)
    (λ n. new) (λ i v n w. turns.CarryEnds (step table.slots i new 0 none) v new w)
    c.part.invariant.named me c.index-place.ensures c.part.invariant.fits.cpu
    (c.law_carry.ensures.finish o table.slots part.seat.id b can.made p new
    (record {
      cpu = c.part.invariant.fits.cpu;
      walk = can.ends.walk;
      stage = can.ends.stage;
      kind = can.ends.sort;
      word = c.status_word-word.ensures part.bases.plain;
    }))

pub invariant_of-part : goal.invariant_of-part
invariant_of-part g c =
    let part = c.part.inside in
    let o : World = g.N.RunName.opening in
    let b = box_held o part.cpu.0 part.status part.bases.plain part.leaf part.read
    (looked_of part.seat.me.0.boxes) in
    let can = subst CanEndCarry (sym c.part.view_is) c.requires in
    let p = can.pass in
    let me : part.seat.me ≡ seat_of (b ∷ []) (p ∷ []) =
    c.part.invariant.seat ∙ ap (seat_of (b ∷ [])) can.brought in
    let m = c.store.new.seat.me in
    let is : m ≡ seat_of (turns.carry_ended_box b p ∷ []) (turns.carry_ended_pass b p ∷ []) =
    c.store.ensures.2.0 ∙ ap (turns.on_pair turns.carry_ended_box turns.carry_ended_pass) me in
    let same : box_held o part.cpu.0 (record part.status {
      mark = None;
      walk =
          None;
    }) part.bases.plain part.leaf part.read (looked_of part.seat.me.0.boxes) ≡
    turns.carry_ended_box b p =
    ap (λ (z : Option Walk). record b {
      own = turns.finish_of (kinds.Remote
          (as_cpu p.cpu)) b.own z;
    }) (sym can.ends.walk) in
    keeps g.N.RunName.table c.store.new.seat.table_id o part.cpu.0 (record part.status {
      mark =
          None;
      walk = None;
    })
    part.bases.plain part.leaf part.read (looked_of part.seat.me.0.boxes) part.guest m
    (turns.carry_ended_box) (turns.carry_ended_pass) b p is same
    (c.store.ensures.0 ∙ c.part.invariant.named) c.store.ensures.2.1
    (same_hosts part.guest p (turns.carry_ended_pass b p) (subst
    (Hosts part.guest) can.brought c.part.invariant.hosts)
    (record { cpu = refl; walks_are = refl; receipts = refl }))

pub returns : goal.returns
returns g c =
    let part = c.part.inside in
    let o : World = g.N.RunName.opening in
    let b = box_held o part.cpu.0 part.status part.bases.plain part.leaf part.read
    (looked_of part.seat.me.0.boxes) in
    let can = subst CanEndCarry (sym c.part.view_is) c.requires in
    let p = can.pass in
    let me : part.seat.me ≡ seat_of (b ∷ []) (p ∷ []) =
    c.part.invariant.seat ∙ ap (seat_of (b ∷ [])) can.brought in
    let m = c.store.new.seat.me in
    let is : m ≡ seat_of (turns.carry_ended_box b p ∷ []) (turns.carry_ended_pass b p ∷ []) =
    c.store.ensures.2.0 ∙ ap (turns.on_pair turns.carry_ended_box turns.carry_ended_pass) me in
    let same : box_held o part.cpu.0 (record part.status {
      mark = None;
      walk =
          None;
    }) part.bases.plain part.leaf part.read (looked_of part.seat.me.0.boxes) ≡
    turns.carry_ended_box b p =
    ap (λ (z : Option Walk). record b {
      own = turns.finish_of (kinds.Remote
          (as_cpu p.cpu)) b.own z;
    }) (sym can.ends.walk) in
    shows g.N.RunName.table c.store.new.seat.table_id o part.cpu.0 (record part.status {
      mark =
          None;
      walk = None;
    })
    part.bases.plain part.leaf part.read (looked_of part.seat.me.0.boxes) part.guest m
    (turns.carry_ended_box) (turns.carry_ended_pass) b p is same
    part.bases.room (guest_room part.guest) part.seat.me.0.passes refl can.brought
    ∙ ap (by_pair (turns.carry_ended_box) (turns.carry_ended_pass)) c.part.view_is

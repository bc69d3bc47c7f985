use Rattle.std.proofs.Common.{◌≡◌, ◌∷◌, [], Option, refl, sym, ap, ◌∙◌, subst}
use mathlib.Core.Option.{none}
use Rattle.atomic_table.specs.Table.{step}
use Rattle.walk_rules.specs.declared.walk.Walk.{Walk}
use Rattle.walk_rules.specs.declared.walk.WalkKind.TheVariants as kinds
use Rattle.walk_rules.specs.declared.walk.Stage.TheVariants as stages
use Rattle.shared_rule.specs.core_state.Shown.{as_cpu}
use Rattle.core_world.specs.World.{World}
use Rattle.shared_rule.specs.Turns as turns
use Rattle.shared_rule.specs.Rule.{seat_of}
use Rattle.shared_rule.specs.Whole.{cpu_at, no_looks}
use Rattle.shared_rule.specs.declared.box_part.Guest.{Guest}
use Rattle.shared_rule.specs.Parts.{HeldPart, Hosts, box_held, guest_room, looked_of}
use Rattle.shared_rule.proofs.Calls.{asks}
use Rattle.shared_cpus.specs.Conditions.{CanCarry}
use Rattle.shared_cpus.specs.Pairs.{by_pair}
use Rattle.shared_cpus.proofs.Guesting.{few_walks, guest_is, has_guest, more_hosts, same_room}
use Rattle.shared_cpus.proofs.Turned.{keeps, shows}
use Rattle.shared_cpus.proofs.marking.carry_step.Goals as goal

pub load-requires : goal.load-requires
load-requires g c =
    let run = c.args.run.now in
    let table = run.words.shared.table_id in
    let part = c.part.inside in
    let o : World = g.N.RunName.opening in
    let b = box_held o part.cpu.0 part.status part.bases.plain part.leaf part.read
    (looked_of part.seat.me.0.boxes) in
    let can = subst CanCarry (sym c.part.view_is) c.requires in
    let p = can.pass in
    let hosted = subst (Hosts part.guest) can.brought c.part.invariant.hosts in
    let by : p.cpu ≡ c.guest_cpu-by.result.0 = guest_is part.guest p c.guest_cpu-by.result hosted
    c.guest_cpu-by.ensures in
    let me : part.seat.me ≡ seat_of (b ∷ []) (p ∷ []) =
    c.part.invariant.seat ∙ ap (seat_of (b ∷ [])) can.brought in
    asks g.N.RunName.table o table run.words.shared.key.core run.tree run.layout run.fits
    part.seat.table_id part.seat.id c.index-place.result part.seat.me b (p ∷ []) (cpu_at b.cpu)
    (λ n. n) (λ i v n w. turns.Carries (step table.slots i 0 0 none) v n w)
    c.part.invariant.named me c.index-place.ensures c.part.invariant.fits.cpu
    (c.law_carry.ensures.begin o table.slots part.seat.id b p
    (record {
      cpu = c.part.invariant.fits.cpu;
      free = can.free;
      marked = can.marked;
      online = can.online;
      idle = can.idle;
      left = can.left;
    }))

pub invariant_of-part : goal.invariant_of-part
invariant_of-part g c =
    let part = c.part.inside in
    let o : World = g.N.RunName.opening in
    let b = box_held o part.cpu.0 part.status part.bases.plain part.leaf part.read
    (looked_of part.seat.me.0.boxes) in
    let can = subst CanCarry (sym c.part.view_is) c.requires in
    let p = can.pass in
    let hosted = subst (Hosts part.guest) can.brought c.part.invariant.hosts in
    let by : p.cpu ≡ c.guest_cpu-by.result.0 = guest_is part.guest p c.guest_cpu-by.result hosted
    c.guest_cpu-by.ensures in
    let me : part.seat.me ≡ seat_of (b ∷ []) (p ∷ []) =
    c.part.invariant.seat ∙ ap (seat_of (b ∷ [])) can.brought in
    let m = c.load.new.seat.me in
    let is : m ≡ seat_of (turns.carried_box b p ∷ []) (turns.carried_pass b p ∷ []) =
    c.load.ensures.2.0 ∙ ap (turns.on_pair turns.carried_box turns.carried_pass) me in
    let same : box_held o part.cpu.0 (record part.status {
      walk =
          c.begun-walk.result;
    }) part.bases.plain part.leaf part.read no_looks ≡ turns.carried_box b p =
    ap (λ (z : Option Walk). box_held o part.cpu.0 (record part.status {
      walk =
          z;
    }) part.bases.plain part.leaf part.read no_looks)
    (c.begun-walk.ensures ∙ ap (λ (z : HeldPart). turns.begun o z.box.cpu z.box.own
    (kinds.Remote c.guest_cpu-by.result) stages.LockGroup) (sym c.part.view_is)
    ∙ ap (λ n. turns.begun o b.cpu b.own (kinds.Remote (as_cpu n)) stages.LockGroup) (sym by)) in
    keeps g.N.RunName.table c.load.new.seat.table_id o part.cpu.0 (record part.status {
      walk =
          c.begun-walk.result;
    })
    part.bases.plain part.leaf part.read no_looks c.count_walk.new.guest m (turns.carried_box)
    (turns.carried_pass) b p is same
    (c.load.ensures.0 ∙ c.part.invariant.named) c.load.ensures.2.1
    (subst (λ (z : Option Guest). Hosts z (turns.carried_pass b p ∷ [])) (sym c.count_walk.ensures)
    (more_hosts part.guest p (turns.carried_pass b p) (subst (Hosts part.guest) can.brought
    c.part.invariant.hosts)
    (record { cpu = refl; walks_are = refl; receipts = refl })))

pub returns : goal.returns
returns g c =
    let part = c.part.inside in
    let o : World = g.N.RunName.opening in
    let b = box_held o part.cpu.0 part.status part.bases.plain part.leaf part.read
    (looked_of part.seat.me.0.boxes) in
    let can = subst CanCarry (sym c.part.view_is) c.requires in
    let p = can.pass in
    let hosted = subst (Hosts part.guest) can.brought c.part.invariant.hosts in
    let by : p.cpu ≡ c.guest_cpu-by.result.0 = guest_is part.guest p c.guest_cpu-by.result hosted
    c.guest_cpu-by.ensures in
    let me : part.seat.me ≡ seat_of (b ∷ []) (p ∷ []) =
    c.part.invariant.seat ∙ ap (seat_of (b ∷ [])) can.brought in
    let m = c.load.new.seat.me in
    let is : m ≡ seat_of (turns.carried_box b p ∷ []) (turns.carried_pass b p ∷ []) =
    c.load.ensures.2.0 ∙ ap (turns.on_pair turns.carried_box turns.carried_pass) me in
    let same : box_held o part.cpu.0 (record part.status {
      walk =
          c.begun-walk.result;
    }) part.bases.plain part.leaf part.read no_looks ≡ turns.carried_box b p =
    ap (λ (z : Option Walk). box_held o part.cpu.0 (record part.status {
      walk =
          z;
    }) part.bases.plain part.leaf part.read no_looks)
    (c.begun-walk.ensures ∙ ap (λ (z : HeldPart). turns.begun o z.box.cpu z.box.own
    (kinds.Remote c.guest_cpu-by.result) stages.LockGroup) (sym c.part.view_is)
    ∙ ap (λ n. turns.begun o b.cpu b.own (kinds.Remote (as_cpu n)) stages.LockGroup) (sym by)) in
    shows g.N.RunName.table c.load.new.seat.table_id o part.cpu.0 (record part.status {
      walk =
          c.begun-walk.result;
    })
    part.bases.plain part.leaf part.read no_looks c.count_walk.new.guest m (turns.carried_box)
    (turns.carried_pass) b p is same
    part.bases.room (guest_room part.guest) part.seat.me.0.passes
    (ap guest_room c.count_walk.ensures ∙ same_room part.guest) can.brought
    ∙ ap (by_pair (turns.carried_box) (turns.carried_pass)) c.part.view_is

pub count_walk-requires : goal.count_walk-requires
count_walk-requires g c =
    let part = c.part.inside in
    let can = subst CanCarry (sym c.part.view_is) c.requires in
    few_walks part.guest can.pass (subst (Hosts part.guest) can.brought c.part.invariant.hosts)
    can.left

pub guest_cpu-by-requires : goal.guest_cpu-by-requires
guest_cpu-by-requires g c =
    let part = c.part.inside in
    let can = subst CanCarry (sym c.part.view_is) c.requires in
    has_guest part.guest can.pass (subst (Hosts part.guest) can.brought c.part.invariant.hosts)

use Rattle.std.proofs.Common.{◌≡◌, ◌∷◌, [], Option, refl, sym, ap, ◌∙◌, subst}
use mathlib.Core.Option.{none}
use Rattle.atomic_table.specs.Table.{step}
use Rattle.walk_rules.specs.declared.walk.Walk.{Walk}
use Rattle.walk_rules.specs.declared.walk.WalkKind.TheVariants as kinds
use Rattle.walk_rules.specs.declared.walk.Stage.TheVariants as stages
use Rattle.core_world.specs.World.{World}
use Rattle.shared_rule.specs.Plays as plays
use Rattle.shared_rule.specs.Turns as turns
use Rattle.shared_rule.specs.Rule.{seat_of}
use Rattle.shared_rule.specs.Whole.{cpu_at, no_looks}
use Rattle.shared_rule.specs.declared.box_part.Guest.{Guest}
use Rattle.shared_rule.specs.Parts.{HeldPart, Hosts, box_held, guest_room, looked_of}
use Rattle.shared_rule.proofs.Calls.{asks}
use Rattle.shared_cpus.specs.Conditions.{CanRetell}
use Rattle.shared_cpus.specs.Pairs.{by_pair, of_box}
use Rattle.shared_cpus.proofs.Guesting.{few_walks, more_hosts, same_room}
use Rattle.shared_cpus.proofs.Turned.{keeps, shows}
use Rattle.shared_cpus.proofs.turns.retell_step.Goals as goal

pub load-requires : goal.load-requires
load-requires g c =
    let run = c.args.run.now in
    let table = run.words.shared.table_id in
    let part = c.part.inside in
    let o : World = g.N.RunName.opening in
    let b = box_held o part.cpu.0 part.status part.bases.plain part.leaf part.read
    (looked_of part.seat.me.0.boxes) in
    let can = subst CanRetell (sym c.part.view_is) c.requires in
    let p = can.pass in
    let me : part.seat.me ≡ seat_of (b ∷ []) (p ∷ []) =
    c.part.invariant.seat ∙ ap (seat_of (b ∷ [])) can.turn.brought in
    asks g.N.RunName.table o table run.words.shared.key.core run.tree run.layout run.fits
    part.seat.table_id part.seat.id c.index-place.result part.seat.me b (p ∷ []) (cpu_at b.cpu)
    (λ n. n) (λ i v n w. turns.Retells (step table.slots i 0 0 none) v n w)
    c.part.invariant.named me c.index-place.ensures c.part.invariant.fits.cpu
    (c.law_turn.ensures.retell o table.slots part.seat.id b p
    (record {
      cpu = c.part.invariant.fits.cpu;
      own = can.turn.own;
      free = can.turn.free;
      online = can.turn.online;
      word = refl;
    })
    (record {
      idle = can.idle;
      inside = can.inside;
      marks_nobody = can.marks_nobody;
      left = can.left;
    }))

pub invariant_of-part : goal.invariant_of-part
invariant_of-part g c =
    let part = c.part.inside in
    let o : World = g.N.RunName.opening in
    let b = box_held o part.cpu.0 part.status part.bases.plain part.leaf part.read
    (looked_of part.seat.me.0.boxes) in
    let can = subst CanRetell (sym c.part.view_is) c.requires in
    let p = can.pass in
    let me : part.seat.me ≡ seat_of (b ∷ []) (p ∷ []) =
    c.part.invariant.seat ∙ ap (seat_of (b ∷ [])) can.turn.brought in
    let m = c.load.new.seat.me in
    let is : m ≡ seat_of (of_box turns.retold_box b p ∷ []) (turns.retold_pass b p ∷ []) =
    c.load.ensures.2.0 ∙ ap (plays.on_both turns.retold_box turns.retold_pass) me in
    let same : box_held o part.cpu.0 (record part.status {
      walk =
          c.begun-walk.result;
    }) part.bases.plain part.leaf part.read no_looks ≡ of_box turns.retold_box b p =
    ap (λ (z : Option Walk). box_held o part.cpu.0 (record part.status {
      walk =
          z;
    }) part.bases.plain part.leaf part.read no_looks)
    (c.begun-walk.ensures ∙ ap (λ (z : HeldPart). turns.begun o z.box.cpu z.box.own kinds.Reeval
    stages.LockGroup) (sym c.part.view_is)) in
    keeps g.N.RunName.table c.load.new.seat.table_id o part.cpu.0 (record part.status {
      walk =
          c.begun-walk.result;
    })
    part.bases.plain part.leaf part.read no_looks c.count_walk.new.guest m (of_box turns.retold_box)
    (turns.retold_pass) b p is same
    (c.load.ensures.0 ∙ c.part.invariant.named) c.load.ensures.2.1
    (subst (λ (z : Option Guest). Hosts z (turns.retold_pass b p ∷ [])) (sym c.count_walk.ensures)
    (more_hosts part.guest p (turns.retold_pass b p) (subst (Hosts part.guest) can.turn.brought
    c.part.invariant.hosts)
    (record { cpu = refl; walks_are = refl; receipts = refl })))

pub returns : goal.returns
returns g c =
    let part = c.part.inside in
    let o : World = g.N.RunName.opening in
    let b = box_held o part.cpu.0 part.status part.bases.plain part.leaf part.read
    (looked_of part.seat.me.0.boxes) in
    let can = subst CanRetell (sym c.part.view_is) c.requires in
    let p = can.pass in
    let me : part.seat.me ≡ seat_of (b ∷ []) (p ∷ []) =
    c.part.invariant.seat ∙ ap (seat_of (b ∷ [])) can.turn.brought in
    let m = c.load.new.seat.me in
    let is : m ≡ seat_of (of_box turns.retold_box b p ∷ []) (turns.retold_pass b p ∷ []) =
    c.load.ensures.2.0 ∙ ap (plays.on_both turns.retold_box turns.retold_pass) me in
    let same : box_held o part.cpu.0 (record part.status {
      walk =
          c.begun-walk.result;
    }) part.bases.plain part.leaf part.read no_looks ≡ of_box turns.retold_box b p =
    ap (λ (z : Option Walk). box_held o part.cpu.0 (record part.status {
      walk =
          z;
    }) part.bases.plain part.leaf part.read no_looks)
    (c.begun-walk.ensures ∙ ap (λ (z : HeldPart). turns.begun o z.box.cpu z.box.own kinds.Reeval
    stages.LockGroup) (sym c.part.view_is)) in
    shows g.N.RunName.table c.load.new.seat.table_id o part.cpu.0 (record part.status {
      walk =
          c.begun-walk.result;
    })
    part.bases.plain part.leaf part.read no_looks c.count_walk.new.guest m (of_box turns.retold_box)
    (turns.retold_pass) b p is same
    part.bases.room (guest_room part.guest) part.seat.me.0.passes
    (ap guest_room c.count_walk.ensures ∙ same_room part.guest) can.turn.brought
    ∙ ap (by_pair (of_box turns.retold_box) (turns.retold_pass)) c.part.view_is

pub count_walk-requires : goal.count_walk-requires
count_walk-requires g c =
    let part = c.part.inside in
    let can = subst CanRetell (sym c.part.view_is) c.requires in
    few_walks part.guest can.pass (subst (Hosts part.guest) can.turn.brought
    c.part.invariant.hosts) can.left

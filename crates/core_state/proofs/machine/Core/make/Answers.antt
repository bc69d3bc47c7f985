use Rattle.std.proofs.Common.{◌<◌, ◌≡◌, ap, arith, length, subst, sym, true, ◌∙◌}
use Rattle.tree_plan.specs.Paths.{IsBelow}
use Rattle.core_parts.specs.core_world.World.{World}
use Rattle.core_parts.proofs.core_world.Moves.{stale_if_length}
use Rattle.core_state.proofs.Making.{made, made_kept}
use Rattle.core_state.proofs.machine.Core.make.Goals as goal

pub invariant_of-self : goal.invariant_of-self
invariant_of-self g c =
    made_kept _ c.args.self.now c.args.group.0 c.from.result c.args.cpu.0 c.from-2.result
    c.index_mut.result.now c.change.new.self c.if_exchanged.new.cpus.items c.index_mut-2.result.now
    c.set_status.new.self c.args.change c.args.status c.args.exchanges c.self.view_is c.from.ensures
    c.requires.group c.index_mut.ensures.value c.change.ensures c.if_exchanged.ensures
    c.from-2.ensures c.requires.cpu c.index_mut-2.ensures.value c.set_status.ensures
    c.self.inside.holders.items c.self.inside.tally c.recount.new.self c.self.invariant
    c.recount.ensures c.requires.fits

pub returns : goal.returns
returns g c =
    made _ c.args.self.now c.args.group.0 c.from.result c.args.cpu.0 c.from-2.result
    c.index_mut.result.now c.change.new.self c.if_exchanged.new.cpus.items c.index_mut-2.result.now
    c.set_status.new.self c.args.change c.args.status c.args.exchanges c.self.view_is c.from.ensures
    c.requires.group c.index_mut.ensures.value c.change.ensures c.if_exchanged.ensures
    c.from-2.ensures c.requires.cpu c.index_mut-2.ensures.value c.set_status.ensures

pub if_exchanged-requires-clause-below : goal.if_exchanged-requires-clause-below
if_exchanged-requires-clause-below g c =
    subst (λ (w : World). c.args.exchanges ≡ true → IsBelow w.tree c.args.cpu.0 c.args.group.0)
    (sym c.self.view_is) c.requires.below

pub recount-requires-clause-cpu : goal.recount-requires-clause-cpu
recount-requires-clause-cpu g c =
    subst (λ (w : World). c.args.cpu.0 < length w.cpus) (sym c.self.view_is) c.requires.cpu

pub recount-requires-clause-each_cpu : goal.recount-requires-clause-each_cpu
recount-requires-clause-each_cpu g c = c.self.invariant.fits.lawful.sized.cpus

pub recount-requires-clause-tallied : goal.recount-requires-clause-tallied
recount-requires-clause-tallied g c = c.self.invariant.tallied

pub index_mut-requires : goal.index_mut-requires
index_mut-requires g c =
    let low = subst (λ (w : World). c.args.group.0 < length w.groups) (sym c.self.view_is)
    c.requires.group in
    let at = c.from.ensures in
    omega (arith, low, at)

pub change-requires : goal.change-requires
change-requires g c = c.requires.change

pub set_status-requires : goal.set_status-requires
set_status-requires g c = c.requires.in_range

pub index_mut-requires-2 : goal.index_mut-requires-2
index_mut-requires-2 g c =
    let low = subst (λ (w : World). c.args.cpu.0 < length w.cpus) (sym c.self.view_is)
    c.requires.cpu
    in
    let len = ap length c.if_exchanged.ensures
    ∙ stale_if_length c.self.inside.tree c.args.exchanges c.args.group.0 c.self.inside.cpus.items in
    let at = c.from-2.ensures in
    omega (arith, low, len, at)

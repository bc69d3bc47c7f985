use Rattle.std.proofs.Common.{◌<◌, arith, length, subst, sym}
use Rattle.core_parts.specs.core_world.World.{World}
use Rattle.core_parts.specs.Status.{with_status}
use Rattle.core_state.proofs.Changes.{set_kept, written}
use Rattle.core_state.proofs.machine.Core.set.Goals as goal

pub invariant_of-self : goal.invariant_of-self
invariant_of-self g c =
    set_kept _ c.args.self.now c.self.inside.holders.items c.self.inside.tally c.recount.new.self
    c.args.cpu.0 c.from.result
    c.index_mut.result.now c.set_status.new.self c.args.status c.self.view_is c.self.invariant
    c.from.ensures c.requires.cpu c.index_mut.ensures.value c.set_status.ensures
    c.recount.ensures c.requires.fits

pub recount-requires-clause-cpu : goal.recount-requires-clause-cpu
recount-requires-clause-cpu g c =
    subst (λ (w : World). c.args.cpu.0 < length w.cpus) (sym c.self.view_is) c.requires.cpu

pub recount-requires-clause-each_cpu : goal.recount-requires-clause-each_cpu
recount-requires-clause-each_cpu g c = c.self.invariant.fits.lawful.sized.cpus

pub recount-requires-clause-tallied : goal.recount-requires-clause-tallied
recount-requires-clause-tallied g c = c.self.invariant.tallied

pub index_mut-requires : goal.index_mut-requires
index_mut-requires g c =
    let low = subst (λ (w : World). c.args.cpu.0 < length w.cpus) (sym c.self.view_is)
    c.requires.cpu in
    let at = c.from.ensures in
    omega (arith, low, at)

pub set_status-requires : goal.set_status-requires
set_status-requires g c = c.requires.in_range

pub returns : goal.returns
returns g c =
    written _ c.args.self.now c.args.cpu.0 c.from.result c.index_mut.result.now
    c.set_status.new.self (λ y. with_status y c.args.status) c.self.view_is c.from.ensures
    c.requires.cpu c.index_mut.ensures.value c.set_status.ensures

use Rattle.core_state.proofs.Changes.{clock_kept}
use Rattle.core_state.proofs.machine.Core.bring_to.Goals as goal

pub invariant_of-self : goal.invariant_of-self
invariant_of-self g c =
    clock_kept _ c.args.self.now c.self.inside.holders.items c.self.inside.tally c.args.now
    c.self.view_is c.law_fits.ensures c.self.invariant c.requires

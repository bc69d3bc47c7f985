use Rattle.core_state.proofs.Changes.{status_fits, status_made}
use Rattle.core_state.proofs.machine.Core.set_walk.Goals as goal

pub set-requires-clause-fits : goal.set-requires-clause-fits
set-requires-clause-fits g c =
    status_fits c.args.self.now c.args.cpu.0 _ _
    (λ i. record (c.status-status.ensures.status i) { walk = c.args.walk }) c.requires.fits

pub returns : goal.returns
returns g c =
    status_made c.args.self.now c.set.new.self c.args.cpu.0 _ _
    (λ i. record (c.status-status.ensures.status i) { walk = c.args.walk }) c.set.ensures

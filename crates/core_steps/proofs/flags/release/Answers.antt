use Rattle.std.proofs.Common.{None}
use Rattle.core_world.specs.declared.step.Step.TheVariants as steps
use Rattle.core_state.proofs.Changes.{status_fits, status_made}
use Rattle.core_steps.proofs.flags.release.Goals as goal

pub set-requires-clause-fits : goal.set-requires-clause-fits
set-requires-clause-fits g c =
    status_fits c.args.core.now c.args.cpu.0 _ _ (λ i. record (c.status-status.ensures.status i) { mark = None })
    (c.status-status.ensures.stays (steps.Release c.args.cpu) c.requires)

pub returns : goal.returns
returns g c =
    status_made c.args.core.now c.set.new.self c.args.cpu.0 _ _ (λ i. record (c.status-status.ensures.status i) { mark = None })
    c.set.ensures

use Rattle.walk_rules.specs.declared.walk.Stage.TheVariants as stages
use Rattle.core_state.proofs.Changes.{finish_fits, finish_made}
use Rattle.core_steps.proofs.Standing.{walked_fits}
use Rattle.core_steps.proofs.finishing.finish.Goals as goal

pub set-requires-clause-fits : goal.set-requires-clause-fits
set-requires-clause-fits g c =
    finish_fits c.args.core.now c.args.cpu.0 c.args.walk c.finished-left.result c.status-status.result
    c.finished-left.ensures.status c.status-status.ensures.status
    (walked_fits c.args.core.now c.args.cpu c.args.walk stages.Finish c.kept.ensures.stays c.requires.stands)

pub returns : goal.returns
returns g c =
    finish_made c.args.core.now c.set.new.self c.args.cpu.0 c.args.walk c.finished-left.result
    c.status-status.result c.finished-left.ensures.status c.status-status.ensures.status c.set.ensures

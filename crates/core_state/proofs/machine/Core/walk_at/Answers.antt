use Rattle.std.proofs.Common.{subst, sym, ◌∙◌}
use Rattle.core_state.specs.Kept.{WorldFits}
use Rattle.core_state.proofs.Making.{status_moved}
use Rattle.core_state.proofs.machine.Core.walk_at.Goals as goal

pub make-requires-clause-fits : goal.make-requires-clause-fits
make-requires-clause-fits g c =
    subst WorldFits
    (sym
    (status_moved c.args.self.now c.args.group.0 c.args.change c.args.cpu.0 c.args.exchanges _ _
    (λ i. record (c.status-status.ensures.status i) { walk = c.args.walk })))
    c.requires.fits

pub returns : goal.returns
returns g c =
    c.make.ensures
    ∙ status_moved c.args.self.now c.args.group.0 c.args.change c.args.cpu.0 c.args.exchanges _ _
    (λ i. record (c.status-status.ensures.status i) { walk = c.args.walk })

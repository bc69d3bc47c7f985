use Rattle.std.proofs.Common.{subst}
use Rattle.core_state.specs.Kept.{WorldFits}
use Rattle.core_state.proofs.machine.Core.kept.Goals as goal

pub returns-clause-low : goal.returns-clause-low
returns-clause-low g c =
    let fits = subst WorldFits c.self.view_is c.self.invariant.fits in
    c.law_height.ensures.low c.args.self.now fits.planned fits.lawful fits.levels

pub returns-clause-fits : goal.returns-clause-fits
returns-clause-fits g c = subst WorldFits c.self.view_is c.self.invariant.fits

pub returns-clause-stays : goal.returns-clause-stays
returns-clause-stays g c =
    c.law_fits.ensures c.args.self.now (subst WorldFits c.self.view_is c.self.invariant.fits)

pub returns-clause-hierarchy : goal.returns-clause-hierarchy
returns-clause-hierarchy g c =
    let fits = subst WorldFits c.self.view_is c.self.invariant.fits in fits.lawful.hierarchy

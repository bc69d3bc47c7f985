use Rattle.std.proofs.Common.{subst}
use Rattle.core_state.specs.Kept.{IsHeld, WorldFits}
use Rattle.core_state.proofs.machine.Core.into_parts.Goals as goal

pub returns-clause-held : goal.returns-clause-held
returns-clause-held g c =
    subst (λ w. IsHeld w c.self.inside.holders.items) c.self.view_is c.self.invariant.held

pub returns-clause-world : goal.returns-clause-world
returns-clause-world g c = c.self.view_is

pub returns-clause-fits : goal.returns-clause-fits
returns-clause-fits g c = subst WorldFits c.self.view_is c.self.invariant.fits

pub returns-clause-room : goal.returns-clause-room
returns-clause-room g c = c.self.invariant.tallied.each

use Rattle.std.proofs.Common.{sym, subst, ap, ◌∙◌, false, Some}
use Rattle.core_world.specs.Steps.{with_walk}
use Rattle.core_world.specs.World.{cpu_of, own}
use Rattle.core_state.specs.Kept.{WorldFits}
use Rattle.core_steps.proofs.Standing.{exchange_fits}
use Rattle.core_steps.proofs.leaving.read_again.Goals as goal

pub set_walk-requires-clause-fits : goal.set_walk-requires-clause-fits
set_walk-requires-clause-fits g c =
    subst WorldFits
    (sym
    (ap (λ m. own c.args.core.now c.args.cpu.0 (with_walk (cpu_of c.args.core.now c.args.cpu.0) m))
    (λ i. Some (c.swap_next-next.ensures.next i))))
    (exchange_fits c.args.core.now c.args.cpu c.args.walk false c.kept.ensures.stays c.requires.stands c.requires.stale)

pub returns : goal.returns
returns g c =
    c.set_walk.ensures
    ∙ ap (λ m. own c.args.core.now c.args.cpu.0 (with_walk (cpu_of c.args.core.now c.args.cpu.0) m))
    (λ i. Some (c.swap_next-next.ensures.next i))

use Rattle.std.proofs.Common.{sym, subst, ap, ◌∙◌, Some}
use Rattle.walk_rules.specs.declared.walk.Stage.TheVariants as stages
use Rattle.core_world.specs.Steps.{with_walk}
use Rattle.core_world.specs.World.{cpu_of, own}
use Rattle.core_state.specs.Kept.{WorldFits}
use Rattle.core_steps.proofs.Standing.{walked_fits}
use Rattle.core_steps.proofs.leaving.read_group.Goals as goal

pub set_walk-requires-clause-fits : goal.set_walk-requires-clause-fits
set_walk-requires-clause-fits g c =
    subst WorldFits
    (sym
    (ap (λ m. own c.args.core.now c.args.cpu.0 (with_walk (cpu_of c.args.core.now c.args.cpu.0) m))
    (λ i. Some (c.read_next-next.ensures.next i))))
    (walked_fits c.args.core.now c.args.cpu c.args.walk stages.Read c.kept.ensures.stays c.requires.stands)

pub returns : goal.returns
returns g c =
    c.set_walk.ensures
    ∙ ap (λ m. own c.args.core.now c.args.cpu.0 (with_walk (cpu_of c.args.core.now c.args.cpu.0) m))
    (λ i. Some (c.read_next-next.ensures.next i))

use Rattle.std.proofs.Common.{sym, subst, ap, ◌∙◌, Some}
use Rattle.walk_rules.specs.declared.walk.Stage.TheVariants as stages
use Rattle.walk_rules.specs.Stages.{child_next}
use Rattle.core_world.specs.Steps.{with_walk}
use Rattle.core_world.specs.World.{cpu_of, own}
use Rattle.core_state.specs.Kept.{WorldFits}
use Rattle.core_steps.proofs.Standing.{level_here, lower_level, walked_fits}
use Rattle.core_steps.proofs.leaving.read_child.Goals as goal

pub set_walk-requires-clause-fits : goal.set_walk-requires-clause-fits
set_walk-requires-clause-fits g c =
    subst WorldFits
    (sym
    (ap (λ m. own c.args.core.now c.args.cpu.0 (with_walk (cpu_of c.args.core.now c.args.cpu.0) m))
    (ap Some (c.child_next-next.ensures.next ∙ ap (λ o. child_next o c.args.walk) c.child_on-child_on.ensures.child_on))))
    (walked_fits c.args.core.now c.args.cpu c.args.walk stages.Child c.kept.ensures.stays c.requires.stands)

pub returns : goal.returns
returns g c =
    c.set_walk.ensures
    ∙ ap (λ m. own c.args.core.now c.args.cpu.0 (with_walk (cpu_of c.args.core.now c.args.cpu.0) m))
    (ap Some (c.child_next-next.ensures.next ∙ ap (λ o. child_next o c.args.walk) c.child_on-child_on.ensures.child_on))

pub child_on-child_on-requires-clause-below : goal.child_on-child_on-requires-clause-below
child_on-child_on-requires-clause-below g c = λ high.
    lower_level c.args.core.now.tree c.args.cpu.0 c.args.walk.level c.kept.ensures.hierarchy high
    (level_here c.args.core.now c.kept.ensures.fits c.args.cpu.0 c.args.walk stages.Child c.requires.stands (λ e. cc))

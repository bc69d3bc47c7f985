use Rattle.std.proofs.Common.{sym, subst, ap, ◌∙◌, Some, arith}
use Rattle.std.specs.Prelude.{is_some}
use Rattle.walk_rules.specs.declared.walk.Stage.TheVariants as stages
use Rattle.walk_rules.specs.Stages.{see_group_next}
use Rattle.core_world.specs.Steps.{with_walk}
use Rattle.core_world.specs.World.{cpu_of, group_of, own}
use Rattle.core_state.specs.Kept.{WorldFits}
use Rattle.core_steps.proofs.Standing.{level_here, walked_fits}
use Rattle.core_steps.proofs.telling.see_group.Goals as goal

pub set_walk-requires-clause-fits : goal.set_walk-requires-clause-fits
set_walk-requires-clause-fits g c =
    subst WorldFits
    (sym
    (ap (λ m. own c.args.core.now c.args.cpu.0 (with_walk (cpu_of c.args.core.now c.args.cpu.0) m))
    (ap Some (c.see_group_next-next.ensures.next ∙ (λ i. see_group_next ((c.is_on-on.ensures.on ∙ ap (λ h. is_some (group_of c.args.core.now h).migrator) c.group_on-group.ensures.group) i) (c.at_top-top.ensures.top i) c.args.walk)))))
    (walked_fits c.args.core.now c.args.cpu c.args.walk stages.SeeGroup c.kept.ensures.stays c.requires.stands)

pub returns : goal.returns
returns g c =
    c.set_walk.ensures
    ∙ ap (λ m. own c.args.core.now c.args.cpu.0 (with_walk (cpu_of c.args.core.now c.args.cpu.0) m))
    (ap Some (c.see_group_next-next.ensures.next ∙ (λ i. see_group_next ((c.is_on-on.ensures.on ∙ ap (λ h. is_some (group_of c.args.core.now h).migrator) c.group_on-group.ensures.group) i) (c.at_top-top.ensures.top i) c.args.walk)))

pub at_top-top-requires-clause-level : goal.at_top-top-requires-clause-level
at_top-top-requires-clause-level g c =
    let low = c.kept.ensures.levels c.args.cpu.0 c.args.walk.level (level_here c.args.core.now c.kept.ensures.fits c.args.cpu.0 c.args.walk stages.SeeGroup c.requires.stands (λ e. cc)) in omega (arith, low)

pub is_on-on-requires : goal.is_on-on-requires
is_on-on-requires g c =
    c.group_on-group.ensures.in_range (level_here c.args.core.now c.kept.ensures.fits c.args.cpu.0 c.args.walk stages.SeeGroup c.requires.stands (λ e. cc))

use Rattle.std.proofs.Common.{sym, subst, ◌∙◌, false, Some}
use Rattle.walk_rules.specs.declared.walk.Stage.TheVariants as stages
use Rattle.core_state.specs.Changes as changes
use Rattle.core_state.specs.Kept.{HasLevel, WorldFits}
use Rattle.core_state.proofs.Making.{walk_moved}
use Rattle.core_steps.proofs.Standing.{fit, level_here, walked_fits}
use Rattle.core_steps.proofs.activation.pass_own.Goals as goal

pub walk_at-requires-clause-group : goal.walk_at-requires-clause-group
walk_at-requires-clause-group g c =
    c.group_on-group.ensures.in_range
    (subst (HasLevel c.args.core.now.tree c.args.cpu.0) ((fit c.args.core.now c.kept.ensures.fits c.args.cpu.0 c.args.walk stages.Own c.requires.stands (λ e. cc)).1) (level_here c.args.core.now c.kept.ensures.fits c.args.cpu.0 c.args.walk stages.Own c.requires.stands (λ e. cc)))

pub walk_at-requires-clause-fits : goal.walk_at-requires-clause-fits
walk_at-requires-clause-fits g c =
    subst WorldFits
    (sym
    (walk_moved c.args.core.now c.args.cpu.0 false _ _ _ _ _ _ c.group_on-group.ensures.group
    (λ i. changes.Mark (c.side-child.ensures.side i))
    (λ i. Some (c.at_stage-next.ensures.next i))))
    (walked_fits c.args.core.now c.args.cpu c.args.walk stages.Own c.kept.ensures.stays c.requires.stands)

pub returns : goal.returns
returns g c =
    c.walk_at.ensures
    ∙ walk_moved c.args.core.now c.args.cpu.0 false _ _ _ _ _ _ c.group_on-group.ensures.group
    (λ i. changes.Mark (c.side-child.ensures.side i))
    (λ i. Some (c.at_stage-next.ensures.next i))

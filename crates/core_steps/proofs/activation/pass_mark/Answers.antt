use Rattle.std.proofs.Common.{sym, subst, ap, ◌∙◌, false, arith}
use Rattle.walk_rules.specs.declared.walk.Stage.TheVariants as stages
use Rattle.walk_rules.specs.Hierarchy.{group_on, side}
use Rattle.core_state.specs.Changes as changes
use Rattle.core_state.specs.Kept.{HasLevel, WorldFits}
use Rattle.core_state.proofs.Making.{walk_moved}
use Rattle.core_steps.proofs.Standing.{fit, level_here, walked_fits}
use Rattle.core_steps.proofs.activation.pass_mark.Goals as goal

pub walk_at-requires-clause-group : goal.walk_at-requires-clause-group
walk_at-requires-clause-group g c =
    c.group_on-group.ensures.in_range
    (subst (HasLevel c.args.core.now.tree c.args.cpu.0) (sym c.above-level.ensures.above) ((fit c.args.core.now c.kept.ensures.fits c.args.cpu.0 c.args.walk (stages.Mark c.args.more) c.requires.stands (λ e. cc)).1))

pub walk_at-requires-clause-fits : goal.walk_at-requires-clause-fits
walk_at-requires-clause-fits g c =
    subst WorldFits
    (sym
    (walk_moved c.args.core.now c.args.cpu.0 false _ _ _ _ _ _ (c.group_on-group.ensures.group ∙ ap (group_on c.args.core.now.tree c.args.cpu.0) c.above-level.ensures.above)
    (λ i. changes.Mark ((c.side-child.ensures.side ∙ ap (side c.args.core.now.tree c.args.cpu.0) c.above-level.ensures.above) i))
    c.mark_next-next.ensures.next))
    (walked_fits c.args.core.now c.args.cpu c.args.walk (stages.Mark c.args.more) c.kept.ensures.stays c.requires.stands)

pub returns : goal.returns
returns g c =
    c.walk_at.ensures
    ∙ walk_moved c.args.core.now c.args.cpu.0 false _ _ _ _ _ _ (c.group_on-group.ensures.group ∙ ap (group_on c.args.core.now.tree c.args.cpu.0) c.above-level.ensures.above)
    (λ i. changes.Mark ((c.side-child.ensures.side ∙ ap (side c.args.core.now.tree c.args.cpu.0) c.above-level.ensures.above) i))
    c.mark_next-next.ensures.next

pub mark_next-next-requires : goal.mark_next-next-requires
mark_next-next-requires g c =
    let low = c.kept.ensures.levels c.args.cpu.0 c.args.walk.level (level_here c.args.core.now c.kept.ensures.fits c.args.cpu.0 c.args.walk (stages.Mark c.args.more) c.requires.stands (λ e. cc)) in omega (arith, low)

pub above-level-requires : goal.above-level-requires
above-level-requires g c =
    let low = c.kept.ensures.levels c.args.cpu.0 c.args.walk.level (level_here c.args.core.now c.kept.ensures.fits c.args.cpu.0 c.args.walk (stages.Mark c.args.more) c.requires.stands (λ e. cc)) in omega (arith, low)

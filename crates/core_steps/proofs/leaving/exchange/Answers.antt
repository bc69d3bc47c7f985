use Rattle.std.proofs.Common.{sym, subst, ◌∙◌, true, Some}
use Rattle.walk_rules.specs.declared.walk.Stage.TheVariants as stages
use Rattle.core_state.specs.Changes as changes
use Rattle.core_state.specs.Kept.{WorldFits}
use Rattle.core_state.proofs.Making.{walk_moved}
use Rattle.core_steps.proofs.Standing.{below_here, level_here}
use Rattle.core_steps.proofs.Standing.{exchange_fits}
use Rattle.core_steps.proofs.leaving.exchange.Goals as goal

pub walk_at-requires-clause-group : goal.walk_at-requires-clause-group
walk_at-requires-clause-group g c =
    c.group_on-group.ensures.in_range
    (level_here c.args.core.now c.kept.ensures.fits c.args.cpu.0 c.args.walk stages.Swap c.requires.stands (λ e. cc))

pub walk_at-requires-clause-fits : goal.walk_at-requires-clause-fits
walk_at-requires-clause-fits g c =
    subst WorldFits
    (sym
    (walk_moved c.args.core.now c.args.cpu.0 true _ _ _ _ _ _ c.group_on-group.ensures.group
    (λ i. changes.Leave (c.side-child.ensures.side i) c.args.walk.child_on)
    (λ i. Some (c.swap_next-next.ensures.next i))))
    (exchange_fits c.args.core.now c.args.cpu c.args.walk true c.kept.ensures.stays c.requires.stands c.requires.fresh)

pub returns : goal.returns
returns g c =
    c.walk_at.ensures
    ∙ walk_moved c.args.core.now c.args.cpu.0 true _ _ _ _ _ _ c.group_on-group.ensures.group
    (λ i. changes.Leave (c.side-child.ensures.side i) c.args.walk.child_on)
    (λ i. Some (c.swap_next-next.ensures.next i))

pub walk_at-requires-clause-below : goal.walk_at-requires-clause-below
walk_at-requires-clause-below g c made =
    below_here c.args.core.now.tree c.args.cpu.0 c.args.walk.level c.group_on-group.result.0
    (level_here c.args.core.now c.kept.ensures.fits c.args.cpu.0 c.args.walk stages.Swap c.requires.stands (λ e. cc))
    c.group_on-group.ensures.group

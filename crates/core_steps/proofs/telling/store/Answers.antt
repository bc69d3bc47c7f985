use Rattle.std.proofs.Common.{sym, subst, ap, ◌∙◌, false, Some, arith}
use Rattle.walk_rules.specs.declared.walk.Stage.TheVariants as stages
use Rattle.walk_rules.specs.Stages.{store_next}
use Rattle.core_state.specs.Changes as changes
use Rattle.core_state.specs.Kept.{WorldFits}
use Rattle.core_state.proofs.Making.{walk_moved}
use Rattle.core_steps.proofs.Standing.{level_here, walked_fits}
use Rattle.core_steps.proofs.telling.store.Goals as goal

pub walk_at-requires-clause-group : goal.walk_at-requires-clause-group
walk_at-requires-clause-group g c =
    c.group_on-group.ensures.in_range
    (level_here c.args.core.now c.kept.ensures.fits c.args.cpu.0 c.args.walk stages.Store c.requires.stands (λ e. cc))

pub walk_at-requires-clause-fits : goal.walk_at-requires-clause-fits
walk_at-requires-clause-fits g c =
    subst WorldFits
    (sym
    (walk_moved c.args.core.now c.args.cpu.0 false _ _ _ _ _ _ c.group_on-group.ensures.group
    (λ i. changes.Store (c.side-child.ensures.side i) (c.stored_event-event.ensures.event i))
    (λ i. Some ((c.store_next-next.ensures.next ∙ ap (λ t. store_next t c.args.walk) c.at_top-top.ensures.top) i))))
    (walked_fits c.args.core.now c.args.cpu c.args.walk stages.Store c.kept.ensures.stays c.requires.stands)

pub returns : goal.returns
returns g c =
    c.walk_at.ensures
    ∙ walk_moved c.args.core.now c.args.cpu.0 false _ _ _ _ _ _ c.group_on-group.ensures.group
    (λ i. changes.Store (c.side-child.ensures.side i) (c.stored_event-event.ensures.event i))
    (λ i. Some ((c.store_next-next.ensures.next ∙ ap (λ t. store_next t c.args.walk) c.at_top-top.ensures.top) i))

pub at_top-top-requires-clause-level : goal.at_top-top-requires-clause-level
at_top-top-requires-clause-level g c =
    let low = c.kept.ensures.levels c.args.cpu.0 c.args.walk.level (level_here c.args.core.now c.kept.ensures.fits c.args.cpu.0 c.args.walk stages.Store c.requires.stands (λ e. cc)) in omega (arith, low)

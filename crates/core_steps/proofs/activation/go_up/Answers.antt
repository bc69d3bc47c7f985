use Rattle.std.proofs.Common.{sym, subst, ap, ◌∙◌, true, arith}
use Rattle.std.specs.Prelude.{is_none}
use Rattle.walk_rules.specs.declared.walk.Stage.TheVariants as stages
use Rattle.walk_rules.specs.Stages.{up_next}
use Rattle.core_world.specs.World.{group_of}
use Rattle.core_state.specs.Changes as changes
use Rattle.core_state.specs.Kept.{WorldFits}
use Rattle.core_state.proofs.Making.{walk_moved}
use Rattle.core_steps.proofs.Standing.{below_here, level_here, walked_fits}
use Rattle.core_steps.proofs.activation.go_up.Goals as goal

pub walk_at-requires-clause-group : goal.walk_at-requires-clause-group
walk_at-requires-clause-group g c =
    c.group_on-group.ensures.in_range
    (level_here c.args.core.now c.kept.ensures.fits c.args.cpu.0 c.args.walk stages.Up c.requires.stands (λ e. cc))

pub walk_at-requires-clause-fits : goal.walk_at-requires-clause-fits
walk_at-requires-clause-fits g c =
    subst WorldFits
    (sym
    (walk_moved c.args.core.now c.args.cpu.0 true _ _ _ _ _ _ c.group_on-group.ensures.group
    (λ i. changes.Join (c.side-child.ensures.side i))
    (c.up_next-next.ensures.next ∙ (λ i. up_next (c.at_top-top.ensures.top i) ((c.is_off-more.ensures.off ∙ ap (λ h. is_none (group_of c.args.core.now h).migrator) c.group_on-group.ensures.group) i) c.args.walk))))
    (walked_fits c.args.core.now c.args.cpu c.args.walk stages.Up c.kept.ensures.stays c.requires.stands)

pub returns : goal.returns
returns g c =
    c.walk_at.ensures
    ∙ walk_moved c.args.core.now c.args.cpu.0 true _ _ _ _ _ _ c.group_on-group.ensures.group
    (λ i. changes.Join (c.side-child.ensures.side i))
    (c.up_next-next.ensures.next ∙ (λ i. up_next (c.at_top-top.ensures.top i) ((c.is_off-more.ensures.off ∙ ap (λ h. is_none (group_of c.args.core.now h).migrator) c.group_on-group.ensures.group) i) c.args.walk))

pub at_top-top-requires-clause-level : goal.at_top-top-requires-clause-level
at_top-top-requires-clause-level g c =
    let low = c.kept.ensures.levels c.args.cpu.0 c.args.walk.level (level_here c.args.core.now c.kept.ensures.fits c.args.cpu.0 c.args.walk stages.Up c.requires.stands (λ e. cc)) in omega (arith, low)

pub is_off-more-requires : goal.is_off-more-requires
is_off-more-requires g c =
    c.group_on-group.ensures.in_range (level_here c.args.core.now c.kept.ensures.fits c.args.cpu.0 c.args.walk stages.Up c.requires.stands (λ e. cc))

pub walk_at-requires-clause-below : goal.walk_at-requires-clause-below
walk_at-requires-clause-below g c made =
    below_here c.args.core.now.tree c.args.cpu.0 c.args.walk.level c.group_on-group.result.0
    (level_here c.args.core.now c.kept.ensures.fits c.args.cpu.0 c.args.walk stages.Up c.requires.stands (λ e. cc))
    c.group_on-group.ensures.group

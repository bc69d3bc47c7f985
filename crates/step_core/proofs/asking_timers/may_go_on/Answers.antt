use Rattle.walk_rules.specs.declared.walk.Stage.TheVariants as stages
use Rattle.core_steps.proofs.Standing.{fit_at, level_at, lower_level}
use Rattle.step_core.proofs.asking_timers.may_go_on.Goals as goal

pub is_unlocked-requires : goal.is_unlocked-requires
is_unlocked-requires g c =
    c.group_below-group.ensures.in_range
    (lower_level c.args.core.now.tree c.args.cpu.0 c.args.walk.level c.kept.ensures.hierarchy
    ((fit_at c.args.core.now c.kept.ensures.fits c.args.cpu.0 c.args.walk stages.LockChild c.requires.walk
    c.in-LockChild.is (λ e. cc)).1)
    (level_at c.args.core.now c.kept.ensures.fits c.args.cpu.0 c.args.walk stages.LockChild c.requires.walk
    c.in-LockChild.is (λ e. cc)))

pub is_unlocked-requires-in-LockGroup : goal.is_unlocked-requires-in-LockGroup
is_unlocked-requires-in-LockGroup g c =
    c.group_on-group.ensures.in_range
    (level_at c.args.core.now c.kept.ensures.fits c.args.cpu.0 c.args.walk stages.LockGroup c.requires.walk
    c.in-LockGroup.is (λ e. cc))

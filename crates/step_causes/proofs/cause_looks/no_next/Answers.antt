use Rattle.step_causes.proofs.CauseLaws.{child_level, group_level}
use Rattle.step_causes.proofs.cause_looks.no_next.Goals as goal

pub no_lock-requires : goal.no_lock-requires
no_lock-requires g c =
    c.group_below-group.ensures.in_range
    (child_level c.args.core.now c.kept.ensures.fits c.args.cpu.0 c.args.walk c.requires.walk
    c.in-LockChild.is)

pub no_lock-requires-in-LockGroup : goal.no_lock-requires-in-LockGroup
no_lock-requires-in-LockGroup g c =
    c.group_on-group.ensures.in_range
    (group_level c.args.core.now c.kept.ensures.fits c.args.cpu.0 c.args.walk c.requires.walk
    c.in-LockGroup.is)

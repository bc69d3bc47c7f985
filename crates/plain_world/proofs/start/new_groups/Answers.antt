use Rattle.std.proofs.Common.{◌∙◌}
use Rattle.plain_world.proofs.Starts.{one_more_group}
use Rattle.plain_world.proofs.start.new_groups.Goals as goal

pub loop-group-preserved : goal.loop-group-preserved
loop-group-preserved c =
    c.in_ok-push.ensures.items
    ∙ one_more_group c.args.tree.now c.loop-group.group c.loop-group.groups.items c.new_group.result
    c.loop-group.invariant c.new_group.ensures

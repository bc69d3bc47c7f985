use Rattle.plain_world.proofs.Worlds.{walk_moved}
use Rattle.std.proofs.Common.{Some, ap, false, ◌∙◌}
use Rattle.walk_rules.specs.Stages.{at_stage}
use Rattle.core_parts.specs.declared.change.GroupChange.TheVariants as changes
use Rattle.plain_world.proofs.walking.lock_group.Goals as goal

pub returns : goal.returns
returns c =
    c.walk_at.ensures
    ∙ walk_moved c.args.world.now c.args.cpu.0 false _ _ _ _ _ _ c.group_on-group.ensures
    (λ i. changes.Lock c.args.cpu.0)
    (λ i. Some
    ((c.at_stage-next.ensures.next ∙ ap (at_stage c.args.walk) c.first_sight-stage.ensures) i))

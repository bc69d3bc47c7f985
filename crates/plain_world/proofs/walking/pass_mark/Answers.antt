use Rattle.plain_world.proofs.Worlds.{walk_moved}
use Rattle.std.proofs.Common.{ap, false, ◌∙◌}
use Rattle.walk_rules.specs.Hierarchy.{group_on, side}
use Rattle.core_parts.specs.declared.change.GroupChange.TheVariants as changes
use Rattle.plain_world.proofs.walking.pass_mark.Goals as goal

pub returns : goal.returns
returns c =
    c.walk_at.ensures
    ∙ walk_moved c.args.world.now c.args.cpu.0 false _ _ _ _ _ _
    (c.group_on-group.ensures
    ∙ ap (group_on c.args.world.now.tree c.args.cpu.0) c.above-level.ensures)
    (λ i. changes.Mark
    ((c.side-child.ensures.side
    ∙ ap (side c.args.world.now.tree c.args.cpu.0) c.above-level.ensures) i))
    c.mark_next-next.ensures.next

use Rattle.plain_world.proofs.Worlds.{walk_moved}
use Rattle.std.proofs.Common.{Some, true, ◌∙◌}
use Rattle.core_parts.specs.declared.change.GroupChange.TheVariants as changes
use Rattle.plain_world.proofs.walking.exchange.Goals as goal

pub returns : goal.returns
returns c =
    c.walk_at.ensures
    ∙ walk_moved c.args.world.now c.args.cpu.0 true _ _ _ _ _ _ c.group_on-group.ensures
    (λ i. changes.Leave (c.side-child.ensures.side i) c.args.walk.child_on)
    (λ i. Some (c.swap_next-next.ensures.next i))

use Rattle.plain_world.proofs.Worlds.{walk_moved}
use Rattle.std.proofs.Common.{Some, false, ◌∙◌}
use Rattle.core_parts.specs.declared.change.GroupChange.TheVariants as changes
use Rattle.plain_world.proofs.walking.free_group.Goals as goal

pub returns : goal.returns
returns c =
    c.walk_at.ensures
    ∙ walk_moved c.args.world.now c.args.cpu.0 false _ _ _ _ _ _ c.group_on-group.ensures
    (λ i. changes.Free)
    (λ i. Some (c.free_group_next-next.ensures.next i))

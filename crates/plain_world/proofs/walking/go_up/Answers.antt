use Rattle.core_world.specs.World.{group_of}
use Rattle.plain_world.proofs.Worlds.{walk_moved}
use Rattle.std.proofs.Common.{ap, true, ◌∙◌}
use Rattle.std.specs.Prelude.{is_none}
use Rattle.walk_rules.specs.Stages.{up_next}
use Rattle.core_parts.specs.declared.change.GroupChange.TheVariants as changes
use Rattle.plain_world.proofs.walking.go_up.Goals as goal

pub returns : goal.returns
returns c =
    c.walk_at.ensures
    ∙ walk_moved c.args.world.now c.args.cpu.0 true _ _ _ _ _ _ c.group_on-group.ensures
    (λ i. changes.Join (c.side-child.ensures.side i))
    (c.up_next-next.ensures.next
    ∙ (λ i. up_next (c.at_top-top.ensures i)
    ((c.is_off-more.ensures
    ∙ ap (λ h. is_none (group_of c.args.world.now h).migrator) c.group_on-group.ensures) i)
    c.args.walk))

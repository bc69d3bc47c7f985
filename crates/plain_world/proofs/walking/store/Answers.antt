use Rattle.plain_world.proofs.Worlds.{walk_moved}
use Rattle.std.proofs.Common.{Some, ap, false, ◌∙◌}
use Rattle.walk_rules.specs.Stages.{store_next}
use Rattle.core_parts.specs.declared.change.GroupChange.TheVariants as changes
use Rattle.plain_world.proofs.walking.store.Goals as goal

pub returns : goal.returns
returns c =
    c.walk_at.ensures
    ∙ walk_moved c.args.world.now c.args.cpu.0 false _ _ _ _ _ _ c.group_on-group.ensures
    (λ i. changes.Store (c.side-child.ensures.side i) (c.stored_event-event.ensures.event i))
    (λ i. Some
    ((c.store_next-next.ensures.next ∙ ap (λ t. store_next t c.args.walk) c.at_top-top.ensures) i))

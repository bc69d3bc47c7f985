use Rattle.core_world.specs.Steps.{with_walk}
use Rattle.core_world.specs.World.{cpu_of, group_of, own}
use Rattle.core_world.specs.event_queue.EventMap.{event_at}
use Rattle.std.proofs.Common.{Some, ap, ◌∙◌}
use Rattle.walk_rules.specs.Stages.{first_next}
use Rattle.plain_world.proofs.walking.read_first.Goals as goal

pub returns : goal.returns
returns c =
    c.set_walk.ensures
    ∙ ap (λ m. own c.args.world.now c.args.cpu.0
    (with_walk (cpu_of c.args.world.now c.args.cpu.0) m))
    (ap Some (c.first_next-next.ensures.next
    ∙ (λ i. first_next ((c.event_of-event.ensures
    ∙ ap (λ h. event_at (group_of c.args.world.now h).events c.args.k) c.group_on-group.ensures) i)
    c.args.k c.args.walk)))

use Rattle.core_world.specs.Steps.{with_walk}
use Rattle.core_world.specs.World.{cpu_of, own}
use Rattle.std.proofs.Common.{Some, ap, ◌∙◌}
use Rattle.walk_rules.specs.Stages.{child_next}
use Rattle.plain_world.proofs.walking.read_child.Goals as goal

pub returns : goal.returns
returns c =
    c.set_walk.ensures
    ∙ ap (λ m. own c.args.world.now c.args.cpu.0
    (with_walk (cpu_of c.args.world.now c.args.cpu.0) m))
    (ap Some (c.child_next-next.ensures.next
    ∙ ap (λ o. child_next o c.args.walk) c.child_on-child_on.ensures))

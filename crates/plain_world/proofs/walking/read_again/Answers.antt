use Rattle.core_world.specs.Steps.{with_walk}
use Rattle.core_world.specs.World.{cpu_of, own}
use Rattle.std.proofs.Common.{Some, ap, ◌∙◌}
use Rattle.plain_world.proofs.walking.read_again.Goals as goal

pub returns : goal.returns
returns c =
    c.set_walk.ensures
    ∙ ap (λ m. own c.args.world.now c.args.cpu.0
    (with_walk (cpu_of c.args.world.now c.args.cpu.0) m))
    (λ i. Some (c.swap_next-next.ensures.next i))

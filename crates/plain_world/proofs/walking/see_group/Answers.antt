use Rattle.core_world.specs.Steps.{with_walk}
use Rattle.core_world.specs.World.{cpu_of, group_of, own}
use Rattle.std.proofs.Common.{Some, ap, ◌∙◌}
use Rattle.std.specs.Prelude.{is_some}
use Rattle.walk_rules.specs.Stages.{see_group_next}
use Rattle.plain_world.proofs.walking.see_group.Goals as goal

pub returns : goal.returns
returns c =
    c.set_walk.ensures
    ∙ ap (λ m. own c.args.world.now c.args.cpu.0
    (with_walk (cpu_of c.args.world.now c.args.cpu.0) m))
    (ap Some (c.see_group_next-next.ensures.next
    ∙ (λ i. see_group_next
    ((c.is_on-on.ensures
    ∙ ap (λ h. is_some (group_of c.args.world.now h).migrator) c.group_on-group.ensures) i)
    (c.at_top-top.ensures i) c.args.walk)))

use Rattle.std.proofs.Common.{◌<◌, subst, sym}
use Rattle.orders_world.specs.Answering.{IsAnswer}
use Rattle.tree_plan.specs.Paths.{group_count_of}
use Rattle.orders_sights.proofs.SeenLaws.{held_known}
use Rattle.orders_sights.proofs.timers.shown_as.Goals as goal

pub place-requires : goal.place-requires
place-requires c =
    let w = c.args.world.now in
    subst (λ z. c.in-Held.group.0 < group_count_of z) (sym c.tree-tree.ensures.tree)
    (held_known w (c.law_paths.ensures w.tree c.tree-tree.ensures.planned) c.args.cpu.0
    c.args.wheel c.in-Held.level c.in-Held.group.0 c.in-Held.cpu.0
    (subst (IsAnswer w c.args.cpu.0 c.args.wheel) c.in-Held.is c.requires))

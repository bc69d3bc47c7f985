use Rattle.std.proofs.Common.{◌<◌, subst, sym}
use Rattle.tree_plan.specs.Paths.{group_count_of}
use Rattle.orders_sights.proofs.SeenLaws.{child_known}
use Rattle.orders_sights.proofs.groups.leader_of.Goals as goal

pub level-requires : goal.level-requires
level-requires c =
    let t = c.args.world.now.tree in
    subst (λ z. c.in-Group.below.0 < group_count_of z) (sym c.tree-tree.ensures.tree)
    (child_known t (c.law_edges.ensures t c.tree-tree.ensures.planned) c.args.group.0
    c.args.number c.args.child c.in-Group.below c.requires c.in-Group.is)

pub place-requires : goal.place-requires
place-requires c =
    let t = c.args.world.now.tree in
    subst (λ z. c.in-Group.below.0 < group_count_of z) (sym c.tree-tree.ensures.tree)
    (child_known t (c.law_edges.ensures t c.tree-tree.ensures.planned) c.args.group.0
    c.args.number c.args.child c.in-Group.below c.requires c.in-Group.is)

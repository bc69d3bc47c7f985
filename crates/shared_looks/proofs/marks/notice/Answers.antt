use Rattle.std.proofs.Common.{sym, ap, ◌∙◌, subst}
use Rattle.tree_plan.specs.Paths.{group_at_of}
use Rattle.walk_rules.specs.Hierarchy.{HasGroup}
use Rattle.core_world.specs.World.{World}
use Rattle.shared_cpus.specs.shared_rule.declared.parts.BoxView.{BoxView}
use Rattle.shared_cpus.specs.shared_rule.Parts.{HeldPart}
use Rattle.shared_cpus.specs.Pairs.{HasOne, cpu_place}
use Rattle.shared_looks.proofs.Marked.{box_after, has_group, one_after}
use Rattle.shared_looks.proofs.marks.notice.Goals as goal

pub see_leaf-requires-clause-brought : goal.see_leaf-requires-clause-brought
see_leaf-requires-clause-brought g c =
    let part : HeldPart = c.args.part.now in
    subst HasOne (sym c.see_cpu.ensures.seen)
    (one_after (cpu_place part.box.opening part.box.cpu) c.see_cpu.result part c.requires)

pub see_leaf-requires-clause-leaf : goal.see_leaf-requires-clause-leaf
see_leaf-requires-clause-leaf g c =
    let o : World = g.N.RunName.opening in
    let part : HeldPart = c.args.part.now in
    let box = ap (λ (z : HeldPart). z.box) c.see_cpu.ensures.seen
    ∙ box_after (cpu_place part.box.opening part.box.cpu) c.see_cpu.result part in
    subst (λ (b : BoxView). HasGroup b.opening.tree b.cpu) (sym box)
    (has_group o part.box c.group_at-leaf.result c.in-Some._group c.in-Some.is c.law.ensures.opening
    (c.group_at-leaf.ensures.path ∙ ap (λ n. group_at_of o.tree n 0) c.cpu.ensures))

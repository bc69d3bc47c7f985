use Rattle.std.proofs.Common.{arith}
use Rattle.tree_plan.proofs.Stored.{is_planned, group_total}
use Rattle.tree_plan.proofs.Trees.{cut_laws}
use Rattle.tree_plan.proofs.hierarchy.Tree.group_count.Goals as goal

pub overflow_cast-result : goal.overflow_cast-result
overflow_cast-result c =
    let s = c.self.inside in
    let planned = is_planned s.nodes s.cpus s.isolated s.placed.items s.groups.items s.firsts.items s.links.items s.seats.items c.self.invariant c.args.self.now c.self.view_is in
    omega (arith, c.len.ensures, group_total s.nodes s.cpus s.isolated s.placed.items s.groups.items s.firsts.items s.links.items s.seats.items c.self.invariant c.args.self.now c.self.view_is, (cut_laws c.args.self.now planned).at_most_73_groups)

pub returns : goal.returns
returns c =
    let s = c.self.inside in
    omega (arith, c.len.ensures, group_total s.nodes s.cpus s.isolated s.placed.items s.groups.items s.firsts.items s.links.items s.seats.items c.self.invariant c.args.self.now c.self.view_is)

use Rattle.std.proofs.Common.{arith, ap, ◌∙◌, get_or}
use Rattle.std.proofs.lemmas.Option.{get_or_from_slice_get}
use Rattle.tree_plan.proofs.Stored.{group_total, group_is}
use Rattle.tree_plan.proofs.hierarchy.Tree.group.Goals as goal

pub index-requires : goal.index-requires
index-requires c =
    let s = c.self.inside in
    omega (arith, c.requires, c.from.ensures, group_total s.nodes s.cpus s.isolated s.placed.items s.groups.items s.firsts.items s.links.items s.seats.items c.self.invariant c.args.self.now c.self.view_is)

pub returns : goal.returns
returns c =
    let s = c.self.inside in
    let kept = group_is s.nodes s.cpus s.isolated s.placed.items s.groups.items s.firsts.items s.links.items s.seats.items c.self.invariant c.args.self.now c.self.view_is c.args.g.0 c.requires in
    c.index.ensures ∙ (ap (λ i. get_or s.groups.items i c.index.result.now) c.from.ensures ∙ get_or_from_slice_get s.groups.items c.args.g.0 _ c.index.result.now kept)

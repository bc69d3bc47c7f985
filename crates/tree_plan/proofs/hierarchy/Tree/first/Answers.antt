use Rattle.std.proofs.Common.{arith, ap, ◌∙◌, get_or}
use Rattle.std.proofs.lemmas.Option.{get_or_from_slice_get}
use Rattle.tree_plan.proofs.Stored.{is_planned, first_total, first_is}
use Rattle.tree_plan.proofs.hierarchy.Tree.first.Goals as goal

pub index-requires : goal.index-requires
index-requires c =
    let s = c.self.inside in
    omega (arith, c.requires, c.from.ensures, first_total s.nodes s.cpus s.isolated s.placed.items s.groups.items s.firsts.items s.links.items s.seats.items c.self.invariant c.args.self.now c.self.view_is)

pub returns-clause-first : goal.returns-clause-first
returns-clause-first c =
    let s = c.self.inside in
    let kept = first_is s.nodes s.cpus s.isolated s.placed.items s.groups.items s.firsts.items s.links.items s.seats.items c.self.invariant c.args.self.now c.self.view_is c.args.g.0 c.requires in
    c.index.ensures ∙ (ap (λ i. get_or s.firsts.items i c.index.result.now) c.from.ensures ∙ get_or_from_slice_get s.firsts.items c.args.g.0 _ c.index.result.now kept)

pub returns-clause-planned : goal.returns-clause-planned
returns-clause-planned c =
    let s = c.self.inside in
    is_planned s.nodes s.cpus s.isolated s.placed.items s.groups.items s.firsts.items s.links.items s.seats.items c.self.invariant c.args.self.now c.self.view_is

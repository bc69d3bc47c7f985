use Rattle.std.proofs.Common.{arith, ap, ◌∙◌, get_or}
use Rattle.std.proofs.lemmas.Option.{get_or_from_slice_get}
use Rattle.tree_plan.proofs.Stored.{is_planned, cpu_link, seat_total}
use Rattle.tree_plan.proofs.hierarchy.Tree.cpu_link.Goals as goal

pub index-requires : goal.index-requires
index-requires c =
    let s = c.self.inside in
    omega (arith, c.requires, c.from.ensures, seat_total s.nodes s.cpus s.isolated s.placed.items s.groups.items s.firsts.items s.links.items s.seats.items c.self.invariant c.args.self.now c.self.view_is)

pub returns-clause-link : goal.returns-clause-link
returns-clause-link c =
    let s = c.self.inside in
    let kept = cpu_link s.nodes s.cpus s.isolated s.placed.items s.groups.items s.firsts.items s.links.items s.seats.items c.self.invariant c.args.self.now c.self.view_is c.args.c.0 c.requires in
    c.index.ensures ∙ (ap (λ i. get_or s.seats.items i c.index.result.now) c.from.ensures ∙ get_or_from_slice_get s.seats.items c.args.c.0 _ c.index.result.now kept)

pub returns-clause-planned : goal.returns-clause-planned
returns-clause-planned c =
    let s = c.self.inside in
    is_planned s.nodes s.cpus s.isolated s.placed.items s.groups.items s.firsts.items s.links.items s.seats.items c.self.invariant c.args.self.now c.self.view_is

use Rattle.std.proofs.Common.{◌≡◌, ◌+◌, ◌∙◌, length, arith}
use Rattle.std.specs.Prelude.{slice_get}
use Rattle.tree_plan.proofs.Stored.{is_planned, group_link, copied_get}
use Rattle.tree_plan.proofs.hierarchy.Tree.group_link.Goals as goal

pub returns-clause-link : goal.returns-clause-link
returns-clause-link c =
    let s = c.self.inside in
    let index : c.len.result + c.from.result ≡ length s.placed.items + c.args.g.0 = omega (arith, c.len.ensures, c.from.ensures) in
    c.copied.ensures ∙ (copied_get c.deref.result.now (c.len.result + c.from.result) c.get.result c.get.ensures.lookup
    ∙ ((λ i. slice_get (c.deref.ensures.value i) (index i))
    ∙ group_link s.nodes s.cpus s.isolated s.placed.items s.groups.items s.firsts.items s.links.items s.seats.items c.self.invariant c.args.self.now c.self.view_is c.args.g.0 c.requires))

pub returns-clause-planned : goal.returns-clause-planned
returns-clause-planned c =
    let s = c.self.inside in
    is_planned s.nodes s.cpus s.isolated s.placed.items s.groups.items s.firsts.items s.links.items s.seats.items c.self.invariant c.args.self.now c.self.view_is

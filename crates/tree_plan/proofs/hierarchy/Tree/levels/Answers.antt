use Rattle.std.proofs.Common.{◌-◌, length, ap, sym, ◌∙◌, arith}
use Rattle.std.specs.Prelude.{slice_get}
use Rattle.tree_plan.proofs.Stored.{is_planned, top_level, no_level}
use Rattle.tree_plan.proofs.Trees.{cut_laws}
use Rattle.tree_plan.proofs.hierarchy.Tree.levels.Goals as goal

pub overflow_add-result : goal.overflow_add-result
overflow_add-result c =
    let s = c.self.inside in
    let planned = is_planned s.nodes s.cpus s.isolated s.placed.items s.groups.items s.firsts.items s.links.items s.seats.items c.self.invariant c.args.self.now c.self.view_is in
    let top = top_level s.nodes s.cpus s.isolated s.placed.items s.groups.items s.firsts.items s.links.items s.seats.items c.self.invariant c.args.self.now c.self.view_is c.in-Some.top.now (sym (c.in-Some.ensures.value ∙ ap (λ gs. slice_get gs (length gs - 1)) c.deref.ensures.value)) in
    omega (arith, top, (cut_laws c.args.self.now planned).at_most_3_levels)

pub returns-in-Some : goal.returns-in-Some
returns-in-Some c =
    let s = c.self.inside in
    top_level s.nodes s.cpus s.isolated s.placed.items s.groups.items s.firsts.items s.links.items s.seats.items c.self.invariant c.args.self.now c.self.view_is c.in-Some.top.now (sym (c.in-Some.ensures.value ∙ ap (λ gs. slice_get gs (length gs - 1)) c.deref.ensures.value))

pub returns-in-None : goal.returns-in-None
returns-in-None c =
    let s = c.self.inside in
    no_level s.nodes s.cpus s.isolated s.placed.items s.groups.items s.firsts.items s.links.items s.seats.items c.self.invariant c.args.self.now c.self.view_is (sym (c.in-None.ensures.value ∙ ap (λ gs. slice_get gs (length gs - 1)) c.deref.ensures.value))

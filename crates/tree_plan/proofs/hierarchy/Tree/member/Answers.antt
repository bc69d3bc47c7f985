use Rattle.std.proofs.Common.{◌≡◌, ◌≤◌, ◌∙◌, length, Some, arith, refl, sym, ap, ◌-◌}
use Rattle.std.specs.Prelude.{slice_get}
use Rattle.std.proofs.lemmas.Option.{slice_get_read}
use Rattle.tree_plan.specs.Paths.{placed_of}
use Rattle.tm_base.specs.Children.{of_group}
use Rattle.tree_plan.proofs.Children.{cpu_stands, group_low, group_stands}
use Rattle.tree_plan.proofs.Stored.{is_planned, placed_is, placed_total}
use Rattle.tree_plan.proofs.Trees.{cut_laws}
use Rattle.tree_plan.proofs.hierarchy.Tree.member.Goals as goal

pub returns-in-Some : goal.returns-in-Some
returns-in-Some c =
    let s = c.self.inside in
    let planned = is_planned s.nodes s.cpus s.isolated s.placed.items s.groups.items s.firsts.items s.links.items s.seats.items c.self.invariant c.args.self.now c.self.view_is in
    let found = c.in-Some.ensures.lookup in
    let read = slice_get_read c.deref.result.now (length c.deref.result.now) c.args.index c.in-Some.cpu.now refl found.3.0 found.1 in
    cpu_stands c.args.self.now planned c.args.index c.requires c.in-Some.cpu.now
    (ap (λ cpus. slice_get cpus c.args.index) (sym (c.deref.ensures.value ∙ placed_is s.nodes s.cpus s.isolated s.placed.items s.groups.items s.firsts.items s.links.items s.seats.items c.self.invariant c.args.self.now c.self.view_is)) ∙ read)

pub overflow_cast-result : goal.overflow_cast-result
overflow_cast-result c =
    let s = c.self.inside in
    let planned = is_planned s.nodes s.cpus s.isolated s.placed.items s.groups.items s.firsts.items s.links.items s.seats.items c.self.invariant c.args.self.now c.self.view_is in
    let past : length (placed_of c.args.self.now) ≤ c.args.index = omega (arith, c.in-None.ensures.lookup.3, ap length c.deref.ensures.value, placed_total s.nodes s.cpus s.isolated s.placed.items s.groups.items s.firsts.items s.links.items s.seats.items c.self.invariant c.args.self.now c.self.view_is) in
    omega (arith, group_low c.args.self.now planned c.args.index c.requires past, (cut_laws c.args.self.now planned).at_most_73_groups, c.len.ensures, placed_total s.nodes s.cpus s.isolated s.placed.items s.groups.items s.firsts.items s.links.items s.seats.items c.self.invariant c.args.self.now c.self.view_is)

pub returns-in-None : goal.returns-in-None
returns-in-None c =
    let s = c.self.inside in
    let planned = is_planned s.nodes s.cpus s.isolated s.placed.items s.groups.items s.firsts.items s.links.items s.seats.items c.self.invariant c.args.self.now c.self.view_is in
    let past : length (placed_of c.args.self.now) ≤ c.args.index = omega (arith, c.in-None.ensures.lookup.3, ap length c.deref.ensures.value, placed_total s.nodes s.cpus s.isolated s.placed.items s.groups.items s.firsts.items s.links.items s.seats.items c.self.invariant c.args.self.now c.self.view_is) in
    let number : c.args.index - length (placed_of c.args.self.now) ≡ c.args.index - c.len.result = omega (arith, c.len.ensures, placed_total s.nodes s.cpus s.isolated s.placed.items s.groups.items s.firsts.items s.links.items s.seats.items c.self.invariant c.args.self.now c.self.view_is) in
    group_stands c.args.self.now planned c.args.index c.requires past ∙ ap (λ k. Some (of_group k)) number

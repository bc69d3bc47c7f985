use Rattle.std.proofs.Common.{◌*◌, ap, arith, length}
use Rattle.tree_plan.proofs.Stored.{plan_total, plan_firsts, plan_links, plan_stored}
use Rattle.tree_plan.proofs.hierarchy.plan.Goals as goal

pub first_children-requires : goal.first_children-requires
first_children-requires c =
    omega (arith, ap length c.as_slice.ensures.value, plan_total c.args.nodes c.args.cpus c.args.isolated.now c.in_ok-groups.groups.items c.requires c.in_ok-groups.ensures)

pub link_children-requires : goal.link_children-requires
link_children-requires c =
    omega (arith, ap length c.as_slice-2.ensures.value, plan_total c.args.nodes c.args.cpus c.args.isolated.now c.in_ok-groups.groups.items c.requires c.in_ok-groups.ensures)

pub invariant_of-result : goal.invariant_of-result
invariant_of-result c =
    let isolated = c.args.isolated.now in
    let groups = c.in_ok-groups.groups.items in
    let firsts = c.in_ok-firsts.firsts.items in
    let links = c.in_ok-links.links.items in
    plan_stored c.args.nodes c.args.cpus isolated c.copy.result (c.from.result * c.from-2.result) c.in_ok-placed.placed.items groups firsts links c.as_slice-3.result.now c.in_ok-seats.seats.items c.requires c.copy.ensures (λ i. c.from.ensures i * c.from-2.ensures i) c.in_ok-placed.ensures c.in_ok-groups.ensures
    (plan_firsts c.args.nodes c.args.cpus isolated groups c.as_slice.result.now firsts c.in_ok-groups.ensures c.as_slice.ensures.value c.in_ok-firsts.ensures)
    (plan_links c.args.nodes c.args.cpus isolated groups c.as_slice-2.result.now links c.in_ok-groups.ensures c.as_slice-2.ensures.value c.in_ok-links.ensures)
    c.as_slice-3.ensures.value c.in_ok-seats.ensures

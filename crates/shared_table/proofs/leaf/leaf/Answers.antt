use Rattle.std.proofs.Common.{rules, ◌≡◌, Some, length, refl, ap, ◌∙◌, arith}
use Rattle.std.proofs.lemmas.List.{get_or_read_under}
use Rattle.std.specs.Prelude.{slice_index_or}
use Rattle.tm_base.specs.Children.{of_cpu}
use Rattle.event_queue.specs.EventMap.{event_at}
use Rattle.tree_plan.specs.Paths.{bit_of, group_at_of}
use Rattle.walk_rules.specs.Scene.{Group, no_group}
use Rattle.shared_table.proofs.Leaves.{leaf_there}
use Rattle.shared_table.proofs.leaf.leaf.Goals as goal

pub returns : goal.returns
returns c = λ o tree same.
    let t = c.args.tree.now in
    let cpu = c.args.cpu.0 in
    let at : group_at_of t cpu 0 ≡ Some c.in_ok-group.group.0 = search rules in
    let low = (c.law_hierarchy.ensures t c.cpu_count.ensures.planned).within cpu 0
    c.in_ok-group.group.0 at in
    let there : c.index-groups-from.result
    ≡ slice_index_or c.args.groups.now c.in_ok-group.group.0 no_group
    = get_or_read_under c.args.groups.now c.from.result (length c.args.groups.now)
    c.index-groups-from.result no_group c.index-groups-from.is
    (omega (arith, low, c.requires.groups, c.from.ensures)) refl
    ∙ ap (λ i. slice_index_or c.args.groups.now i no_group) c.from.ensures in
    let found : c.get.result
    ≡ event_at (slice_index_or c.args.groups.now c.in_ok-group.group.0 no_group).events
    (bit_of t (of_cpu cpu))
    = c.get.ensures.exact
    ∙ (ap (λ e. event_at e c.cpu_bit.result) (c.events.ensures ∙ ap (λ (x : Group). x.events) there)
    ∙ ap (event_at (slice_index_or c.args.groups.now c.in_ok-group.group.0 no_group).events)
    c.cpu_bit.ensures) in
    found ∙ leaf_there o t c.args.groups.now cpu c.in_ok-group.group.0 tree same at

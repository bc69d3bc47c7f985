use Rattle.std.proofs.Common.{◌≡◌, ◌+◌, Some, None, sym, ap, ◌∙◌, arith}
use Rattle.tree_plan.specs.Paths.{group_at_of}
use Rattle.tree_plan.proofs.Stored.{parent_linked, parent_unlinked}
use Rattle.tree_plan.proofs.Climbs.{planned_paths, climbed, ended, none_where, none_isolated}
use Rattle.tree_plan.proofs.hierarchy.Tree.group_at.Goals as goal

pub returns-in_default-clause-group : goal.returns-in_default-clause-group
returns-in_default-clause-group c =
    let t = c.args.self.now in
    let no_leaf : group_at_of t c.args.c.0 0 ≡ None = (planned_paths t c.cpu_link.ensures.planned).leaf c.args.c.0 ∙ parent_unlinked t _ c.in_default.ensures.link in
    sym (ended t c.args.c.0 0 c.args.level no_leaf (omega arith))

pub returns-in_default-clause-none : goal.returns-in_default-clause-none
returns-in_default-clause-none c =
    let t = c.args.self.now in
    let no_leaf : group_at_of t c.args.c.0 0 ≡ None = (planned_paths t c.cpu_link.ensures.planned).leaf c.args.c.0 ∙ parent_unlinked t _ c.in_default.ensures.link in
    none_where t c.cpu_link.ensures.planned c.args.c.0 c.args.level None (sym (ended t c.args.c.0 0 c.args.level no_leaf (omega arith)))

pub returns-in_default-clause-isolated : goal.returns-in_default-clause-isolated
returns-in_default-clause-isolated c =
    let t = c.args.self.now in
    let no_leaf : group_at_of t c.args.c.0 0 ≡ None = (planned_paths t c.cpu_link.ensures.planned).leaf c.args.c.0 ∙ parent_unlinked t _ c.in_default.ensures.link in
    none_isolated t c.cpu_link.ensures.planned c.args.c.0 c.args.level None (sym (ended t c.args.c.0 0 c.args.level no_leaf (omega arith)))

pub loop-below-init : goal.loop-below-init
loop-below-init c =
    let t = c.args.self.now in
    (planned_paths t c.cpu_link.ensures.planned).leaf c.args.c.0 ∙ sym (parent_linked t _ c.in-Some.link c.in-Some.ensures.link)

pub parent-requires : goal.parent-requires
parent-requires c =
    (planned_paths c.args.self.now c.cpu_link.ensures.planned).group_within c.args.c.0 c.loop-below._below c.loop-below.at.0 c.loop-below.invariant

pub returns-in_default-parent-clause-group : goal.returns-in_default-parent-clause-group
returns-in_default-parent-clause-group c =
    let t = c.args.self.now in
    let l = c.loop-below._below in
    sym (ended t c.args.c.0 (l + 1) c.args.level (climbed t c.args.c.0 l c.loop-below.at.0 None c.loop-below.invariant c.in_default-parent.ensures.parent) (omega arith))

pub returns-in_default-parent-clause-none : goal.returns-in_default-parent-clause-none
returns-in_default-parent-clause-none c =
    let t = c.args.self.now in
    let l = c.loop-below._below in
    none_where t c.cpu_link.ensures.planned c.args.c.0 c.args.level None
    (sym (ended t c.args.c.0 (l + 1) c.args.level (climbed t c.args.c.0 l c.loop-below.at.0 None c.loop-below.invariant c.in_default-parent.ensures.parent) (omega arith)))

pub returns-in_default-parent-clause-isolated : goal.returns-in_default-parent-clause-isolated
returns-in_default-parent-clause-isolated c =
    let t = c.args.self.now in
    let l = c.loop-below._below in
    none_isolated t c.cpu_link.ensures.planned c.args.c.0 c.args.level None
    (sym (ended t c.args.c.0 (l + 1) c.args.level (climbed t c.args.c.0 l c.loop-below.at.0 None c.loop-below.invariant c.in_default-parent.ensures.parent) (omega arith)))

pub loop-below-preserved : goal.loop-below-preserved
loop-below-preserved c = climbed c.args.self.now c.args.c.0 c.loop-below._below c.loop-below.at.0 _ c.loop-below.invariant c.in-Some-parent.ensures.parent

pub returns-clause-none : goal.returns-clause-none
returns-clause-none c =
    let l = c.loop-below in
    let t = c.args.self.now in
    none_where t c.cpu_link.ensures.planned c.args.c.0 c.args.level (Some l.at) (sym (ap (group_at_of t c.args.c.0) (omega arith) ∙ l.invariant))

pub returns-clause-isolated : goal.returns-clause-isolated
returns-clause-isolated c =
    let l = c.loop-below in
    let t = c.args.self.now in
    none_isolated t c.cpu_link.ensures.planned c.args.c.0 c.args.level (Some l.at) (sym (ap (group_at_of t c.args.c.0) (omega arith) ∙ l.invariant))

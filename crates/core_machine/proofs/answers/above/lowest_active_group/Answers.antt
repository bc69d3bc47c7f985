use Rattle.std.proofs.Common.{◌≡◌, Some, None, arith, ap, sym, ◌∙◌}
use Rattle.tree_plan.specs.Paths.{group_at_of, level_count_of}
use Rattle.tree_plan.specs.Shape.{Shape}
use Rattle.core_machine.proofs.Covers.Lowest.{lowest_at, lowest_end, lowest_none, quiet_more}
use Rattle.core_machine.proofs.answers.above.lowest_active_group.Goals as goal

pub returns-in_default-clause-group : goal.returns-in_default-clause-group
returns-in_default-clause-group g c =
    let w = c.args.core.now in
    let at : group_at_of w.tree c.args.cpu.0 c.loop-level.level ≡ None =
    sym (c.in_default.ensures.group
    ∙ ap (λ (t : Shape). group_at_of t c.args.cpu.0 c.loop-level.level) c.tree-tree.ensures.tree) in
    sym (lowest_none w c.kept.ensures.fits.planned c.args.cpu.0 c.loop-level.level
    c.loop-level.invariant at)

pub returns-then-is_on-clause-group : goal.returns-then-is_on-clause-group
returns-then-is_on-clause-group g c =
    let w = c.args.core.now in
    let at : group_at_of w.tree c.args.cpu.0 c.loop-level.level ≡ Some c.in-Some.group.0 =
    sym (c.in-Some.ensures.group
    ∙ ap (λ (t : Shape). group_at_of t c.args.cpu.0 c.loop-level.level) c.tree-tree.ensures.tree) in
    sym (lowest_at w c.kept.ensures.fits.planned c.args.cpu.0 c.loop-level.level
    c.in-Some.group.0 c.loop-level.invariant at (sym c.is_on.ensures.on ∙ c.if-is_on.true))

pub loop-level-preserved : goal.loop-level-preserved
loop-level-preserved g c =
    let w = c.args.core.now in
    let at : group_at_of w.tree c.args.cpu.0 c.loop-level.level ≡ Some c.in-Some.group.0 =
    sym (c.in-Some.ensures.group
    ∙ ap (λ (t : Shape). group_at_of t c.args.cpu.0 c.loop-level.level) c.tree-tree.ensures.tree) in
    quiet_more w c.kept.ensures.fits.planned c.args.cpu.0 c.loop-level.level
    c.in-Some.group.0 c.loop-level.invariant at (sym c.is_on.ensures.on ∙ c.if-is_on.false)

pub returns-clause-group : goal.returns-clause-group
returns-clause-group g c =
    let w = c.args.core.now in
    let high = c.loop-level-test.false in
    let count = c.levels-level-end.ensures ∙ ap level_count_of c.tree-tree.ensures.tree in
    sym (lowest_end w c.kept.ensures.fits.planned c.args.cpu.0 c.loop-level.level
    c.loop-level.invariant (omega (arith, high, count)))

use Rattle.std.proofs.Common.{◌≡◌, ap, arith, sym, ◌∙◌, inl, inr, subst, ◌+◌, ◌-◌, ◌++◌, sum}
use Rattle.tree_plan.specs.Store.{listed_levels, lengths}
use Rattle.tree_plan.specs.Shape.{tree_of}
use Rattle.tree_plan.proofs.Powers.{levels_few}
use Rattle.tree_plan.proofs.Building.{RowsWithin, lengths_from, built_more, built_all, built_from_start, next_within, nodes_within}
use Rattle.tree_plan.proofs.cutting.cut_groups.Goals as goal
use Rattle.tree_plan.proofs.cutting.cut_groups.Goals.{else-loop-level-test, then-loop-level-test+then-members_of-eq1}

pub overflow_add-most : goal.overflow_add-most
overflow_add-most c =
    omega (arith, levels_few c.args.cpus (omega arith), levels_few c.args.nodes (omega arith), c.levels_for-inner.ensures, c.levels_for.ensures)

pub loop-level-init : goal.loop-level-init
loop-level-init c =
    let most = c.levels_for-inner.result + c.levels_for.result in
    let all : most - 0 ≡ most = omega arith in
    record {
      within = subst RowsWithin (sym c.in_ok-rows.ensures) (nodes_within c.args.nodes c.args.cpus c.args.isolated.now c.requires);
      rest = (λ i. c.new-groups.ensures.items i ++ listed_levels 0 (lengths_from c.levels_for-inner.result (all i) 0 c.in_ok-rows.rows.items));
    }

pub loop-level-preserved : goal.loop-level-preserved
loop-level-preserved c =
    let l = c.loop-level in
    let inner = c.levels_for-inner.result in
    let made = c.in_ok-cut_next.ensures in
    record {
      within = subst RowsWithin (sym made.rows) (next_within inner l.level l.rows.items l.invariant.within);
      rest = built_more inner (inner + c.levels_for.result) l.level l.rows.items _ _ _ (omega arith) (λ one. c.if-members_of-eq1.false (c.members_of.ensures ∙ (ap sum c.as_slice.ensures.value ∙ one))) made.rows made.groups ∙ l.invariant.rest;
    }

pub returns : goal.returns
returns c =
    let l = c.loop-level in
    let inner = c.levels_for-inner.result in
    let left = inner + c.levels_for.result - l.level in
    let whole : listed_levels 0 (lengths_from inner (inner + c.levels_for.result) 0 c.in_ok-rows.rows.items) ≡ listed_levels 0 (lengths (tree_of c.args.nodes c.args.cpus c.args.isolated.now).levels) =
    built_from_start c.args.nodes c.args.cpus inner c.levels_for.result c.args.isolated.now c.in_ok-rows.rows.items c.levels_for-inner.ensures c.levels_for.ensures c.in_ok-rows.ensures in
    elim c.loop-level-test.branch [
      | else-loop-level-test w ↦ sym (built_all inner left l.level l.rows.items _ (inl (omega arith))) ∙ (l.invariant.rest ∙ whole)
      | then-loop-level-test+then-members_of-eq1 w ↦ sym (built_all inner left l.level l.rows.items _ (inr (ap sum (sym w.as_slice.ensures.value) ∙ (sym w.members_of.ensures ∙ w.if-members_of-eq1.true)))) ∙ (l.invariant.rest ∙ whole)
    ]

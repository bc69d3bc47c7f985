use Rattle.std.proofs.Common.{None, Some, ap, arith, sym, ◌∙◌}
use Rattle.tree_plan.specs.Paths.{level_count_of}
use Rattle.tree_plan.proofs.Below.{paths}
use Rattle.trace_check.proofs.ToldLaws.{none_told, off, path_ends, path_from, told_below_end}
use Rattle.trace_check.proofs.ToldLaws.{told_more}
use Rattle.trace_check.proofs.reach.climb.Goals as goal

pub loop-level-init : goal.loop-level-init
loop-level-init g c = none_told c.args.core.now c.args.cpu.0 c.args.wheel

pub returns-in_default : goal.returns-in_default
returns-in_default g c = record {
  below = c.loop-level.invariant;
  end =
      path_ends c.args.core.now c.args.cpu.0 c.args.wheel c.loop-level.level
      (path_from c.args.core.now.tree c.tree-tree.result.now c.args.cpu.0 c.loop-level.level None
      c.tree-tree.ensures.tree c.in_default.ensures.group);
}

pub told_at-requires-clause-group : goal.told_at-requires-clause-group
told_at-requires-clause-group g c =
    rw c.tree-tree.ensures.sized.groups
    ((paths c.args.core.now.tree c.kept.ensures.fits.planned).group_within c.args.cpu.0
    c.loop-level.level c.in-Some.group.0
    (path_from c.args.core.now.tree c.tree-tree.result.now c.args.cpu.0 c.loop-level.level
    (Some c.in-Some.group.0) c.tree-tree.ensures.tree c.in-Some.ensures.group))

pub told_at-requires-clause-path : goal.told_at-requires-clause-path
told_at-requires-clause-path g c =
    path_from c.args.core.now.tree c.tree-tree.result.now c.args.cpu.0 c.loop-level.level
    (Some c.in-Some.group.0) c.tree-tree.ensures.tree c.in-Some.ensures.group

pub returns-in_default-told_at : goal.returns-in_default-told_at
returns-in_default-told_at g c = record {
  below = c.loop-level.invariant;
  end = c.in_default-told_at.ensures.untold;
}

pub is_on-requires : goal.is_on-requires
is_on-requires g c =
    rw c.tree-tree.ensures.sized.groups
    ((paths c.args.core.now.tree c.kept.ensures.fits.planned).group_within c.args.cpu.0
    c.loop-level.level c.in-Some.group.0
    (path_from c.args.core.now.tree c.tree-tree.result.now c.args.cpu.0 c.loop-level.level
    (Some c.in-Some.group.0) c.tree-tree.ensures.tree c.in-Some.ensures.group))

pub returns-then-is_on : goal.returns-then-is_on
returns-then-is_on g c =
    let path =
    path_from c.args.core.now.tree c.tree-tree.result.now c.args.cpu.0 c.loop-level.level
    (Some c.in-Some.group.0) c.tree-tree.ensures.tree c.in-Some.ensures.group in
    record {
      below = c.loop-level.invariant;
      end = record {
        path = path;
        told = c.in-Some-told_at.ensures.told;
        active = sym c.if-is_on.ensures.on;
        in_range =
            rw c.tree-tree.ensures.sized.groups
            ((paths c.args.core.now.tree c.kept.ensures.fits.planned).group_within
            c.args.cpu.0 c.loop-level.level c.in-Some.group.0 path);
      };
    }

pub returns-then-at_top : goal.returns-then-at_top
returns-then-at_top g c = record {
  below = c.loop-level.invariant;
  end = record {
    top = c.in-Some.group.0;
    path =
        path_from c.args.core.now.tree c.tree-tree.result.now c.args.cpu.0 c.loop-level.level
        (Some c.in-Some.group.0) c.tree-tree.ensures.tree c.in-Some.ensures.group;
    last = sym c.if-at_top.ensures.top;
    inactive = off _ (sym c.if-is_on.ensures.on);
    event = c.in-Some-told_at.ensures.event;
    in_time = c.in-Some-told_at.ensures.in_time;
  };
}

pub loop-level-preserved : goal.loop-level-preserved
loop-level-preserved g c =
    told_more c.args.core.now c.args.cpu.0 c.args.wheel c.loop-level.level c.in-Some.group.0
    c.loop-level.invariant
    (path_from c.args.core.now.tree c.tree-tree.result.now c.args.cpu.0 c.loop-level.level
    (Some c.in-Some.group.0) c.tree-tree.ensures.tree c.in-Some.ensures.group)
    c.in-Some-told_at.ensures.told (sym c.if-is_on.ensures.on) (sym c.if-at_top.ensures.top)

pub returns : goal.returns
returns g c =
    let w = c.args.core.now in
    let high = c.loop-level-test.false in
    let count = c.levels-levels.ensures ∙ ap level_count_of c.tree-tree.ensures.tree in
    let none = (paths w.tree c.kept.ensures.fits.planned).beyond c.args.cpu.0
    c.levels-levels.result (omega (arith, count)) in
    record {
      below = told_below_end w c.args.cpu.0 c.args.wheel c.levels-levels.result c.loop-level.level
          c.loop-level.invariant (omega (arith, high));
      end = path_ends w c.args.cpu.0 c.args.wheel c.levels-levels.result none;
    }

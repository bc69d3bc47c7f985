use Rattle.std.proofs.Common.{arith}
use Rattle.orders_answer.specs.Lines.{group_shown}
use Rattle.orders_answer.proofs.Lists.{no_more, one_more}
use Rattle.orders_answer.proofs.lines.push_groups.Goals as goal

pub loop-group-preserved : goal.loop-group-preserved
loop-group-preserved c =
    let low = c.loop-group-test.true in
    record { same = one_more group_shown c.args.groups.now c.loop-group.group-index _ _ _ _ (omega (arith, low)) c.in_ok-push_group_shown.ensures c.loop-group.invariant.same }

pub returns : goal.returns
returns c =
    let end = c.loop-group-test.false in
    no_more group_shown c.args.groups.now c.loop-group.group-index _ _ (omega (arith, end)) c.loop-group.invariant.same

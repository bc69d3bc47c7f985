use Rattle.std.proofs.Common.{arith}
use Rattle.orders_answer.specs.Lines.{sleeper_shown}
use Rattle.orders_answer.proofs.Lists.{no_more, one_more}
use Rattle.orders_answer.proofs.lines.push_sleepers.Goals as goal

pub loop-sleeper-preserved : goal.loop-sleeper-preserved
loop-sleeper-preserved c =
    let low = c.loop-sleeper-test.true in
    record { same = one_more sleeper_shown c.args.sleepers.now c.loop-sleeper.sleeper-index _ _ _ _ (omega (arith, low)) c.in_ok-push_sleeper.ensures c.loop-sleeper.invariant.same }

pub returns : goal.returns
returns c =
    let end = c.loop-sleeper-test.false in
    no_more sleeper_shown c.args.sleepers.now c.loop-sleeper.sleeper-index _ _ (omega (arith, end)) c.loop-sleeper.invariant.same

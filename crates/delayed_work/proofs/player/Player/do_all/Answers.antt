use Rattle.delayed_work.proofs.Rows.{done_end, done_more, in_range_at, in_range_more}
use Rattle.delayed_work.proofs.Plays.{keeps_then}
use Rattle.delayed_work.proofs.player.Player.do_all.Goals as goal

pub do_one-requires-clause-times : goal.do_one-requires-clause-times
do_one-requires-clause-times g c = c.loop-op.invariant.keeps.time

pub do_one-requires-clause-work : goal.do_one-requires-clause-work
do_one-requires-clause-work g c =
    in_range_at _ _ _ _ c.loop-op.invariant.keeps.len c.loop-op-test.true c.loop-op.invariant.ranges _

pub loop-op-preserved : goal.loop-op-preserved
loop-op-preserved g c =
    let done = c.in_ok-do_one.ensures in
    record {
      rest = done_more _ _ _ _ _ _ _ c.loop-op.invariant.rest c.loop-op-test.true done.after;
      ranges = in_range_more _ _ _ c.loop-op-test.true c.loop-op.invariant.ranges;
      keeps = keeps_then _ _ _ _ c.loop-op.invariant.keeps done.keeps;
    }

pub returns-clause-after : goal.returns-clause-after
returns-clause-after g c = done_end _ _ _ _ _ c.loop-op.invariant.rest c.loop-op-test.false

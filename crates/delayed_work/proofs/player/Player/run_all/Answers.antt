use Rattle.delayed_work.proofs.Rows.{run_more}
use Rattle.delayed_work.proofs.Plays.{keeps_then}
use Rattle.delayed_work.proofs.player.Player.run_all.Goals as goal

pub loop-preserved : goal.loop-preserved
loop-preserved g c =
    let ran = c.in_ok-run_one.ensures in
    record {
      rest = run_more _ _ _ _ _ _ _ c.loop.invariant.rest c.loop-test.true ran.after;
      keeps = keeps_then _ _ _ _ c.loop.invariant.keeps ran.keeps;
    }

use Rattle.std.proofs.Common.{sym, arith}
use Rattle.play_rules.proofs.Loops.{left_all, left_less, left_more}
use Rattle.play_rules.proofs.Plays.{gains_then}
use Rattle.play_driver.proofs.closing.left_over.Goals as goal
use Rattle.play_driver.proofs.closing.left_over.Goals.{in-Some+in_ok-tell, in_default}

pub loop-number-preserved : goal.loop-number-preserved
loop-number-preserved g c =
    elim c.match-queued.branch [
      | in-Some+in_ok-tell w ↦
          let told = w.in_ok-tell.ensures in
          record {
            rest = rw w.telling-is (left_more _ _ _ _ _ _ _ _ _ c.loop-number.invariant.rest
                (omega (arith, c.loop-number-test.true, c.timers-number-end.ensures)) (sym w.in-Some.ensures) told.text told.tally told.work);
            gains = rw w.telling-is (gains_then _ _ _ c.loop-number.invariant.gains (_, told.text));
          }
      | in_default w ↦
          record {
            rest = rw w.telling-is (left_less _ _ _ _ _ _ _ c.loop-number.invariant.rest
                (omega (arith, c.loop-number-test.true, c.timers-number-end.ensures)) (sym w.in_default.ensures));
            gains = rw w.telling-is c.loop-number.invariant.gains;
          }
    ]

pub returns-clause-prints : goal.returns-clause-prints
returns-clause-prints g c =
    left_all _ _ _ _ _ _ _ c.loop-number.invariant.rest
    (omega (arith, c.loop-number-test.false, c.timers-number-end.ensures))

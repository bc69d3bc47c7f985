use Rattle.std.proofs.Common.{sym, arith}
use Rattle.play_rules.proofs.Loops.{covers_all, covers_less, covers_more}
use Rattle.play_rules.proofs.Plays.{gains_then}
use Rattle.play_driver.proofs.moving.covers.Goals as goal
use Rattle.play_driver.proofs.moving.covers.Goals.{in-Some+in_ok-tell, in_default}

pub loop-cpu-preserved : goal.loop-cpu-preserved
loop-cpu-preserved g c =
    elim c.match-cover_of.branch [
      | in-Some+in_ok-tell w ↦
          let told = w.in_ok-tell.ensures in
          record {
            rest = rw w.telling-is (covers_more _ _ _ _ _ _ _ _ _ _ c.loop-cpu.invariant.rest
                (omega (arith, c.loop-cpu-test.true, c.cpus-cpu-end.ensures.count)) (sym w.in-Some.ensures) c.clock-now.ensures.clock told.text told.tally told.work);
            gains = rw w.telling-is (gains_then _ _ _ c.loop-cpu.invariant.gains (_, told.text));
          }
      | in_default w ↦
          record {
            rest = rw w.telling-is (covers_less _ _ _ _ _ _ _ c.loop-cpu.invariant.rest
                (omega (arith, c.loop-cpu-test.true, c.cpus-cpu-end.ensures.count)) (sym w.in_default.ensures));
            gains = rw w.telling-is c.loop-cpu.invariant.gains;
          }
    ]

pub returns-clause-prints : goal.returns-clause-prints
returns-clause-prints g c =
    covers_all _ _ _ _ _ _ _ c.loop-cpu.invariant.rest
    (omega (arith, c.loop-cpu-test.false, c.cpus-cpu-end.ensures.count))

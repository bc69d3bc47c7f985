use Rattle.shared_rows.proofs.runs.see_timers.Goals as goal

pub loop-timer-preserved : goal.loop-timer-preserved
loop-timer-preserved g c = record {
  run = c.see_timer.ensures.run;
  stays = λ k h. c.see_timer.ensures.stays k (c.loop-timer.invariant.stays k h);
}

use Rattle.shared_rows.proofs.runs.see_groups.Goals as goal

pub loop-group-preserved : goal.loop-group-preserved
loop-group-preserved g c = record {
  run = c.see_group.ensures.run;
  stays = λ k h. c.see_group.ensures.stays k (c.loop-group.invariant.stays k h);
}

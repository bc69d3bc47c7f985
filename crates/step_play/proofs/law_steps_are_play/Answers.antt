use Rattle.step_play.proofs.Plays.{steps_are_play}
use Rattle.step_play.proofs.law_steps_are_play.Goals as goal

pub returns : goal.returns
returns c = steps_are_play c.law_step.ensures c.law_start.ensures (record {
  wakes = c.law_wakes.ensures;
  comes = c.law_comes.ensures;
  tell = record {
    idles = c.law_idles.ensures;
    goes = c.law_offlines.ensures;
    ends = c.law_ends.ensures;
    lets_go = c.law_lets_go.ensures;
  };
}) c.law_play_is_a_run.ensures

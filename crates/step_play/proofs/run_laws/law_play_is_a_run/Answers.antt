use Rattle.step_play.proofs.PlayedRuns.{play_is_a_run}
use Rattle.step_play.proofs.run_laws.law_play_is_a_run.Goals as goal

pub returns : goal.returns
returns c =
    play_is_a_run c.law_step.ensures c.law_start.ensures c.law_sizes.ensures
    c.law_always_answered.ensures (record {
      wakes = c.law_wakes.ensures;
      comes = c.law_comes.ensures;
      tell = record {
        idles = c.law_idles.ensures;
        goes = c.law_offlines.ensures;
        ends = c.law_ends.ensures;
        lets_go = c.law_lets_go.ensures;
      };
    })

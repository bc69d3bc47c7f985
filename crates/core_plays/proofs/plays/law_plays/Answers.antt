use Rattle.core_plays.proofs.BySteps.{by_steps}
use Rattle.core_plays.proofs.plays.law_plays.Goals as goal

pub returns : goal.returns
returns c = λ jobs script is. record {
  to_end = c.law_moments.ensures jobs script is;
  by_steps =
      by_steps jobs script (c.law_steps_are_play.ensures jobs script is) c.law_each_settled.ensures;
  answered = c.law_each_answered.ensures jobs script is;
  in_its_jiffy = c.law_in_its_jiffy.ensures jobs script is;
  ended = c.law_ends.ensures.each_has_ended jobs script is;
  lines = record {
    runs = λ n. c.law_lines.ensures.runs jobs script n is;
    alternate = λ timer cpu. c.law_each_runs.ensures jobs script timer cpu is;
    left = c.law_left.ensures jobs script is;
    covers = c.law_covers.ensures jobs script is;
  };
}

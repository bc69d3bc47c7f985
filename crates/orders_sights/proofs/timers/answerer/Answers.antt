use Rattle.orders_sights.proofs.timers.answerer.Goals as goal

pub returns : goal.returns
returns c = record {
  answer = c.answer_for-answer.result;
  is = c.answer_for-answer.ensures;
  shown = c.shown_as.ensures;
}

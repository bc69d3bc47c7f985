use Rattle.std.proofs.Common.{refl, rules}
use Rattle.orders_try.proofs.answers.answer_of.Goals as goal

pub returns : goal.returns
returns c = record {
  rule_is = search rules;
  states = refl;
  shown = c.in_ok-shown.ensures;
  whole = refl;
}

use Rattle.core_facts.proofs.ExchangesOnce.{each_goes_on, each_stays_past, none_is_past}
use Rattle.core_facts.proofs.law_once_a_level.Goals as goal

pub returns : goal.returns
returns c = record {
  goes_on = each_goes_on;
  stays_past = each_stays_past c.law_frame.ensures;
  none_past = none_is_past;
}

use Rattle.shared_rule.proofs.Renewing.{renews_pass}
use Rattle.shared_rule.proofs.Seats.{cuts_box, cuts_pass, joins}
use Rattle.shared_rule.proofs.laws.law_seats.Goals as goal

pub returns : goal.returns
returns c = λ o. record {
  box_off = cuts_box o;
  pass_off = cuts_pass o;
  renewed = renews_pass o;
  joined = joins o;
}

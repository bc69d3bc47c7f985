use Rattle.cpu_bases.proofs.Keeping.{arming_keeps, cancelling_keeps, handing_out_keeps}
use Rattle.cpu_bases.proofs.Keeping.{moving_in_keeps, moving_out_keeps}
use Rattle.cpu_bases.proofs.laws.law_calls.Goals as goal

pub returns : goal.returns
returns c = record {
  arming = arming_keeps;
  cancelling = cancelling_keeps;
  handing_out = handing_out_keeps;
  moving_out = moving_out_keeps;
  moving_in = moving_in_keeps;
}

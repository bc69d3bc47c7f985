use Rattle.view_chart.proofs.States.{arrows_right}
use Rattle.view_chart.proofs.laws.law_arrows.Goals as goal

pub returns : goal.returns
returns c = arrows_right

use Rattle.view_chart.proofs.States.{states_right}
use Rattle.view_chart.proofs.laws.law_states.Goals as goal

pub returns : goal.returns
returns c = states_right

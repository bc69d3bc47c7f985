use Rattle.view_chart.proofs.Places.{columns_rise}
use Rattle.view_chart.proofs.laws.law_columns.Goals as goal

pub returns : goal.returns
returns c = columns_rise

use Rattle.view_chart.proofs.NoteLaws.{notes_right}
use Rattle.view_chart.proofs.laws.law_notes.Goals as goal

pub returns : goal.returns
returns c = notes_right

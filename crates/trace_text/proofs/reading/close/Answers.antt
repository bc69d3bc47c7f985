use Rattle.std.proofs.Common.{sym, ◌∙◌}
use Rattle.trace_text.proofs.HeadLaws.{closing_some}
use Rattle.trace_text.proofs.reading.close.Goals as goal

pub returns-else-is_empty : goal.returns-else-is_empty
returns-else-is_empty c = rw c.refused.ensures (closing_some c.args.lines c.args.line c.args.rest.now (sym c.if-is_empty.false ∙ c.is_empty.ensures))

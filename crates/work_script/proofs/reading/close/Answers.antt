use Rattle.std.proofs.Common.{rules, ◌+◌}
use Rattle.work_script.proofs.DraftLaws.{closing_some}
use Rattle.work_script.proofs.reading.close.Goals as goal

pub returns-then-not-is_empty : goal.returns-then-not-is_empty
returns-then-not-is_empty c = rw c.refused.ensures (closing_some c.args.draft (c.args.draft.known.line + 1) c.args.end c.args.rest.now (search rules))

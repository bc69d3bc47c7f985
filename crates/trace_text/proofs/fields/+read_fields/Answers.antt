use Rattle.std.proofs.Common.{ap}
use Rattle.std.specs.Option.{option_copied}
use Rattle.trace_text.proofs.FieldWords.{one_more}
use Rattle.trace_text.proofs.fields.+read_fields.Goals as goal

pub returns-in-Some-clause-value : goal.returns-in-Some-clause-value
returns-in-Some-clause-value t c =
    one_more c.args.limits c.args.slots.now (option_copied c.args.words) c.in-Some.field-0.now c.in-empty.len_below (ap option_copied c.in-Some.is)

use Rattle.std.proofs.Common.{ap, ◌∙◌}
use Rattle.std.specs.Option.{option_copied}
use Rattle.report_reader.specs.Candidates.{is_over}
use Rattle.report_reader.proofs.LineLaws.{some_left}
use Rattle.report_reader.proofs.words.Words.is_over.Goals as goal

pub returns-in-Some : goal.returns-in-Some
returns-in-Some c = some_left (option_copied c.self.inside.rest) c.in-Some.field-0.now (ap option_copied c.in-Some.is) ∙ ap is_over c.self.view_is

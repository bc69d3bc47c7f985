use Rattle.std.proofs.Common.{ap}
use Rattle.std.specs.Option.{option_copied}
use Rattle.tm_script.proofs.Steps.{only_two}
use Rattle.tm_script.proofs.words.only_word.Goals as goal

pub returns-in-Some-cut : goal.returns-in-Some-cut
returns-in-Some-cut c = only_two (option_copied c.args.words) c.in-Some.words.now c.in-Some-cut.field-0.0.now c.in-Some-cut.field-0.1.now (ap option_copied c.in-Some.is) c.in-Some-cut.ensures.found

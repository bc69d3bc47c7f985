use Rattle.std.proofs.Common.{ap}
use Rattle.std.specs.Option.{option_copied}
use Rattle.tm_script.proofs.Steps.{front_two}
use Rattle.tm_script.proofs.words.front_word.Goals as goal

pub returns-in-Some-cut : goal.returns-in-Some-cut
returns-in-Some-cut c = front_two (option_copied c.args.words) c.in-Some.words.now c.in-Some-cut.word.now c.in-Some-cut.rest.now (ap option_copied c.in-Some.is) c.in-Some-cut.ensures.found

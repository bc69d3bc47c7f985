use Rattle.std.proofs.Common.{arith}
use Rattle.group_word.proofs.Children.{lowest_there}
use Rattle.group_word.proofs.exchange.lowest.Goals as goal

pub returns-else-active-eq0-clause-lowest : goal.returns-else-active-eq0-clause-lowest
returns-else-active-eq0-clause-lowest c = lowest_there c.args.active c.if-active-eq0.false (omega arith)

use Rattle.shared_words.proofs.Back.{migrator_shown}
use Rattle.shared_words.proofs.exchange.has_migrator.Goals as goal

pub returns-clause-migrator : goal.returns-clause-migrator
returns-clause-migrator c = migrator_shown c.args.word

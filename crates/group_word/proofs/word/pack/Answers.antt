use Rattle.group_word.proofs.Words.{migrator_child, packed}
use Rattle.group_word.proofs.word.pack.Goals as goal

pub mark-requires : goal.mark-requires
mark-requires c = migrator_child c.args.state c.requires

pub returns : goal.returns
returns c = rw (c.from.ensures, c.from-2.ensures, c.mark.ensures) (packed c.args.state c.requires)

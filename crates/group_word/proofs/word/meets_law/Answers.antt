use Rattle.group_word.proofs.Children.{law_none}
use Rattle.group_word.proofs.word.meets_law.Goals as goal

pub returns-in-None : goal.returns-in-None
returns-in-None c = rw c.in-None.is (law_none c.args.active)

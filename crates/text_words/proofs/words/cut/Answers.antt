use Rattle.std.proofs.lemmas.List.{take_rest}
use Rattle.text_words.proofs.Cuts.{split-cut, split-uncut}
use Rattle.text_words.proofs.words.cut.Goals as goal

pub returns-in_err-at-clause-none : goal.returns-in_err-at-clause-none
returns-in_err-at-clause-none c = rw c.from_residual.ensures (split-uncut c.args.separator c.args.bytes.now c.in_err-at.ensures.value)

pub returns-clause-found : goal.returns-clause-found
returns-clause-found c = rw take_rest (split-cut c.args.separator c.args.bytes.now c.in_ok-at.at c.in_ok-at.ensures.value)

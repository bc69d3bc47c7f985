use Rattle.shared_rule.proofs.Marking.{finds_mark, marks, marks_own}
use Rattle.shared_rule.proofs.laws.law_ignore.Goals as goal

pub returns-clause-own : goal.returns-clause-own
returns-clause-own c = λ o. marks_own c.core_laws.ensures o

pub returns-clause-group : goal.returns-clause-group
returns-clause-group c = λ o. marks c.core_laws.ensures o

pub returns-clause-look : goal.returns-clause-look
returns-clause-look c = λ o. finds_mark c.core_laws.ensures o

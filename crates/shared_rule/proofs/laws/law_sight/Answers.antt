use Rattle.shared_rule.proofs.Sights.{scans, scans_top, sees_child, sees_group}
use Rattle.shared_rule.proofs.laws.law_sight.Goals as goal

pub returns-clause-child : goal.returns-clause-child
returns-clause-child c = λ o. sees_child c.core_laws.ensures o

pub returns-clause-group : goal.returns-clause-group
returns-clause-group c = λ o. sees_group c.core_laws.ensures o

pub returns-clause-scan : goal.returns-clause-scan
returns-clause-scan c = λ o. scans c.core_laws.ensures o

pub returns-clause-top : goal.returns-clause-top
returns-clause-top c = λ o. scans_top c.core_laws.ensures o

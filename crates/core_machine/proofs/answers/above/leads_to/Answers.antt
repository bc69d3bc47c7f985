use Rattle.std.proofs.Common.{sym, ◌∙◌}
use Rattle.core_machine.proofs.Covers.Leading.{child_led, child_there, none_led}
use Rattle.core_machine.proofs.answers.above.leads_to.Goals as goal

pub returns-in_default-clause-child : goal.returns-in_default-clause-child
returns-in_default-clause-child g c =
    sym (none_led c.args.core.now c.args.group.0 (sym c.migrator.ensures ∙ c.in_default.is))

pub returns-clause-child : goal.returns-clause-child
returns-clause-child g c =
    child_led c.args.core.now c.args.group.0 c.tree.result.now c.in-Some.number c.child.result
    c.child.ensures c.tree.ensures.tree (sym c.migrator.ensures ∙ c.in-Some.is)

pub returns-clause-in_world : goal.returns-clause-in_world
returns-clause-in_world g c =
    child_there c.args.core.now c.tree.ensures.sized c.kept.ensures.fits.planned
    c.tree.result.now c.args.group.0 c.in-Some.number c.child.result c.child.ensures
    c.tree.ensures.tree

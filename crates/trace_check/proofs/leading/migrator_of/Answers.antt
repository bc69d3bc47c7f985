use Rattle.std.proofs.Common.{◌≡◌, Some}
use Rattle.tree_plan.specs.Paths.{child_at}
use Rattle.trace_check.proofs.LeadLaws.{child_in}
use Rattle.trace_check.proofs.leading.migrator_of.Goals as goal

pub returns-clause-in_world : goal.returns-clause-in_world
returns-clause-in_world g c =
    let w = c.args.core.now in
    let at : child_at w.tree c.args.group.0 c.in-Some.number ≡ Some c.in-Some-child.child =
    cc (c.child.ensures, c.tree.ensures.tree, c.in-Some-child.is) in
    child_in w c.tree.ensures.sized c.kept.ensures.fits.planned c.args.group.0 c.in-Some.number
    c.in-Some-child.child at

use Rattle.tree_plan.proofs.Stored.{bit_linked, bit_unlinked}
use Rattle.tree_plan.proofs.hierarchy.Tree.bit.Goals as goal

pub returns-in-Some : goal.returns-in-Some
returns-in-Some c = bit_linked c.args.self.now _ c.in-Some.link c.in-Some.ensures.link

pub returns-in-None : goal.returns-in-None
returns-in-None c = bit_unlinked c.args.self.now _ c.in-None.ensures.link

use Rattle.std.proofs.Common.{arith}
use Rattle.std.proofs.lemmas.Bool.Decides.{nat_tests}
use Rattle.tree_plan.proofs.Powers.{levels_in_steps}
use Rattle.tree_plan.proofs.cutting.levels_for.Goals as goal

pub returns-in-0-to-1 : goal.returns-in-0-to-1
returns-in-0-to-1 c = grind (arith, nat_tests, levels_in_steps c.args.members)

pub returns-in-2-to-8 : goal.returns-in-2-to-8
returns-in-2-to-8 c = grind (arith, nat_tests, levels_in_steps c.args.members)

pub returns-in-9-to-64 : goal.returns-in-9-to-64
returns-in-9-to-64 c = grind (arith, nat_tests, levels_in_steps c.args.members)

pub returns-in_default : goal.returns-in_default
returns-in_default c = grind (arith, nat_tests, levels_in_steps c.args.members)

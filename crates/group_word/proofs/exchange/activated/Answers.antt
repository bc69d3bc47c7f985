use Rattle.std.proofs.Common.{arith}
use Rattle.std.proofs.lemmas.Nat.{or_lt}
use Rattle.group_word.proofs.Children.{joins, law_joined, takes_role}
use Rattle.group_word.proofs.exchange.activated.Goals as goal

pub returns-clause-joins : goal.returns-clause-joins
returns-clause-joins c = joins c.args.state.active c.args.child c.requires.a_child

pub returns-clause-role : goal.returns-clause-role
returns-clause-role c = rw c.or.ensures (takes_role c.args.state.migrator c.args.child)

pub returns-clause-lawful : goal.returns-clause-lawful
returns-clause-lawful c =
    let law = c.requires.lawful in
    record {
      eight_children = or_lt 8 _ _ law.eight_children (omega arith);
      group = rw c.or.ensures (law_joined _ _ _ _ law.group (joins c.args.state.active c.args.child c.requires.a_child));
      sequence = omega arith;
    }

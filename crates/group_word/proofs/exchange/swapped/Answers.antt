use Rattle.std.proofs.Common.{◌*◌, ◌^◌, ◌%◌, ◌-◌, arith}
use Rattle.std.proofs.lemmas.Bool.{OnFalse_from}
use Rattle.std.proofs.lemmas.Nat.{and_le_l}
use Rattle.group_word.proofs.Children.{leaves, law_left}
use Rattle.group_word.proofs.exchange.swapped.Goals as goal

pub returns-clause-leaves : goal.returns-clause-leaves
returns-clause-leaves c =
    OnFalse_from _ _ (λ _. leaves c.args.state.active c.args.child c.requires.lawful.eight_children c.requires.a_child)

pub returns-clause-lawful : goal.returns-clause-lawful
returns-clause-lawful c =
    let law = c.requires.lawful in
    let set = leaves c.args.state.active c.args.child law.eight_children c.requires.a_child in
    record {
      eight_children = omega (arith, and_le_l c.args.state.active (255 - 1 * 2 ^ c.args.child % 256));
      group = law_left _ _ _ _ _ law.group set c.passed_on.ensures.passes_on;
      sequence = omega arith;
    }

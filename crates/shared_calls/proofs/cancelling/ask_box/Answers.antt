use Rattle.std.proofs.Common.{sym, ap, ◌∙◌, subst}
use Rattle.shared_table.specs.shared_rule.Parts.{HeldPart, without_guest}
use Rattle.shared_calls.specs.Cancels.{IsCancelAsked}
use Rattle.shared_calls.proofs.cancelling.ask_box.Goals as goal

pub ask_part-requires-clause-own : goal.ask_part-requires-clause-own
ask_part-requires-clause-own g c =
    c.requires.own ∙ sym (ap (λ (z : HeldPart). z.box.cpu) c.cpu_box.view_is)

pub ask_part-requires-clause-free : goal.ask_part-requires-clause-free
ask_part-requires-clause-free g c = c.cpu_box.invariant

pub invariant_of-cpu_box : goal.invariant_of-cpu_box
invariant_of-cpu_box g c = c.ask_part.ensures.free

pub returns : goal.returns
returns g c =
    subst (λ (z : HeldPart). IsCancelAsked g.N.RunName.table g.N.RunName.opening (without_guest z)
    c.args.pass.now c.ask_part.new.pass c.ask_part.result) c.cpu_box.view_is c.ask_part.ensures.asked

pub ask_part-requires-clause-run : goal.ask_part-requires-clause-run
ask_part-requires-clause-run g c = c.requires.run

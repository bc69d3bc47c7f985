use Rattle.std.proofs.Common.{◌≡◌, subst}
use Rattle.std.specs.Prelude.{MatchResult}
use Rattle.shared_table.specs.shared_rule.Parts.{HeldPart}
use Rattle.shared_calls.specs.Cancels.{IsPartOf, TookOut}
use Rattle.shared_calls.proofs.cancelling.cancel_box.Goals as goal

pub cancel_part-requires-clause-free : goal.cancel_part-requires-clause-free
cancel_part-requires-clause-free g c = c.cpu_box.invariant

pub invariant_of-cpu_box : goal.invariant_of-cpu_box
invariant_of-cpu_box g c = c.cancel_part.ensures.free

pub returns-clause-part : goal.returns-clause-part
returns-clause-part g c =
    subst (λ (z : HeldPart). IsPartOf g.N.RunName.opening z.box.cpu z) c.cpu_box.view_is
    c.cancel_part.ensures.part

pub returns-clause-done : goal.returns-clause-done
returns-clause-done g c =
    let held = c.args.pass.now in
    let after = c.cancel_part.new.pass in
    subst (λ (z : HeldPart). MatchResult c.cancel_part.result
    (TookOut g.N.RunName.table c.args.timer.0 c.args.line z held after) (λ e. after ≡ held))
    c.cpu_box.view_is c.cancel_part.ensures.done

pub cancel_part-requires-clause-run : goal.cancel_part-requires-clause-run
cancel_part-requires-clause-run g c = c.requires.run

pub cancel_part-requires-clause-now : goal.cancel_part-requires-clause-now
cancel_part-requires-clause-now g c = c.requires.now

pub cancel_part-requires-clause-timer : goal.cancel_part-requires-clause-timer
cancel_part-requires-clause-timer g c = c.requires.timer

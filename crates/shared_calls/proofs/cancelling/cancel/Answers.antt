use Rattle.std.proofs.Common.{sym, subst}
use Rattle.tm_base.specs.declared.faults.OpFault.{OpFault}
use Rattle.std.specs.Prelude.{Option}
use Rattle.shared_table.specs.shared_rule.Passes.{HeldPass}
use Rattle.shared_looks.specs.Looks.{IsPassBegunWith}
use Rattle.shared_calls.specs.Cancels.{IsCancelAsked}
use Rattle.shared_calls.proofs.Asking.{finish, refused}
use Rattle.shared_calls.proofs.cancelling.cancel.Goals as goal

pub cancel_named-requires-clause-run : goal.cancel_named-requires-clause-run
cancel_named-requires-clause-run g c =
    let asked = c.ask.ensures.1 in
    subst (λ (h : HeldPass). IsPassBegunWith g.N.RunName.table g.N.RunName.opening h) (sym asked.pass_is)
    asked.of_run

pub returns-in-Some : goal.returns-in-Some
returns-in-Some g c =
    let table = g.N.RunName.table in
    let o = g.N.RunName.opening in
    let run = c.requires.run in
    let part = c.ask.ensures.0 in
    let asked = subst (λ (m : Option OpFault). IsCancelAsked table o part c.args.pass.now c.ask.new.pass m)
    c.in-Some.is c.ask.ensures.1 in (
      part,
      asked.by,
      refused table o c.args.timer.0 part c.args.pass.now c.ask.new.pass run.0 c.in-Some.fault run.1
          asked,
    )

pub returns-in-None : goal.returns-in-None
returns-in-None g c =
    let table = g.N.RunName.table in
    let o = g.N.RunName.opening in
    let run = c.requires.run in
    let part = c.ask.ensures.0 in
    let asked = subst (λ (m : Option OpFault). IsCancelAsked table o part c.args.pass.now c.ask.new.pass m)
    c.in-None.is c.ask.ensures.1 in (
      part,
      asked.by,
      finish table o c.args.timer.0 c.args.line part c.args.pass.now c.ask.new.pass
          c.cancel_named.new.pass run.0 c.cancel_named.result run.1 asked c.cancel_named.ensures,
    )

pub ask-requires-clause-run : goal.ask-requires-clause-run
ask-requires-clause-run g c = c.requires.run

pub ask-requires-clause-cpu : goal.ask-requires-clause-cpu
ask-requires-clause-cpu g c = c.requires.cpu

pub cancel_named-requires-clause-now : goal.cancel_named-requires-clause-now
cancel_named-requires-clause-now g c = c.requires.now

pub cancel_named-requires-clause-timer : goal.cancel_named-requires-clause-timer
cancel_named-requires-clause-timer g c = c.requires.timer

use Rattle.trace_explain.proofs.TellLaws.{made_on, refused_on}
use Rattle.trace_explain.proofs.explaining.tell_step.Goals as goal

pub returns-in-Some-clause-tells : goal.returns-in-Some-clause-tells
returns-in-Some-clause-tells g c =
    refused_on c.args.core.now c.args.core.now c.args.made c.args.step c.in-Some.cause
    c.args.text.now.items _ c.in_ok-push_refused.ensures c.in-Some.ensures.named

pub returns-clause-tells : goal.returns-clause-tells
returns-clause-tells g c =
    made_on c.args.core.now c.apply.new.core c.args.made c.args.step c.args.text.now.items _ _
    c.in_default.ensures.none c.in_ok-apply.ensures.ok c.in_ok-push_made.ensures
    c.in_ok-push_answers.ensures

use Rattle.std.proofs.Common.{refl}
use Rattle.trace_explain.proofs.Waiting.{none_here, none_nowhere, one_here}
use Rattle.trace_explain.proofs.answers.push_answer.Goals as goal

pub returns-in_default : goal.returns-in_default
returns-in_default g c =
    none_nowhere c.args.core.now c.args.timer.0 c.args.text.now.items c.in_default.ensures.nowhere

pub returns-in_default-why : goal.returns-in_default-why
returns-in_default-why g c =
    none_here c.args.core.now (c.law_once.ensures c.args.core.now c.tree.ensures.lawful)
    c.args.timer.0 c.in-Some.cpu.0 c.args.text.now.items c.in-Some.ensures.there
    c.in_default-why.ensures.none

pub returns : goal.returns
returns g c =
    one_here c.args.core.now c.args.timer.0 c.in-Some.cpu.0 c.in-Some-why.reason _
    c.args.text.now.items _ refl c.in-Some-why.ensures.reason c.in_ok-push_told.ensures

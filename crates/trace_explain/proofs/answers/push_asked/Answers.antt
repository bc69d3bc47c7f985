use Rattle.std.proofs.Common.{refl}
use Rattle.trace_explain.proofs.Waiting.{one_told}
use Rattle.trace_explain.proofs.answers.push_asked.Goals as goal

pub returns : goal.returns
returns g c =
    one_told c.args.core.now c.args.timer.0 c.args.cpu.0 c.in-Some.reason _
    c.args.text.now.items _ refl c.in-Some.ensures.reason c.in_ok-push_told.ensures

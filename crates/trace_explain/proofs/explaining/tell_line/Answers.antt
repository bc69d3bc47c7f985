use Rattle.std.proofs.Common.{Some, sym, subst}
use Rattle.trace_explain.specs.Telling.{Tells}
use Rattle.trace_explain.proofs.TellLaws.{asked_on}
use Rattle.trace_explain.proofs.explaining.tell_line.Goals as goal

pub returns-in_ok-push_asked-in-Why-clause-tells : goal.returns-in_ok-push_asked-in-Why-clause-tells
returns-in_ok-push_asked-in-Why-clause-tells g c =
    let w = c.args.core.now in
    subst (λ line. Tells w c.args.made line c.args.text.now.items c.push_asked.new.text.items w
    (Some c.args.made)) (sym c.in-Why.is)
    (asked_on w c.args.made c.in-Why.cpu c.in-Why.timer c.args.text.now.items
    c.push_asked.new.text.items c.in_ok-push_asked-in-Why.ensures)

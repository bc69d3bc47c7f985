use Rattle.orders_try.proofs.MakeLaws.{why_more}
use Rattle.orders_try.proofs.asking.ask.Goals as goal

pub returns-in-Ok : goal.returns-in-Ok
returns-in-Ok c =
    why_more c.args.lines.now c.push.new.self c.args.timer.cpu c.args.timer.timer
    c.in-Ok.ensures.ok

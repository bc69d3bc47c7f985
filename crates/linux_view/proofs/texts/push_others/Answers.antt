use Rattle.linux_view.proofs.Digits.{three}
use Rattle.linux_view.proofs.texts.push_others.Goals as goal
use Rattle.linux_view.specs.Texts.{events_text, orders_text, others_text, runs_text}

pub returns : goal.returns
unfolding others_text
returns c =
    three c.args.text.now.items c.push_runs.new.text.items c.push_events.new.text.items
    c.push_orders.new.text.items (runs_text c.args.tally.runs)
    (events_text c.args.tally.differences) (orders_text c.args.tally.runs c.args.tally.timers.forwarded)
    c.in_ok-push_runs.ensures c.in_ok-push_events.ensures c.in_ok-push_orders.ensures

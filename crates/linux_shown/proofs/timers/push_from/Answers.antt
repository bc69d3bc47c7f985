use Rattle.std.specs.Prelude.{codes}
use Rattle.linux_shown.proofs.Joined.{three}
use Rattle.linux_shown.proofs.timers.push_from.Goals as goal
use Rattle.linux_shown.specs.Timers.{from_text, queue_text}

pub returns : goal.returns
unfolding from_text
returns c =
    three c.args.text.now.items c.push_bytes.new.text.items c.push_queue.new.text.items
    c.push_bytes-2.new.text.items (codes ", before that ") (queue_text c.args.state) (codes "\n")
    (c.in_ok-push_bytes.ensures).ok c.in_ok-push_queue.ensures (c.in_ok-push_bytes-2.ensures).ok

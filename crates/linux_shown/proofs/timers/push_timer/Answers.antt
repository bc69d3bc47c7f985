use Rattle.std.specs.Prelude.{codes}
use Rattle.linux_shown.proofs.Joined.{four}
use Rattle.linux_shown.proofs.timers.push_timer.Goals as goal
use Rattle.linux_shown.specs.Timers.{queue_text, taken_text, timer_fact}
use Rattle.linux_shown.specs.Pieces.{pointer_text}

pub returns : goal.returns
unfolding timer_fact
returns c =
    four c.args.text.now.items c.push_pointer.new.text.items c.push_bytes.new.text.items
    c.push_queue.new.text.items c.push_taken.new.text.items
    (pointer_text (codes "  known: timer ") c.args.pointer) (codes ": ")
    (queue_text c.args.timer.state) (taken_text c.args.timer.taken)
    c.in_ok-push_pointer.ensures (c.in_ok-push_bytes.ensures).ok c.in_ok-push_queue.ensures
    c.in_ok-push_taken.ensures

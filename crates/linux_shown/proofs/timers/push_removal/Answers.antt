use Rattle.std.specs.Prelude.{codes}
use Rattle.linux_shown.proofs.Joined.{three}
use Rattle.linux_shown.proofs.timers.push_removal.Goals as goal
use Rattle.linux_shown.specs.Timers.{from_text, removal_text, remover_text}
use Rattle.linux_shown.specs.Pieces.{count_text}

pub returns : goal.returns
unfolding removal_text
returns c =
    three c.args.text.now.items c.push_remover.new.text.items c.push_count.new.text.items
    c.push_from.new.text.items (remover_text c.args.cpu)
    (count_text (codes " on line ") c.args.line) (from_text c.args.state)
    c.in_ok-push_remover.ensures c.in_ok-push_count.ensures c.in_ok-push_from.ensures

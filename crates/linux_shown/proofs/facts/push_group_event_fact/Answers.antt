use Rattle.std.specs.Prelude.{codes}
use Rattle.linux_shown.proofs.Joined.{three}
use Rattle.linux_shown.proofs.facts.push_group_event_fact.Goals as goal
use Rattle.linux_shown.specs.Facts.{group_event_fact}
use Rattle.linux_shown.specs.Pieces.{known_expiry, pointer_text}

pub returns : goal.returns
unfolding group_event_fact
returns c =
    three c.args.text.now.items c.push_pointer.new.text.items c.push_known.new.text.items
    c.push_bytes.new.text.items (pointer_text (codes "  known: group ") c.args.group.now.pointer)
    (known_expiry (codes ": its event in its parent: ") c.args.group.now.event) (codes "\n")
    c.in_ok-push_pointer.ensures c.in_ok-push_known.ensures (c.in_ok-push_bytes.ensures).ok

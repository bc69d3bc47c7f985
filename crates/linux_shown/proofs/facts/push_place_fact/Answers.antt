use Rattle.std.specs.Prelude.{codes}
use Rattle.linux_shown.proofs.Joined.{three}
use Rattle.linux_shown.proofs.facts.push_place_fact.Goals as goal
use Rattle.linux_shown.specs.Facts.{above_text, place_fact, spot_text}
use Rattle.linux_shown.specs.Pieces.{pointer_text}

pub returns : goal.returns
unfolding place_fact
returns c =
    three c.args.text.now.items c.push_pointer.new.text.items c.push_spot.new.text.items
    c.push_above.new.text.items (pointer_text (codes "  known: group ") c.args.group.now.pointer)
    (spot_text c.args.group.now.spot)
    (above_text c.args.group.now.parent c.args.group.now.bit)
    c.in_ok-push_pointer.ensures c.in_ok-push_spot.ensures c.in_ok-push_above.ensures

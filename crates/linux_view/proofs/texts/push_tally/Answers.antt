use Rattle.std.specs.Prelude.{codes}
use Rattle.linux_view.proofs.Digits.{five}
use Rattle.linux_view.proofs.texts.push_tally.Goals as goal
use Rattle.linux_view.specs.Notes.{count_text}
use Rattle.linux_view.specs.Texts.{tally_text}

pub returns : goal.returns
unfolding tally_text
returns c =
    five c.args.text.now.items c.push_count.new.text.items c.push_count-2.new.text.items
    c.push_count-3.new.text.items c.push_count-4.new.text.items c.push_count-5.new.text.items
    (count_text c.args.heading.now c.args.tally.lines)
    (count_text (codes " events ") c.args.tally.events)
    (count_text (codes " exchanges ") c.args.tally.exchanges)
    (count_text (codes " rests ") c.args.tally.rests)
    (count_text (codes " losses ") c.args.tally.losses) c.in_ok-push_count.ensures
    c.in_ok-push_count-2.ensures c.in_ok-push_count-3.ensures c.in_ok-push_count-4.ensures
    c.in_ok-push_count-5.ensures

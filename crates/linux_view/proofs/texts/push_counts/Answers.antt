use Rattle.linux_view.proofs.Digits.{four}
use Rattle.linux_view.proofs.texts.push_counts.Goals as goal
use Rattle.linux_view.specs.Texts.{answers_text, counts_text, last_text, others_text, tally_text}

pub returns : goal.returns
unfolding counts_text
returns c =
    four c.args.text.now.items c.push_tally.new.text.items c.push_answers.new.text.items
    c.push_others.new.text.items c.push_last.new.text.items (tally_text c.args.heading.now c.args.tally)
    (answers_text c.args.tally.answers) (others_text c.args.tally)
    (last_text c.args.tally c.args.ends) c.in_ok-push_tally.ensures
    c.in_ok-push_answers.ensures c.in_ok-push_others.ensures c.in_ok-push_last.ensures

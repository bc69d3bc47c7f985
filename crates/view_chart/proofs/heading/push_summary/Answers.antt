use Rattle.view_chart.specs.Heading.{numbers_text, summary_text}
use Rattle.view_chart.proofs.Joined.{five_pieces}
use Rattle.view_chart.proofs.heading.push_summary.Goals as goal

pub returns : goal.returns
unfolding summary_text
returns c =
    five_pieces c.args.text.now.items _ _ _ (numbers_text c.args.covers) _ _ _ _ _ _
    c.in_ok-push_words.ensures c.in_ok-push_words-2.ensures c.in_ok-push_words-3.ensures
    c.in_ok-push_numbers.ensures c.in_ok-push_words-4.ensures

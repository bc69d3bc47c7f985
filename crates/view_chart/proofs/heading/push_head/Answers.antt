use Rattle.view_chart.specs.Heading.{head_of_arrow}
use Rattle.view_chart.proofs.Joined.{three_pieces}
use Rattle.view_chart.proofs.heading.push_head.Goals as goal

pub returns : goal.returns
unfolding head_of_arrow
returns c =
    three_pieces c.args.text.now.items _ _ _ _ _ _ c.in_ok-push_words.ensures
    c.in_ok-push_words-2.ensures c.in_ok-push_words-3.ensures

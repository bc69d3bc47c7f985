use Rattle.view_chart.specs.Heading.{style_text}
use Rattle.view_chart.proofs.Joined.{four_pieces}
use Rattle.view_chart.proofs.heading.push_style.Goals as goal

pub returns : goal.returns
unfolding style_text
returns c =
    four_pieces c.args.text.now.items _ _ _ _ _ _ _ _ c.in_ok-push_words.ensures
    c.in_ok-push_words-2.ensures c.in_ok-push_words-3.ensures c.in_ok-push_words-4.ensures

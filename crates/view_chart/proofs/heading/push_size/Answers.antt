use Rattle.view_chart.specs.Heading.{frame_text, size_text}
use Rattle.view_chart.proofs.Joined.{three_pieces}
use Rattle.view_chart.proofs.heading.push_size.Goals as goal

pub returns : goal.returns
unfolding size_text
returns c =
    three_pieces c.args.text.now.items _ (frame_text c.args.width c.args.height) _ _ _ _
    c.in_ok-push_words.ensures c.in_ok-push_frame.ensures c.in_ok-push_words-2.ensures

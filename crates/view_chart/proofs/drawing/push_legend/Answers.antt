use Rattle.std.specs.Prelude.{codes}
use Rattle.view_chart.specs.Drawing.{legend_of_notes, legend_text}
use Rattle.view_chart.specs.Pieces.{piece_with_number}
use Rattle.view_chart.proofs.Joined.{four_pieces}
use Rattle.view_chart.proofs.drawing.push_legend.Goals as goal

pub returns : goal.returns
unfolding legend_text
returns c =
    four_pieces c.args.text.now.items
    (piece_with_number (codes "<g transform=\"translate(0 ") c.args.top) _
    (legend_of_notes c.args.covers) _ _ _ _ _ c.in_ok-push_after.ensures
    c.in_ok-push_words.ensures
    (rw c.legend_of_notes.ensures at c.in_ok-push_words-2.ensures) c.in_ok-push_words-3.ensures

use Rattle.view_chart.specs.Drawing.{arrow_text, arrow_way, arrow_title}
use Rattle.view_chart.proofs.Joined.{three_pieces}
use Rattle.view_chart.proofs.drawing.push_arrow.Goals as goal

pub returns : goal.returns
unfolding arrow_text
returns c =
    three_pieces c.args.text.now.items (arrow_way c.args.window.now c.args.arrow)
    (arrow_title c.args.arrow) _ _ _ _ c.in_ok-push_way.ensures c.in_ok-push_run.ensures
    c.in_ok-push_words.ensures

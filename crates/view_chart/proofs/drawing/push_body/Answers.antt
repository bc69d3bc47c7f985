use Rattle.std.specs.List.{flat_map}
use Rattle.view_chart.specs.Drawing.{arrow_text, span_text}
use Rattle.view_chart.specs.Notes.{notes_text}
use Rattle.view_chart.specs.Pictures.{body_text}
use Rattle.view_chart.proofs.Joined.{three_pieces}
use Rattle.view_chart.proofs.drawing.push_body.Goals as goal

pub returns : goal.returns
unfolding body_text
returns c =
    three_pieces c.args.text.now.items
    (flat_map (span_text c.args.window.now) c.args.spans.now)
    (flat_map (arrow_text c.args.window.now) c.args.arrows.now)
    (notes_text c.args.window.now c.args.covers c.args.notes.now) _ _ _
    c.in_ok-push_spans.ensures c.in_ok-push_arrows.ensures c.in_ok-push_notes.ensures

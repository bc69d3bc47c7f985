use Rattle.std.specs.List.{flat_map}
use Rattle.view_chart.specs.Notes.{notes_group, drawn_note_text}
use Rattle.view_chart.proofs.Joined.{three_pieces}
use Rattle.view_chart.proofs.notes.push_group.Goals as goal

pub returns : goal.returns
unfolding notes_group
returns c =
    three_pieces c.args.text.now.items _
    (flat_map (drawn_note_text c.args.window.now) c.args.notes.now) _ _ _ _
    c.in_ok-push_words.ensures c.in_ok-push_each.ensures c.in_ok-push_words-2.ensures

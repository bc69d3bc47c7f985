use Rattle.std.proofs.Common.{◌≡◌, ◌++◌, drop}
use Rattle.std.specs.List.{flat_map}
use Rattle.view_chart.specs.Notes.{drawn_note_text}
use Rattle.view_chart.proofs.notes.push_each.Given as goal

abbrev pub invariant-loop-note : goal.invariant-loop-note
invariant-loop-note l =
    record {
      text :
          l.text.items ++ flat_map (drawn_note_text l.window) (drop l.note-index l.notes)
          ≡ l.fn.text.items ++ flat_map (drawn_note_text l.window) l.notes;
    }

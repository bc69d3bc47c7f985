use Rattle.std.proofs.Common.{◌≡◌, ◌++◌, drop}
use Rattle.std.specs.List.{flat_map}
use Rattle.view_text.specs.Lists.{note_text}
use Rattle.view_text.proofs.lists.push_notes.Given as goal

abbrev pub invariant-loop-note : goal.invariant-loop-note
invariant-loop-note l =
    record {
      text :
          l.text.items ++ flat_map note_text (drop l.note-index l.notes)
          ≡ l.fn.text.items ++ flat_map note_text l.notes;
    }

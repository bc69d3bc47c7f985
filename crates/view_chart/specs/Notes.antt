-- who answers for idle CPUs: in words, and as notes in a picture
use Rattle.std.specs.Prelude.{ℕ, Bool, true, false, List, [], ◌++◌, codes}
use Rattle.std.specs.List.{flat_map}
use Rattle.tm_report.specs.declared.lines.ShownCover.{ShownCover}
use Rattle.tm_report.specs.declared.lines.ShownCover.TheVariants as covers
use Rattle.view_chart.specs.declared.model.Note.{Note}
use Rattle.view_chart.specs.declared.model.Window.{Window}
use Rattle.view_chart.specs.Drawing.{row_of}
use Rattle.view_chart.specs.Pieces.{piece_with_number, three, two}

-- who answers, in words
unfoldable pub cover_text : ShownCover → List ℕ
cover_text (covers.Migrator level place cpu) =
    three (codes ": group ") level (codes ":") place (codes ", which leads to CPU ") cpu.0
cover_text (covers.Wake cpu at) = two (codes ": CPU ") cpu.0 (codes " wakes at ") at

-- AN ANSWER, in words: for whom, for which time, and who answers
unfoldable pub answer_text : Note → List ℕ
answer_text n =
    two (codes ": for CPU ") n.cpu.0 (codes ", whose first timer is due at ") n.wheel
    ++ cover_text n.cover

-- the CPU that answers
abbrev pub cover_answerer : ShownCover → ℕ
cover_answerer (covers.Migrator level place cpu) = cpu.0
cover_answerer (covers.Wake cpu at) = cpu.0

-- the number of the CPU that answers, in the row of the one that sleeps
unfoldable pub number_text : Window → Note → List ℕ
number_text w n =
    three (codes "<text role=\"img\" x=\"") n.point.column (codes "\" y=\"") (row_of w n.cpu.0)
    (codes "\">") (cover_answerer n.cover)

-- its title
unfoldable pub note_title : Note → List ℕ
note_title n =
    piece_with_number (codes "<title>jiffy ") n.point.at
    ++ (answer_text n ++ codes "</title></text>\n")

-- A NOTE in a picture: a number, and its title
unfoldable pub drawn_note_text : Window → Note → List ℕ
drawn_note_text w n = number_text w n ++ note_title n

-- notes, below the lines of CPUs that sleep
unfoldable pub notes_group : Window → List Note → List ℕ
notes_group w ns =
    codes "<g class=\"n\" transform=\"translate(.2 1.5)\">\n"
    ++ (flat_map (drawn_note_text w) ns ++ codes "</g>\n")

-- THE NOTES of a picture, if they are chosen
abbrev pub notes_text : Window → (covers : Bool) → List Note → List ℕ
notes_text w true ns = notes_group w ns
notes_text w false ns = []

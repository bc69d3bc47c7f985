-- what is listed below a chart: expiries, and who answers
use Rattle.std.specs.Prelude.{ℕ, List, ◌++◌, codes}
use Rattle.std.specs.Fmt.{decimal}
use Rattle.view_chart.specs.declared.model.Arrow.{Arrow}
use Rattle.view_chart.specs.declared.model.Note.{Note}
use Rattle.view_chart.specs.Notes.{answer_text}

-- AN EXPIRY, from its home to its runner
unfoldable pub run_text : Arrow → List ℕ
run_text a =
    decimal a.point.at ++ (codes ": CPU " ++ (decimal a.runner.0
    ++ (codes " runs timer " ++ (decimal a.timer.0
    ++ (codes " of CPU " ++ (decimal a.home.0 ++ codes "\n"))))))

-- WHO ANSWERS for an idle CPU, in the words that a picture has too
unfoldable pub note_text : Note → List ℕ
note_text n = decimal n.point.at ++ (answer_text n ++ codes "\n")

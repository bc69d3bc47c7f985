-- the text of a day: a line for each number of its summary
use Rattle.std.specs.Prelude.{ℕ, List, [], ◌∷◌, codes}
use Rattle.std.specs.List.{flat_map}
use Rattle.text_words.specs.Words.{ended}
use Rattle.tm_script.specs.Texts.{number_line}
use Rattle.run_moments.specs.core_plays.declared.numbers.Summary.{Summary}

-- the lines of a day: each number with its name
abbrev pub day_lines : Summary → List (List ℕ)
day_lines s =
    number_line (codes "moments") s.moments ∷ number_line (codes "runs") s.runs
    ∷ number_line (codes "remote") s.remote ∷ number_line (codes "armed") s.armed
    ∷ number_line (codes "cancels") s.cancels ∷ number_line (codes "idles") s.idles
    ∷ number_line (codes "stays") s.stays ∷ number_line (codes "wakes") s.wakes
    ∷ number_line (codes "refused") s.refused ∷ number_line (codes "left") s.left
    ∷ number_line (codes "end") s.end ∷ []

-- THE TEXT of a day
unfoldable pub day_text : Summary → List ℕ
day_text s = flat_map ended (day_lines s)

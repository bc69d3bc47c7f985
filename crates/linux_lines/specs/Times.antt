-- the times at the heads of lines
use Rattle.std.specs.Prelude.{ℕ, ◌+◌, ◌*◌, ◌==◌, ◌&&◌, nat_le, List, [], ◌∷◌, length, codes}
use Rattle.std.specs.Prelude.{Option, Some, None, option_and_then, if◌then◌else◌}
use Rattle.text_words.specs.Words.{split}
use Rattle.linux_lines.specs.declared.numbers.Base.TheVariants.{Ten}
use Rattle.linux_lines.specs.declared.times.TheConstants.{MOST_SECONDS, NANOS}
use Rattle.linux_lines.specs.Numbers.{number_of}
use Rattle.linux_lines.specs.Parts.{before}

-- the nanoseconds of a time: its fraction in units of so many, and what of the last one is counted
unfoldable pub nanos : Option ℕ → Option ℕ → ℕ → ℕ → Option ℕ
nanos None fraction unit more = None
nanos (Some seconds) None unit more = None
nanos (Some seconds) (Some fraction) unit more =
    if nat_le seconds MOST_SECONDS && nat_le fraction NANOS
    then Some (seconds * NANOS + fraction * unit + more) else None

-- six places are microseconds, counted to the last one's end, and nine are nanoseconds
unfoldable pub time_between : List ℕ → List ℕ → Option ℕ
time_between seconds fraction =
    if length fraction == 6 then nanos (number_of Ten seconds) (number_of Ten fraction) 1000 999
    else if length fraction == 9 then nanos (number_of Ten seconds) (number_of Ten fraction) 1 0
    else None

-- the time of what stands between the points; what stands behind a second one is passed over
abbrev pub time_in : List (List ℕ) → Option ℕ
time_in [] = None
time_in (seconds ∷ []) = None
time_in (seconds ∷ fraction ∷ more) = time_between seconds fraction

-- the time that digits with a point spell
unfoldable pub time_of : List ℕ → Option ℕ
time_of digits = time_in (split 46 digits)

-- the time of the part that ends the head of a line
unfoldable pub stamp_time : List ℕ → Option ℕ
stamp_time part = option_and_then time_of (before (codes ":") part)

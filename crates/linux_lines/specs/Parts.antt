-- the parts of a line: what stands between its runs of blanks
use Rattle.std.specs.Prelude.{ℕ, List, [], ◌∷◌, length, take, drop, filter, Bool, true, false, ◌-◌}
use Rattle.std.specs.Prelude.{codes, Option, Some, None, Result, Ok, Err, if◌then◌else◌, bytes_eq}
use Rattle.std.specs.Prelude.{option_and_then}
use Rattle.text_words.specs.Words.{words_of}
use Rattle.linux_lines.specs.declared.faults.LineFault.{LineFault}
use Rattle.linux_lines.specs.declared.faults.LineFault.TheVariants.{FieldMissing}

-- a part that is not empty
abbrev pub is_filled : List ℕ → Bool
is_filled [] = false
is_filled (c ∷ cs) = true

-- the parts of a line between its spaces
abbrev pub parts_of : List ℕ → List (List ℕ)
parts_of line = filter is_filled (words_of line)

-- what stands behind these first bytes of a part
abbrev pub behind : List ℕ → List ℕ → Option (List ℕ)
behind first part =
    if bytes_eq (take (length first) part) first then Some (drop (length first) part) else None

-- what stands behind, or all where that isn't there
abbrev pub or_all : Option (List ℕ) → List ℕ → List ℕ
or_all None word = word
or_all (Some rest) word = rest

-- what stands before these last bytes of a part
abbrev pub before : List ℕ → List ℕ → Option (List ℕ)
before last part =
    if bytes_eq (drop (length part - length last) part) last
    then Some (take (length part - length last) part) else None

-- a part without these first bytes, where it begins so
abbrev pub without : List ℕ → List ℕ → List ℕ
without first part = or_all (behind first part) part

-- what stands in square brackets, where the part is that
abbrev pub bracketed : List ℕ → Option (List ℕ)
bracketed part = option_and_then (before (codes "]")) (behind (codes "[") part)

-- the value of the first part that begins with this key
abbrev pub value_in : List ℕ → List (List ℕ) → Result (List ℕ) LineFault
value_in key [] = Err FieldMissing
value_in key (p ∷ ps) =
    if bytes_eq (take (length key) p) key then Ok (drop (length key) p) else value_in key ps

-- a field of this key stands there
abbrev pub is_found : Result (List ℕ) LineFault → Bool
is_found (Ok value) = true
is_found (Err fault) = false

-- some part begins with this key
unfoldable pub has_key : List ℕ → List (List ℕ) → Bool
has_key key parts = is_found (value_in key parts)

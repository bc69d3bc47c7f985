-- lines and words
use Rattle.std.specs.Prelude.{ℕ, List, [], ◌∷◌, ◌++◌, ◌==◌}
use Rattle.std.specs.List.{slice_split, join_with_byte}

-- what stands between the bytes c
abbrev pub split : ℕ → List ℕ → List (List ℕ)
split c bytes = slice_split (λ b. b == c) bytes

-- What stands between the line feeds. The last part is what stands behind the last of them; no
-- line feed ends it.
abbrev pub lines_of : List ℕ → List (List ℕ)
lines_of bytes = split 10 bytes

-- A line's words: the pieces between its single spaces, empty pieces included.
abbrev pub words_of : List ℕ → List (List ℕ)
words_of line = split 32 line

-- a line of these words, parted by one space each
abbrev pub spaced : List (List ℕ) → List ℕ
spaced words = join_with_byte 32 words

-- a line feed ends each line
abbrev pub ended : List ℕ → List ℕ
ended line = line ++ 10 ∷ []

-- how a line of a text is printed
use Rattle.std.specs.Prelude.{ℕ, ◌&&◌, nat_le, nat_lt, Bool, false, List, [], ◌∷◌, ◌++◌, codes}
use Rattle.std.specs.Prelude.{length, map, take, if◌then◌else◌}
use Rattle.std.specs.Str.{bytes_eq}
use Rattle.text_words.specs.Words.{words_of}
use Rattle.view_hints.specs.declared.lines.TheConstants.{FIRST_PRINTED, LAST_PRINTED, MOST_PRINTED}
use Rattle.view_hints.specs.declared.lines.TheConstants.{UNPRINTED}

-- the first of these words is this one
abbrev pub is_first_of : List (List ℕ) → (word : List ℕ) → Bool
is_first_of [] word = false
is_first_of (first ∷ behind) word = bytes_eq first word

-- a line begins with this word
abbrev pub is_first_word : (line word : List ℕ) → Bool
is_first_word line word = is_first_of (words_of line) word

-- what is printed of a byte: itself, or a question mark for what no terminal shows
abbrev pub printed_byte : ℕ → ℕ
printed_byte b =
    if nat_le FIRST_PRINTED b && nat_le b LAST_PRINTED then b else UNPRINTED

-- a line as it is printed: its first bytes, and dots where it has more
abbrev pub printed_line : (line : List ℕ) → List ℕ
printed_line line =
    if nat_lt MOST_PRINTED (length line) then
    map printed_byte (take MOST_PRINTED line) ++ codes " .."
    else map printed_byte line

-- rows of a page: a label, and a text within a width behind it
use Rattle.std.specs.Prelude.{ℕ, ◌+◌, ◌-◌, ◌==◌, ◌||◌, nat_lt, List, [], ◌∷◌, ◌++◌, codes, length}
use Rattle.std.specs.Prelude.{replicate, if◌then◌else◌}
use Rattle.std.specs.List.{flat_map, list_any}
use Rattle.std.specs.Str.{bytes_eq}
use Rattle.text_words.specs.Words.{lines_of, words_of}
use Rattle.page_rows.specs.declared.rows.TheConstants.{LABEL, SPACE}
use Rattle.page_rows.specs.declared.sheets.Sheet.{Sheet}

-- a text, and spaces behind it up to a width
abbrev pub padded : (width : ℕ) → List ℕ → List ℕ
padded width text = text ++ replicate (width - length text) SPACE

-- what stands in front of a word of so many characters, behind so many of a line: nothing at the
-- start of a line, a space where the word has room, else a new line
abbrev pub gap_of : (indent width at count : ℕ) → List ℕ
gap_of indent width at count =
    if at == 0 then []
    else (if nat_lt count (width - at) then codes " " else (codes "\n" ++ replicate indent SPACE))

-- how many characters of the line stand behind that word
abbrev pub place_behind : (width at count : ℕ) → ℕ
place_behind width at count =
    if at == 0 then count else (if nat_lt count (width - at) then at + 1 + count else count)

-- WORDS WITHIN A WIDTH, behind so many characters of a line: each line holds what has room, and
-- each further line begins with so many spaces
unfoldable pub filled : (indent width at : ℕ) → List (List ℕ) → List ℕ
filled indent width at [] = []
filled indent width at (word ∷ rest) =
    (gap_of indent width at (length word) ++ word)
    ++ filled indent width (place_behind width at (length word)) rest

-- A ROW: its label, and behind so many characters a text within a width
unfoldable pub row_text : (label : List ℕ) → (indent width : ℕ) → (text : List ℕ) → List ℕ
row_text label indent width text =
    padded indent label ++ (filled indent width 0 (words_of text) ++ codes "\n")

-- a line across all columns, if it isn't empty and isn't one of those that were shown
abbrev pub fresh_row : Sheet → (shown : List ℕ) → (line : List ℕ) → List ℕ
fresh_row sheet shown line =
    if length line == 0 || list_any (λ other. bytes_eq other line) (lines_of shown) then []
    else row_text [] LABEL sheet.across line

-- THE LINES OF A TEXT THAT WEREN'T SHOWN, each across all columns
unfoldable pub fresh_rows : Sheet → (shown : List ℕ) → (lines : List ℕ) → List ℕ
fresh_rows sheet shown lines = flat_map (fresh_row sheet shown) (lines_of lines)

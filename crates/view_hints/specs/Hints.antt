-- what is told of a line at fault
use Rattle.std.specs.Prelude.{ℕ, ◌-◌, ◌==◌, ◌&&◌, nat_lt, Bool, false, List, [], ◌++◌, codes}
use Rattle.std.specs.Prelude.{Option, Some, None, is_none, length, slice_get, if◌then◌else◌}
use Rattle.std.specs.Str.{bytes_eq}
use Rattle.std.specs.Fmt.{decimal}
use Rattle.text_words.specs.Words.{lines_of}
use Rattle.view_hints.specs.Forms.{script_form, trace_form}
use Rattle.view_hints.specs.Lines.{is_first_word, printed_line}

-- the line of a number from 1, where there is one; the last is what stands behind the last line
-- feed
abbrev pub line_of : (bytes : List ℕ) → (number : ℕ) → Option (List ℕ)
line_of bytes number = slice_get (lines_of bytes) (number - 1)

-- what a line has, and nothing where there is no line
abbrev pub bytes_of : Option (List ℕ) → List ℕ
bytes_of None = []
bytes_of (Some line) = line

-- a line is this one
abbrev pub is_line : Option (List ℕ) → (line : List ℕ) → Bool
is_line None line = false
is_line (Some other) line = bytes_eq other line

-- the lines in front of a script's moments: the second version has one more
abbrev pub heads_of : (bytes : List ℕ) → ℕ
heads_of bytes = if is_line (line_of bytes 1) (codes "tmig 2") then 5 else 4

-- the line behind this one isn't there: no line feed ends this one
abbrev pub is_unended : (bytes : List ℕ) → (number : ℕ) → Bool
is_unended bytes number = is_none (slice_get (lines_of bytes) number)

-- that a line stands there, and whether no line feed ends it
abbrev pub closing_text : (is_open : Bool) → List ℕ
closing_text is_open =
    if is_open then codes "' stands there, with no line feed behind it\n"
    else codes "' stands there\n"

-- what stands on a line
abbrev pub stands_text : (line : List ℕ) → (is_open : Bool) → List ℕ
stands_text line is_open =
    if length line == 0 then codes "nothing stands there\n"
    else (codes "'" ++ (printed_line line ++ closing_text is_open))

-- THE HINT of a line: what is wanted on it, and what stands there
unfoldable pub hint_text : (number : ℕ) → (wanted line : List ℕ) → (is_open : Bool) → List ℕ
hint_text number wanted line is_open =
    codes "line " ++ (decimal number ++ (codes ": " ++ (wanted
    ++ (codes " is wanted here, and " ++ stands_text line is_open))))

-- behind the last line nothing may stand
abbrev pub or_nothing : (number : ℕ) → (is_behind : Bool) → (wanted : List ℕ) → List ℕ
or_nothing number is_behind wanted =
    if nat_lt 1 number && is_behind then codes "nothing more" else wanted

-- WHAT IS TOLD OF A LINE OF A SCRIPT that is at fault, by its number from 1
abbrev pub script_hint : (bytes : List ℕ) → (number : ℕ) → List ℕ
script_hint bytes number =
    hint_text number
    (or_nothing number (is_first_word (bytes_of (line_of bytes (number - 1))) (codes "end"))
    (script_form (heads_of bytes) number (bytes_of (line_of bytes number))))
    (bytes_of (line_of bytes number)) (is_unended bytes number)

-- WHAT IS TOLD OF A LINE OF A TRACE OF STEPS that is at fault, by its number from 1
abbrev pub steps_hint : (bytes : List ℕ) → (number : ℕ) → List ℕ
steps_hint bytes number =
    hint_text number
    (or_nothing number (is_line (line_of bytes (number - 1)) (codes "end"))
    (trace_form number (bytes_of (line_of bytes number))))
    (bytes_of (line_of bytes number)) (is_unended bytes number)

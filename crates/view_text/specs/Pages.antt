-- a chart in pages: a row for each CPU, and a character for each column
use Rattle.std.specs.Prelude.{ℕ, zero, suc, ◌+◌, ◌-◌, ◌*◌, ◌/◌, ◌==◌, ◌&&◌, nat_le, nat_lt, min}
use Rattle.std.specs.Prelude.{Bool, List, [], ◌∷◌, ◌++◌, codes, length, replicate, Option, Some}
use Rattle.std.specs.Prelude.{None, if◌then◌else◌}
use Rattle.std.specs.Fmt.{decimal}
use Rattle.view_chart.specs.declared.model.Point.{Point}
use Rattle.view_chart.specs.declared.model.Span.{Span}
use Rattle.view_chart.specs.declared.said.State.{State}
use Rattle.view_chart.specs.declared.said.State.TheVariants as states
use Rattle.view_text.specs.declared.pages.TheConstants.{ASLEEP, AWAKE, LABEL, OFFLINE, SPACE}
use Rattle.view_text.specs.declared.pages.TheConstants.{WIDTH}

-- the character of a state
abbrev pub sign_of : State → ℕ
sign_of states.Awake = AWAKE
sign_of (states.Asleep until) = ASLEEP
sign_of states.Offline = OFFLINE

-- how far a column is behind the begin of a page, at most as far as a page goes
abbrev pub within : (begin column : ℕ) → ℕ
within begin column = min (column - begin) WIDTH

-- A SPAN in a page: its state's character in each of its columns there
abbrev pub signs_of : (begin : ℕ) → Span → List ℕ
signs_of begin s =
    replicate (within begin s.to.column - within begin s.from.column) (sign_of s.state)

-- a text, and spaces behind it up to a width
abbrev pub padded : (width : ℕ) → List ℕ → List ℕ
padded width text = text ++ replicate (width - length text) SPACE

-- the label of a row
abbrev pub label_text : (c : ℕ) → List ℕ
label_text c = padded LABEL (codes "CPU " ++ decimal c)

-- what stands in front of a span, behind one of this CPU, or of none
abbrev pub front_of : (before : Option ℕ) → (c : ℕ) → List ℕ
front_of None c = label_text c
front_of (Some d) c = if d == c then [] else (codes "\n" ++ label_text c)

-- THE ROWS of a page: the spans of each CPU behind its label
unfoldable pub rows_from : (begin : ℕ) → (before : Option ℕ) → List Span → List ℕ
rows_from begin before [] = codes "\n"
rows_from begin before (s ∷ rest) =
    front_of before s.cpu.0 ++ (signs_of begin s ++ rows_from begin (Some s.cpu.0) rest)

-- whether a text has room in a page from a column on, behind so many characters, and a space
-- behind it
abbrev pub has_room : (begin at column count : ℕ) → Bool
has_room begin at column count =
    nat_le begin column && (nat_le at (column - begin)
    && (nat_le (column - begin) WIDTH && nat_lt count (WIDTH - (column - begin))))

-- THE JIFFIES above a page, behind so many characters: those of lines, where they have room
unfoldable pub ruler_from : (begin at : ℕ) → List Point → List ℕ
ruler_from begin at [] = codes "\n"
ruler_from begin at (p ∷ rest) =
    if has_room begin at p.column (length (decimal p.at)) then
    replicate (p.column - begin - at) SPACE
    ++ (decimal p.at
    ++ (codes " " ++ ruler_from begin (p.column - begin + length (decimal p.at) + 1) rest))
    else ruler_from begin at rest

-- A PAGE, from a column on
unfoldable pub page_text : (begin : ℕ) → List Point → List Span → List ℕ
page_text begin points spans =
    replicate LABEL SPACE ++ (ruler_from begin 0 points ++ rows_from begin None spans)

-- so many pages
abbrev pub pages_below : (count : ℕ) → List Point → List Span → List ℕ
pages_below zero points spans = []
pages_below (suc n) points spans = pages_below n points spans ++ page_text (WIDTH * n) points spans

-- the column at which the last of these spans ends
abbrev pub end_of : (before : ℕ) → List Span → ℕ
end_of before [] = before
end_of before (s ∷ rest) = end_of s.to.column rest

-- how many pages so many columns need
abbrev pub page_count : (columns : ℕ) → ℕ
page_count columns = if columns == 0 then 0 else (columns - 1) / WIDTH + 1

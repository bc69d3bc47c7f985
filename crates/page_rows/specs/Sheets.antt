-- the columns of a page, and its first line
use Rattle.std.specs.Prelude.{ℕ, ◌+◌, ◌-◌, ◌*◌, ◌/◌, ◌==◌, ◌&&◌, nat_lt, max, min, true, List}
use Rattle.std.specs.Prelude.{[], ◌∷◌, ◌++◌, codes, length, replicate, take, Option, Some, None}
use Rattle.std.specs.Prelude.{unwrap_or, if◌then◌else◌}
use Rattle.std.specs.Fmt.{decimal}
use Rattle.std.specs.List.{position}
use Rattle.page_rows.specs.declared.rows.TheConstants.{GAP, LABEL, SPACE}
use Rattle.page_rows.specs.declared.sheets.TheConstants.{LEAST}
use Rattle.page_rows.specs.declared.sheets.Place.{Place}
use Rattle.page_rows.specs.declared.sheets.Sheet.{Sheet}

-- so many characters all columns have together
abbrev pub across_of : (page : ℕ) → ℕ
across_of page = max (page - LABEL) LEAST

-- so many columns there are
abbrev pub columns_of : (page count : ℕ) → ℕ
columns_of page count = max (min count (across_of page / LEAST)) 1

-- THE COLUMNS of a page that is so wide, for so many CPUs: each as wide as the page allows
abbrev pub sheet_of : (page count : ℕ) → Sheet
sheet_of page count = record {
  columns = columns_of page count;
  width = across_of page / columns_of page count;
  across = across_of page;
}

-- the number of a CPU's column: where more CPUs make steps than there are columns, the last is that
-- of all the others
abbrev pub column_of : (cpus : List ℕ) → (columns c : ℕ) → ℕ
column_of cpus columns c = min (unwrap_or (position (λ d. d == c) cpus) 0) (columns - 1)

-- the place that is a column
abbrev pub place_at : Sheet → (count column : ℕ) → Place
place_at sheet count column = record {
  indent = LABEL + column * sheet.width;
  width = sheet.width - GAP;
  shared = nat_lt sheet.columns count && (column + 1 == sheet.columns);
}

-- THE PLACE of what a CPU does: its column; what no CPU does stands across all of them
abbrev pub place_for : Sheet → (cpus : List ℕ) → (actor : Option ℕ) → Place
place_for sheet cpus (Some c) =
    place_at sheet (length cpus) (column_of cpus sheet.columns c)
place_for sheet cpus None = record { indent = LABEL; width = sheet.across; shared = true }

-- the name of a CPU
abbrev pub head_of : (c : ℕ) → List ℕ
head_of c = codes "CPU " ++ decimal c

-- the names of CPUs, the first behind so many spaces and the others each at its column
unfoldable pub heads_from : (width gap : ℕ) → List ℕ → List ℕ
heads_from width gap [] = []
heads_from width gap (c ∷ rest) =
    (replicate gap SPACE ++ head_of c) ++ heads_from width (width - length (head_of c)) rest

-- that the last column has further CPUs
abbrev pub others_text : Sheet → (count : ℕ) → List ℕ
others_text sheet count =
    if nat_lt sheet.columns count then codes " and others\n" else codes "\n"

-- THE FIRST LINE: whose each column is
unfoldable pub heading : Sheet → (cpus : List ℕ) → List ℕ
heading sheet cpus =
    codes "step" ++ (heads_from sheet.width (LABEL - 4) (take sheet.columns cpus)
    ++ others_text sheet (length cpus))

-- the name of an event of timer migration that isn't known
use Rattle.std.specs.Prelude.{ℕ, List, [], ◌∷◌, ◌&&◌, Bool, false, codes, if◌then◌else◌}
use Rattle.linux_lines.specs.Lines.{bare, is_migration, is_stamp}
use Rattle.linux_lines.specs.Parts.{before, or_all, parts_of}

-- the first part behind a time that begins with tmigr_, without the name of its system; nothing
-- where there is none
abbrev pub name_from : Bool → List (List ℕ) → List ℕ
name_from is_behind [] = []
name_from is_behind (p ∷ ps) =
    if is_behind && is_migration (bare p) then bare p else name_from (is_stamp p) ps

-- THE NAME in such an event's line, without the colon at its end
unfoldable pub strange_name : List ℕ → List ℕ
strange_name line =
    or_all (before (codes ":") (name_from false (parts_of line))) (name_from false (parts_of line))

-- where the buffers of all CPUs have begun: a trace whose buffers wrapped is judged from there on
use Rattle.std.specs.Prelude.{ℕ, suc, List, [], ◌∷◌, if◌then◌else◌}
use Rattle.std.specs.List.{list_any}
use Rattle.linux_lines.specs.Lines.{is_mark}

-- the lines before the last one that says that a CPU's buffer begins there; none where no line says
-- so
abbrev pub lost_lines : List (List ℕ) → ℕ
lost_lines [] = 0
lost_lines (text ∷ texts) = if list_any is_mark texts then suc (lost_lines texts) else 0

-- THE LINES THAT COUNT: from the last such line on
abbrev pub kept_lines : List (List ℕ) → List (List ℕ)
kept_lines [] = []
kept_lines (text ∷ texts) = if list_any is_mark texts then kept_lines texts else text ∷ texts

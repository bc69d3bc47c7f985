-- the line of a misfit, and what was known before it
use Rattle.std.specs.Prelude.{ℕ, zero, suc, ◌-◌, List, [], ◌∷◌, Option, Some, None, get_or}
use Rattle.linux_rules.specs.declared.judge.Course.{Course}
use Rattle.linux_rules.specs.declared.judge.Verdict.{Verdict}
use Rattle.linux_rules.specs.Judge.{start, text_after, text_verdict}
use Rattle.linux_rules.specs.Marks.{kept_lines, lost_lines}

-- the text of the line of this number, from 1; nothing where there is no such line
abbrev pub line_at : ℕ → List (List ℕ) → List ℕ
line_at line texts = get_or texts (line - 1) []

-- what stands behind a line that fits
abbrev pub course_by : Option Verdict → Option Course → Option Course
course_by None rest = rest
course_by (Some verdict) rest = None

-- what is known behind so many of these lines, where each of them fits and another one follows
unfoldable pub course_behind : ℕ → Course → List (List ℕ) → Option Course
course_behind zero k texts = Some k
course_behind (suc n) k [] = None
course_behind (suc n) k (text ∷ []) = None
course_behind (suc n) k (text ∷ next ∷ texts) =
    course_by (text_verdict k text) (course_behind n (text_after k text) (next ∷ texts))

-- WHAT WAS KNOWN before the line of this number, in a trace of these lines: of those that count
abbrev pub known_before : ℕ → List (List ℕ) → Option Course
known_before line texts =
    course_behind (line - 1 - lost_lines texts) (start texts) (kept_lines texts)

-- the text of a script of works, line by line
use Rattle.std.specs.Prelude.{ℕ, List, [], ◌∷◌, ◌++◌, map, codes}
use Rattle.std.specs.Fmt.{decimal}
use Rattle.std.specs.List.{flat_map}
use Rattle.text_words.specs.Words.{spaced, ended}
use Rattle.work_script.specs.declared.syntax.WorkScript.{WorkScript}
use Rattle.work_script.specs.declared.syntax.WorkMoment.{WorkMoment}
use Rattle.work_script.specs.declared.syntax.WorkOp.{WorkOp}
use Rattle.work_script.specs.declared.syntax.WorkOp.TheVariants.{Queue, Cancel}

-- a line of a word and numbers
abbrev pub numbers_line : List ℕ → List ℕ → List ℕ
numbers_line word numbers = spaced (word ∷ map decimal numbers)

-- the line of an operation
abbrev pub work_op_line : WorkOp → List ℕ
work_op_line (Queue line work delay job arg) =
    numbers_line (codes "queue") (work ∷ delay ∷ job ∷ arg ∷ [])
work_op_line (Cancel line work) = numbers_line (codes "cancel") (work ∷ [])

-- a moment is its time, and then a line for each operation
abbrev pub work_moment_lines : WorkMoment → List (List ℕ)
work_moment_lines m = numbers_line (codes "at") (m.at ∷ []) ∷ map work_op_line m.ops

-- the line of the end
abbrev pub end_line : ℕ → List ℕ
end_line end = numbers_line (codes "end") (end ∷ [])

-- the two lines before the moments
abbrev pub work_head_lines : (count : ℕ) → List (List ℕ)
work_head_lines count = codes "works 1" ∷ numbers_line (codes "count") (count ∷ []) ∷ []

-- all lines of a script of works
abbrev pub work_lines : WorkScript → List (List ℕ)
work_lines s =
    work_head_lines s.count ++ (flat_map work_moment_lines s.moments ++ end_line s.end ∷ [])

-- THE TEXT of a script of works: each line with its line feed
abbrev pub work_text : WorkScript → List ℕ
work_text s = flat_map ended (work_lines s)

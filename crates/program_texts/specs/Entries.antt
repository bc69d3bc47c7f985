-- lines of a word and a number
use Rattle.std.specs.Prelude.{ℕ, List}
use Rattle.std.specs.Borrow.{Bor}
use Rattle.tm_script.specs.Texts.{number_line}

-- the line of a number behind its word
abbrev pub entry_line : Bor (List ℕ) × ℕ → List ℕ
entry_line (word, n) = number_line word.now n

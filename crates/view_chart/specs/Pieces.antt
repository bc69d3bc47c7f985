-- numbers among pieces of a text
use Rattle.std.specs.Prelude.{ℕ, List, ◌++◌}
use Rattle.std.specs.Fmt.{decimal}

-- a number behind a piece
abbrev pub piece_with_number : (front : List ℕ) → (n : ℕ) → List ℕ
piece_with_number front n = front ++ decimal n

-- two numbers, each behind a piece
abbrev pub two : (front : List ℕ) → (m : ℕ) → (middle : List ℕ) → (n : ℕ) → List ℕ
two front m middle n = piece_with_number front m ++ piece_with_number middle n

-- three numbers, each behind a piece
abbrev pub three : (front : List ℕ) → (l : ℕ) → (middle : List ℕ) → (m : ℕ) → (last : List ℕ) →
    (n : ℕ) → List ℕ
three front l middle m last n = two front l middle m ++ piece_with_number last n

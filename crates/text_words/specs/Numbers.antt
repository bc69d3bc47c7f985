-- the number rule: one to thirteen digits, and no zero stands in front of another digit
use Rattle.std.specs.Prelude.{ℕ, ◌+◌, ◌-◌, ◌*◌, List, [], ◌∷◌, length, Bool, not, ◌&&◌, ◌==◌}
use Rattle.std.specs.Prelude.{nat_lt, nat_le, slice_index, Option, Some, None, if◌then◌else◌}
use Rattle.std.specs.List.{list_all}
use Rattle.std.specs.Char.{is_ascii_digit}

-- the number of digits behind those of n
abbrev pub value_from : ℕ → List ℕ → ℕ
value_from n [] = n
value_from n (c ∷ cs) = value_from (n * 10 + (c - 48)) cs

-- one to thirteen digits
abbrev pub are_digits : List ℕ → Bool
are_digits word = nat_lt 0 (length word) && nat_le (length word) 13 && list_all is_ascii_digit word

-- no zero stands in front of another digit
abbrev pub is_plain : List ℕ → Bool
is_plain word = not (slice_index word 0 == 48 && nat_lt 1 (length word))

-- whether a word is spelled as a number
unfoldable pub is_number : List ℕ → Bool
is_number word = are_digits word && is_plain word

-- the number that digits spell
unfoldable pub value_of : List ℕ → ℕ
value_of word = value_from 0 word

-- the number that a word spells
unfoldable pub number_of : List ℕ → Option ℕ
number_of word = if is_number word then Some (value_of word) else None

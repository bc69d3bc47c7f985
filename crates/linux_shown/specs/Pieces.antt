-- the pieces of which texts on a trace are made
use Rattle.std.specs.Prelude.{ℕ, zero, suc, ◌+◌, ◌/◌, ◌%◌, ◌==◌, nat_lt, List, [], ◌∷◌, ◌++◌, codes}
use Rattle.std.specs.Prelude.{Option, Some, None, if◌then◌else◌}
use Rattle.std.specs.Fmt.{decimal}
use Rattle.linux_lines.specs.declared.events.TheConstants.{NO_EXPIRY}
use Rattle.linux_seen.specs.Rests.{has_bit}
use Rattle.linux_shown.specs.declared.pieces.TheConstants.{POINTER_DIGITS}

-- a number behind these bytes
unfoldable pub count_text : List ℕ → ℕ → List ℕ
count_text before n = before ++ decimal n

-- one digit in hexadecimal
abbrev pub hex_digit : ℕ → ℕ
hex_digit d = if nat_lt d 10 then 48 + d else 87 + d

-- the last so many digits of a number in hexadecimal
unfoldable pub hex_digits : ℕ → ℕ → List ℕ
hex_digits zero n = []
hex_digits (suc count) n = hex_digits count (n / 16) ++ hex_digit (n % 16) ∷ []

-- a pointer behind these bytes, as the kernel writes it
unfoldable pub pointer_text : List ℕ → ℕ → List ℕ
pointer_text before p = before ++ hex_digits POINTER_DIGITS p

-- a time in nanoseconds behind these bytes
unfoldable pub nanos_text : List ℕ → ℕ → List ℕ
nanos_text before n = count_text before n ++ codes " ns"

-- an expiry behind these bytes, or that there is none
unfoldable pub expiry_text : List ℕ → ℕ → List ℕ
expiry_text before e = if e == NO_EXPIRY then before ++ codes "none" else nanos_text before e

-- .. or that it isn't known
unfoldable pub known_expiry : List ℕ → Option ℕ → List ℕ
known_expiry before None = before ++ codes "not known"
known_expiry before (Some e) = expiry_text before e

-- a child's number behind a space, where its bit is set
unfoldable pub child_text : ℕ → ℕ → List ℕ
child_text active k = if has_bit active k then count_text (codes " ") k else []

-- the children below this number whose bits are set, in ascending order
unfoldable pub children_below : ℕ → ℕ → List ℕ
children_below zero active = []
children_below (suc k) active = children_below k active ++ child_text active k

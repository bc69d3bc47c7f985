-- counts that stay within their type
use Rattle.std.specs.Prelude.{ℕ, ◌+◌, nat_lt, Bool, true, false, if◌then◌else◌}

-- the most that is counted
abbrev pub MOST : ℕ
MOST = 18446744073709551615

-- one more, or the same at the end of the type
abbrev pub counted : ℕ → ℕ
counted n = if nat_lt n MOST then n + 1 else n

-- counted, or not
abbrev pub counted_if : Bool → ℕ → ℕ
counted_if true n = counted n
counted_if false n = n

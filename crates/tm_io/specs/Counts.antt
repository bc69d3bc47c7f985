-- Counts of 64 bits. They never fall, and one that stands at the end of its type counts as risen.
use Rattle.std.specs.Prelude.{◌≡◌, ◌⊎◌, ℕ, ◌+◌, ◌-◌, ◌^◌, ◌<◌, min}

-- one more, or the same at the end of the type
abbrev pub counted_up : ℕ → ℕ
counted_up count = min (count + 1) (2 ^ 64 - 1)

-- the count stands still at the end of its type
abbrev pub StandsStill : ℕ → ℕ → Type 0
StandsStill before after = (before ≡ 2 ^ 64 - 1) × (after ≡ before)

-- the count rose, or stands still at the end of its type
abbrev pub HasRisen : ℕ → ℕ → Type 0
HasRisen before after = (before < after) ⊎ StandsStill before after

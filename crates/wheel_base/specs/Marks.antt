-- wheel expiries as the marks of the levels show them: cited by no public clause
use Rattle.std.specs.Prelude.{◌≡◌, ◌⊎◌, ℕ, ◌+◌, ◌*◌, ◌%◌, ◌<◌, ◌≤◌, List, [], ◌∷◌, Option}
use Rattle.std.specs.Prelude.{MatchOption}
use Rattle.std.specs.Int.{bit_at}
use Rattle.wheel_core.specs.declared.item.Item.{Item}
use Rattle.wheel_core.specs.WheelExpiry.{granularity}
use Rattle.wheel_base.specs.Files.{Entry, place_at}

-- an entry of a list
abbrev pub Among : Entry → List Entry → Type 0
Among e [] = ⊥
Among e (first ∷ filed) = (first ≡ e) ⊎ Among e filed

-- a granule's end of its level, less than 64 granules from a time on
pub record IsNear (time : ℕ) (item : Item) : Type 0 where
  pub level : item.level < 9
  pub granule : item.wheel % granularity item.level ≡ 0
  pub from : time ≤ item.wheel
  pub near : item.wheel < time + 64 * granularity item.level

-- each of these entries is near a time
abbrev pub AreNear : (time : ℕ) → List Entry → Type 0
AreNear time filed = (e : Entry) → Among e filed → IsNear time e.1

-- the first granule's end from a time on that is marked
pub record IsNextMark (word level time wheel : ℕ) : Type 0 where
  pub granule : wheel % granularity level ≡ 0
  pub from : time ≤ wheel
  pub near : wheel < time + 64 * granularity level
  pub marked : bit_at word (place_at level wheel) ≡ 1
  pub first : (earlier : ℕ) → earlier % granularity level ≡ 0 → time ≤ earlier → earlier < wheel
      → bit_at word (place_at level earlier) ≡ 0

-- no entry is of a level below this one
abbrev pub NoneBelow : (level : ℕ) → List Entry → Type 0
NoneBelow level filed = (e : Entry) → Among e filed → level ≤ e.1.level

-- an entry below a level has this wheel expiry, and none there has a lesser one
pub record LeastBelow (level : ℕ) (filed : List Entry) (wheel : ℕ) : Type 0 where
  pub entry : Entry
  pub among : Among entry filed
  pub below : entry.1.level < level
  pub wheel_is : entry.1.wheel ≡ wheel
  pub least : (e : Entry) → Among e filed → e.1.level < level → wheel ≤ e.1.wheel

-- the least wheel expiry of the entries below a level, if there are any
abbrev pub IsLeastBelow : (level : ℕ) → List Entry → Option ℕ → Type 0
IsLeastBelow level filed best = MatchOption best (NoneBelow level filed) (LeastBelow level filed)

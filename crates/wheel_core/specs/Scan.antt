-- what one pass over a list of items finds (no public clause cites it)
use Rattle.std.specs.Prelude.{◌≡◌, ℕ, ◌<◌, Option, Some, None, MatchOption}
use Rattle.std.specs.Prelude.{List, length, remove, slice_get}
use Rattle.wheel_core.specs.declared.item.Item.{Item}
use Rattle.wheel_core.specs.declared.scan.Scan.{Scan}
use Rattle.wheel_core.specs.PlainBase.{first_out, item_of, least, out_at, without}

-- what goes out first of the items of a wheel expiry stands at a place, and this is the least
-- expiry of the others
pub record IsOut (wheel : ℕ) (items : List Item) (place : ℕ) (others : Option ℕ) : Type 0 where
  pub within : place < length items
  pub out : slice_get items place ≡ first_out wheel items
  pub left : others ≡ least (remove items place)

-- no item has the wheel expiry, and this is the least expiry of all
pub record NoneOut (wheel : ℕ) (items : List Item) (others : Option ℕ) : Type 0 where
  pub out : first_out wheel items ≡ None
  pub left : others ≡ least items

-- the place of what goes out first of a wheel expiry, with the least expiry of the others; or no
-- item has that expiry, and this is the least of all
abbrev pub MatchOut : (wheel : ℕ) → List Item → Option ℕ → Option ℕ → Type 0
MatchOut wheel items None others = NoneOut wheel items others
MatchOut wheel items (Some place) others = IsOut wheel items place others

-- a scan found what goes out first of a wheel expiry, or that no item has it
abbrev pub IsScan : (wheel : ℕ) → List Item → Scan → Type 0
IsScan wheel items scan = MatchOut wheel items scan.out scan.others

-- what goes out of a list at a time stands at this place, and this is the least expiry of the
-- others
pub record IsNextAt (now : ℕ) (items : List Item) (others : Option ℕ) (place : ℕ) : Type 0 where
  pub within : place < length items
  pub out : slice_get items place ≡ out_at now (least items) items
  pub left : others ≡ least (remove items place)

-- a scan has found the place of what goes out at a time, and the least expiry of the others; or
-- nothing goes out
abbrev pub IsNext : (now : ℕ) → List Item → Scan → Type 0
IsNext now items scan =
    MatchOption scan.out (out_at now (least items) items ≡ None) (IsNextAt now items scan.others)

-- the item of an id stands at this place
pub record IsPlaceOf (id : ℕ) (items : List Item) (place : ℕ) : Type 0 where
  pub within : place < length items
  pub item : slice_get items place ≡ item_of id items
  pub rest : remove items place ≡ without id items

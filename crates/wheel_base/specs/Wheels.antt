-- an empty base, and what the wheel keeps of its entries, its clock and its least wheel expiry
-- (that is cited by no public clause)
use Rattle.std.specs.Prelude.{◌≡◌, ℕ, ◌^◌, ◌<◌, ◌≤◌, Option, length}
use Rattle.wheel_core.specs.PlainBase.{IsSound, RoomyBase, empty_base, least, sooner}
use Rattle.wheel_base.specs.Files.{Files, items_of}
use Rattle.wheel_base.specs.Marks.{AreNear}

-- the base that callers see
abbrev pub seen_as : (files : Files) (clock capacity : ℕ) → RoomyBase
seen_as files clock capacity = record {
  plain = record { items = items_of files.filed; clock = clock };
  capacity = capacity;
}

-- what a wheel keeps: the least expiry is known, the items are sound and near the clock, they are
-- no more than the capacity, and there is memory for that (no public clause cites it)
pub record KeepsWheel (files : Files) (clock : ℕ) (first : Option ℕ) (capacity : ℕ) : Type 0 where
  pub known : first ≡ least (items_of files.filed)
  pub sound : IsSound (items_of files.filed)
  -- from the clock on, or in mid-drain from the expiry that is drained on
  pub near : AreNear (sooner clock first) files.filed
  pub few : length files.filed ≤ capacity
  pub room : capacity ≤ files.room
  pub fits : files.room < 2 ^ 64

-- a base with nothing queued, at the start of time, with room for nothing
abbrev pub no_base : RoomyBase
no_base = record { plain = empty_base; capacity = 0 }

-- what the base that keeps one list keeps in mind beside the list (no public clause cites it)
use Rattle.std.specs.Prelude.{◌≡◌, ℕ, ◌≤◌, List, Option, length}
use Rattle.wheel_core.specs.declared.item.Item.{Item}
use Rattle.wheel_core.specs.PlainBase.{least, IsSound}

-- the items, the least wheel expiry, how many items are promised memory, and how many have it
pub record KeepsList (items : List Item) (first : Option ℕ) (promised had : ℕ) : Type 0 where
  pub known : first ≡ least items
  pub fits : length items ≤ promised
  pub room : promised ≤ had
  pub sound : IsSound items

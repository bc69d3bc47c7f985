-- the receipts of a pass, as their holder sees them
use Rattle.std.specs.Prelude.{ℕ, List}
use Rattle.shared_rule.specs.declared.parts.Receipt.{Receipt}

-- the receipts, and how many there is memory for
pub record RoomyReceipts : Type 0 where
  pub receipts : List Receipt
  pub capacity : ℕ

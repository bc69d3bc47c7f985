-- a pass that has loaded words
use Rattle.std.specs.Prelude.{ℕ}
use Rattle.atomic_table.specs.Seated.{TableId}
use Rattle.shared_table.specs.shared_rule.Passes.{HeldPass}
use Rattle.shared_table.specs.Ended.{IsPassAt}

-- the pass of whatever CPU it was is that CPU's still, and outside an interrupt (no public clause
-- cites it)
abbrev pub StaysAt : TableId → (old new : HeldPass) → Type 0
StaysAt table old new = (k : ℕ) → IsPassAt table k old → IsPassAt table k new

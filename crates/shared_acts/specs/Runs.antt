-- what an interrupt ran, as its holder sees it
use Rattle.std.specs.Prelude.{ℕ, List}
use Rattle.shared_acts.specs.declared.runs.Ran.{Ran}

-- the timers run, and for how many there is memory
pub record RoomyRuns : Type 0 where
  pub runs : List Ran
  pub capacity : ℕ

-- a pass of a run, outside an interrupt
use Rattle.std.specs.Prelude.{ℕ, ◌<◌, length}
use Rattle.atomic_table.specs.Seated.{TableId}
use Rattle.core_world.specs.World.{World}
use Rattle.idle_wakeup.specs.shared_rule.Passes.{HeldPass}
use Rattle.shared_rows.specs.shared_table.Ended.{IsPassAt}

-- the pass is that of one of the run's CPUs (no public clause cites it)
pub record IsOneOf (table : TableId) (o : World) (held : HeldPass) : Type 0 where
  pub cpu : ℕ
  pub low : cpu < length o.cpus
  pub at : IsPassAt table cpu held

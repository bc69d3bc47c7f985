use Rattle.std.specs.Prelude.{bit_and, ◌-◌}
use Rattle.key_lists.specs.Tables.{list_of}
use Rattle.wheel_base.proofs.Names.{Searched}
use Rattle.wheel_base.proofs.store.Store.find.Given as goal

abbrev pub invariant-loop-step : goal.invariant-loop-step
invariant-loop-step l = Searched l.self-inside.items.slots l.id (list_of l.self-inside.names (bit_and l.id l.self-inside.mask)) l.at (l.step-end - l.step)

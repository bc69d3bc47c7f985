use Rattle.std.proofs.Common.{◌≡◌}
use Rattle.std.specs.Prelude.{map}
use Rattle.orders_search.specs.Layers.{founds}
use Rattle.orders_try.specs.Gathering.{seen_of}
use Rattle.orders_try.proofs.answers.shown_ends.Given as goal

abbrev pub invariant-loop-end : goal.invariant-loop-end
invariant-loop-end l = map seen_of l.list.items ≡ founds l.yielded

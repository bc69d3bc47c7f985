use Rattle.std.proofs.Common.{◌≡◌, ℕ, ◌<◌, ◌≤◌, length, get_or}
use Rattle.deep_idle.specs.declared.order.Sleeper.{Sleeper}
use Rattle.deep_idle.proofs.order.place_with.Given as goal

abbrev pub invariant-loop-place : goal.invariant-loop-place
invariant-loop-place l =
    (l.place < length l.queue) × ((k : ℕ) × (k ≤ l.place) × ((d : Sleeper) → (get_or l.queue k d).cpu.0 ≡ l.cpu.0))

abbrev pub decreases-loop-place : goal.decreases-loop-place
decreases-loop-place l = l.place

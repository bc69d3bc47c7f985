use Rattle.std.proofs.Common.{◌≡◌, ℕ, ◌≤◌, false}
use Rattle.std.specs.FinSet.{contains}
use Rattle.tree_plan.proofs.tests.planned.Given as goal

abbrev pub invariant-loop-cpu : goal.invariant-loop-cpu
invariant-loop-cpu l = (k : ℕ) → l.cpu ≤ k → contains l.set k ≡ false

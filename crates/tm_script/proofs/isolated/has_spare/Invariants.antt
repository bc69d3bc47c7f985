use Rattle.std.proofs.Common.{◌≡◌, ℕ, ◌<◌, true}
use Rattle.std.specs.FinSet.{contains}
use Rattle.tm_script.proofs.isolated.has_spare.Given as goal

abbrev pub invariant-loop-cpu : goal.invariant-loop-cpu
invariant-loop-cpu l = (c : ℕ) → c < l.cpu → contains l.cpus c ≡ true

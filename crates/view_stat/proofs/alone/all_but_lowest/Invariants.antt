use Rattle.std.proofs.Common.{◌≡◌, ℕ, ◌≤◌}
use Rattle.std.specs.Prelude.{◌&&◌, nat_lt}
use Rattle.std.specs.FinSet.{contains}
use Rattle.view_stat.proofs.alone.all_but_lowest.Given as goal

abbrev pub invariant-loop-cpu : goal.invariant-loop-cpu
invariant-loop-cpu l =
    record {
      some : 1 ≤ l.cpu;
      set : (c : ℕ) → contains l.isolated c ≡ (nat_lt 0 c && nat_lt c l.cpu);
    }

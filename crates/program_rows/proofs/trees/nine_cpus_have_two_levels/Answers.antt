use Rattle.std.proofs.Common.{ap, ◌∙◌, lit<, lit≤}
use Rattle.std.specs.FinSet.{contains, contains-empty}
use Rattle.std.specs.Ordering.{nat_cmp}
use Rattle.program_rows.proofs.trees.nine_cpus_have_two_levels.Goals as goal

pub plan-requires : goal.plan-requires
plan-requires g c =
    let none = ap (λ s. contains s 0) c.new.ensures ∙ contains-empty nat_cmp 0 in
    record {
      some_node = lit≤ tt;
      few_nodes = lit≤ tt;
      some_cpu = lit≤ tt;
      few_cpus = lit≤ tt;
      some_placed = (0, lit< tt, none);
    }

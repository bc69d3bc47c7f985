use Rattle.std.proofs.Common.{arith, ◌∙◌, ap}
use Rattle.std.specs.Cmp.{nat_cmp_total, unsigned_tied}
use Rattle.std.specs.FinSet.{contains, contains-empty, contains-insert}
use Rattle.std.specs.Ordering.{nat_cmp, eq_by_cmp}
use Rattle.std.proofs.lemmas.Bool.{or_from, ne_eqb}
use Rattle.tree_plan.proofs.tests.planned.Goals as goal

pub loop-cpu-init : goal.loop-cpu-init
loop-cpu-init c = λ k _. ap (λ s. contains s k) c.new-set.ensures ∙ contains-empty nat_cmp k

pub loop-cpu-preserved : goal.loop-cpu-preserved
loop-cpu-preserved c = λ k up.
    let set = c.loop-cpu.set in
    let cpu = c.loop-cpu.cpu in
    ap (λ s. contains s k) c.add.ensures.added
    ∙ (contains-insert nat_cmp_total set cpu k
    ∙ or_from (eq_by_cmp nat_cmp k cpu) (contains set k) (unsigned_tied k cpu ∙ ne_eqb k cpu (λ same. omega arith)) (c.loop-cpu.invariant k (omega arith)))

pub plan-requires : goal.plan-requires
plan-requires c = record {
  some_node = c.requires.some_node;
  few_nodes = c.requires.few_nodes;
  some_cpu = c.requires.some_cpu;
  few_cpus = c.requires.few_cpus;
  some_placed = (c.args.isolated, c.requires.some_placed, c.loop-cpu.invariant c.args.isolated (omega arith));
}

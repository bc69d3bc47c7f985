use Rattle.std.proofs.Common.{◌++◌, ◌∙◌, ap}
use Rattle.tree_plan.specs.Shape.{placed_from}
use Rattle.tree_plan.specs.Store.{cpu_ids}
use Rattle.tree_plan.proofs.Children.{placed_on}
use Rattle.tree_plan.proofs.cutting.placed_cpus.Goals as goal

pub loop-cpu-preserved : goal.loop-cpu-preserved
loop-cpu-preserved c =
    let isolated = c.args.isolated.now in
    let cpu = c.loop-cpu.cpu in
    c.in_ok-place.ensures ∙ (ap (λ cpus. cpus ++ cpu_ids (placed_from isolated cpu 1)) c.loop-cpu.invariant ∙ placed_on isolated cpu)

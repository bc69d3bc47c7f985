use Rattle.std.proofs.Common.{◌-◌, ◌∙◌, ap, arith}
use Rattle.std.specs.Prelude.{not}
use Rattle.std.specs.Int.{from_bool}
use Rattle.tree_plan.proofs.Placed.{bool_low, few_placed, placed_more}
use Rattle.tree_plan.proofs.cutting.placed_among.Goals as goal

pub overflow_add-placed : goal.overflow_add-placed
overflow_add-placed c =
    omega (arith, few_placed c.args.isolated.now c.args.first (c.loop-cpu.cpu - c.args.first), c.loop-cpu.invariant, c.from-placed.ensures, bool_low (not c.has.result))

pub loop-cpu-preserved : goal.loop-cpu-preserved
loop-cpu-preserved c =
    placed_more c.args.isolated.now c.args.first c.loop-cpu.cpu c.loop-cpu.placed c.from-placed.result (omega arith) c.loop-cpu.invariant (c.from-placed.ensures ∙ ap (λ b. from_bool (not b)) c.has.ensures.found)

use Rattle.std.proofs.Common.{ap, arith, ◌∙◌}
use Rattle.tree_plan.specs.Paths.{level_count_of}
use Rattle.trace_check.proofs.LeadLaws.{level_low}
use Rattle.trace_check.proofs.leading.led_to.Goals as goal

pub led_from-requires-clause-levels : goal.led_from-requires-clause-levels
led_from-requires-clause-levels g c =
    let w = c.args.core.now in
    let low = level_low w c.kept.ensures.fits.lawful.sized c.kept.ensures.fits.planned
    c.args.group.0 c.requires in
    let count = c.levels.ensures ∙ ap level_count_of c.tree-tree.ensures.tree in
    omega (arith, low, count)

use Rattle.std.proofs.Common.{◌*◌, ◌≤◌, sym, ap, ◌∙◌, subst, arith, mul-le-mul}
use Rattle.tree_plan.specs.Paths.{cpu_count_of, group_at_of, is_placed_in, level_count_of}
use Rattle.tree_plan.specs.Shape.{Shape}
use Rattle.remote_expiry.proofs.looking.law_shape.Goals as goal

pub returns-clause-placed : goal.returns-clause-placed
returns-clause-placed g c cpu level group path =
    let run = c.args.run.now in
    let laws = c.law_paths.ensures run.tree c.cpu_count.ensures.planned in
    ap (λ (t : Shape). is_placed_in t cpu) (sym run.fits.shape)
    ∙ laws.cpu_placed cpu level group (ap (λ (t : Shape). group_at_of t cpu level) run.fits.shape ∙ path)

pub returns-clause-many : goal.returns-clause-many
returns-clause-many g c =
    let run = c.args.run.now in
    let limits = c.cpu_count.ensures.planned.limits in
    let most : run.tree.nodes * run.tree.cpus ≤ 8 * 64 = mul-le-mul limits.few_nodes limits.few_cpus in
    let count = run.fits.cpus ∙ ap cpu_count_of (sym run.fits.shape) in
    omega (arith, most, count)

pub returns-clause-low : goal.returns-clause-low
returns-clause-low g c =
    let run = c.args.run.now in
    subst (λ (t : Shape). level_count_of t ≤ 3) run.fits.shape
    (c.law_cuts.ensures run.tree c.cpu_count.ensures.planned).at_most_3_levels

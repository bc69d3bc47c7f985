use Rattle.std.proofs.Common.{arith, ◌≤◌, ◌∙◌, ◌/◌, length, sym, ap, subst}
use Rattle.shared_table.specs.Ended.{AreAllPasses, PassesFrom}
use Rattle.shared_table.proofs.Passes.{cut_front}
use Rattle.shared_rows.proofs.Halves.{all_again, back_half}
use Rattle.shared_rows.proofs.runs.run_begun.Goals as goal

pub see_by_two-front-requires-clause-front : goal.see_by_two-front-requires-clause-front
see_by_two-front-requires-clause-front g c κs within =
    subst (PassesFrom g.N.RunName.table 0) (sym c.in_ok-back.ensures.items)
    (cut_front g.N.RunName.table 0 (c.len-middle.result / 2) c.args.passes.items c.requires.each)

pub see_by_two-front-requires-clause-back : goal.see_by_two-front-requires-clause-back
see_by_two-front-requires-clause-back g c κs within =
    subst (PassesFrom g.N.RunName.table (c.len-middle.result / 2))
    (sym c.in_ok-back.ensures.tail)
    (back_half g.N.RunName.table (c.len-middle.result / 2) c.args.passes.items c.requires.each)

pub finish-core-requires : goal.finish-core-requires
finish-core-requires g c =
    let passes = c.args.passes in
    let seen = c.see_by_two-front in
    let low : c.len-middle.result / 2 ≤ length passes.items
    = let len = c.len-middle.ensures in let ok = passes.ok.0 in omega (arith, len, ok) in
    subst (AreAllPasses g.N.RunName.table (length g.N.RunName.opening.cpus))
    (sym c.in_ok-append.ensures.items)
    (all_again g.N.RunName.table (length g.N.RunName.opening.cpus) (c.len-middle.result / 2)
    passes.items seen.result.0.0.items seen.result.1.0.items c.requires low seen.ensures.front
    (seen.ensures.counts.0 ∙ ap length c.in_ok-back.ensures.items) seen.ensures.back
    (seen.ensures.counts.1 ∙ ap length c.in_ok-back.ensures.tail))

use Rattle.std.proofs.Common.{arith, ◌≡◌, ◌≤◌, ◌+◌, length, sym, subst}
use Rattle.shared_rows.specs.shared_table.Ended.{PassesFrom}
use Rattle.walk_rows.proofs.Halves as halves
use Rattle.walk_rows.proofs.by_steps.drive_all.Goals as goal

pub drive_both-front-requires-clause-front : goal.drive_both-front-requires-clause-front
drive_both-front-requires-clause-front g c =
    let below = c.count_below-few in
    let low : below.result ≤ length c.args.passes.items
    = let few = below.ensures in
    let len = c.len-count.ensures in
    let ok = c.args.passes.ok.0 in
    omega (arith, few, len, ok) in
    let most : 0 + length c.args.passes.items ≤ length g.N.RunName.opening.cpus
    = let count = c.requires.few in omega (arith, count) in
    halves.front_from g.N.RunName.table 0 below.result (length g.N.RunName.opening.cpus)
    c.args.passes.items c.requires.each most low _ _ c.in_ok-back.ensures.items
    c.in_ok-back.ensures.tail

pub drive_both-front-requires-clause-back : goal.drive_both-front-requires-clause-back
drive_both-front-requires-clause-back g c =
    let below = c.count_below-few in
    let low : below.result ≤ length c.args.passes.items
    = let few = below.ensures in
    let len = c.len-count.ensures in
    let ok = c.args.passes.ok.0 in
    omega (arith, few, len, ok) in
    let most : 0 + length c.args.passes.items ≤ length g.N.RunName.opening.cpus
    = let count = c.requires.few in omega (arith, count) in
    let from : 0 + below.result ≡ below.result = omega arith in
    subst (λ n. PassesFrom g.N.RunName.table n c.in_ok-back.back.items) from
    (halves.back_from g.N.RunName.table 0 below.result (length g.N.RunName.opening.cpus)
    c.args.passes.items c.requires.each most low _ _ c.in_ok-back.ensures.items
    c.in_ok-back.ensures.tail)

pub returns-clause-each : goal.returns-clause-each
returns-clause-each g c =
    let below = c.count_below-few in
    let low : below.result ≤ length c.args.passes.items
    = let few = below.ensures in
    let len = c.len-count.ensures in
    let ok = c.args.passes.ok.0 in
    omega (arith, few, len, ok) in
    let most : 0 + length c.args.passes.items ≤ length g.N.RunName.opening.cpus
    = let count = c.requires.few in omega (arith, count) in
    let made = c.drive_both-front in
    let from : 0 + below.result ≡ below.result = omega arith in
    let back = subst (λ n. PassesFrom g.N.RunName.table n made.result.1.items) (sym from)
    made.ensures.back in
    subst (PassesFrom g.N.RunName.table 0) (sym c.in_ok-append.ensures.items)
    (halves.joined_from g.N.RunName.table 0 below.result (length g.N.RunName.opening.cpus)
    c.args.passes.items c.requires.each most low _ _ c.in_ok-back.ensures.items
    c.in_ok-back.ensures.tail _ _ made.ensures.front back made.ensures.counts.0
    made.ensures.counts.1)

use Rattle.std.proofs.Common.{arith, ◌≤◌, length, sym, subst}
use Rattle.shared_rows.specs.shared_table.Ended.{PassesFrom}
use Rattle.walk_rows.proofs.Halves as halves
use Rattle.walk_rows.proofs.crews.cut_in_two.Goals as goal

pub both-front-requires-clause-front : goal.both-front-requires-clause-front
both-front-requires-clause-front g c κs within =
    let below = c.count_below-few in
    let low : below.result ≤ length c.args.passes.items
    = let few = below.ensures in
    let len = c.len-count.ensures in
    let ok = c.args.passes.ok.0 in
    omega (arith, few, len, ok) in
    halves.front_from g.N.RunName.table c.args.first below.result
    (length g.N.RunName.opening.cpus) c.args.passes.items c.requires.each c.requires.few low _ _
    c.in_ok-back.ensures.items c.in_ok-back.ensures.tail

pub both-front-requires-clause-back : goal.both-front-requires-clause-back
both-front-requires-clause-back g c κs within =
    let below = c.count_below-few in
    let low : below.result ≤ length c.args.passes.items
    = let few = below.ensures in
    let len = c.len-count.ensures in
    let ok = c.args.passes.ok.0 in
    omega (arith, few, len, ok) in
    halves.back_from g.N.RunName.table c.args.first below.result
    (length g.N.RunName.opening.cpus) c.args.passes.items c.requires.each c.requires.few low _ _
    c.in_ok-back.ensures.items c.in_ok-back.ensures.tail

pub returns-clause-each : goal.returns-clause-each
returns-clause-each g c =
    let below = c.count_below-few in
    let low : below.result ≤ length c.args.passes.items
    = let few = below.ensures in
    let len = c.len-count.ensures in
    let ok = c.args.passes.ok.0 in
    omega (arith, few, len, ok) in
    let made = c.both-front in
    subst (PassesFrom g.N.RunName.table c.args.first) (sym c.in_ok-append.ensures.items)
    (halves.joined_from g.N.RunName.table c.args.first below.result
    (length g.N.RunName.opening.cpus) c.args.passes.items c.requires.each c.requires.few low _ _
    c.in_ok-back.ensures.items c.in_ok-back.ensures.tail _ _ made.ensures.front
    made.ensures.back made.ensures.counts.0 made.ensures.counts.1)

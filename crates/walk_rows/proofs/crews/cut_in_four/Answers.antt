use Rattle.std.proofs.Common.{arith, ◌≡◌, ◌+◌, ◌≤◌, IfOk, length, sym, subst}
use Rattle.shared_rows.specs.shared_table.Ended.{PassesFrom}
use Rattle.walk_rows.proofs.Halves as halves
use Rattle.walk_rows.proofs.crews.cut_in_four.Goals as goal

pub pairs-ones-requires-clause-front : goal.pairs-ones-requires-clause-front
pairs-ones-requires-clause-front g c κs within =
    let below = c.count_below-few in
    let low : below.result ≤ length c.args.passes.items
    = let few = below.ensures in
    let len = c.len-count.ensures in
    let ok = c.args.passes.ok.0 in
    omega (arith, few, len, ok) in
    halves.front_from g.N.RunName.table c.args.first below.result
    (length g.N.RunName.opening.cpus) c.args.passes.items c.requires.each c.requires.few low _ _
    c.in_ok-back.ensures.items c.in_ok-back.ensures.tail

pub pairs-ones-requires-clause-back : goal.pairs-ones-requires-clause-back
pairs-ones-requires-clause-back g c κs within =
    let below = c.count_below-few in
    let low : below.result ≤ length c.args.passes.items
    = let few = below.ensures in
    let len = c.len-count.ensures in
    let ok = c.args.passes.ok.0 in
    omega (arith, few, len, ok) in
    halves.back_from g.N.RunName.table c.args.first below.result
    (length g.N.RunName.opening.cpus) c.args.passes.items c.requires.each c.requires.few low _ _
    c.in_ok-back.ensures.items c.in_ok-back.ensures.tail

pub returns-clause-each : goal.returns-clause-each
returns-clause-each g c =
    let below = c.count_below-few in
    let low : below.result ≤ length c.args.passes.items
    = let few = below.ensures in
    let len = c.len-count.ensures in
    let ok = c.args.passes.ok.0 in
    omega (arith, few, len, ok) in
    let table = g.N.RunName.table in
    let made = c.pairs-ones.ensures in
    let ones = c.in_ok-front in
    let others = c.in_ok-back-2 in
    let from : PassesFrom table c.args.first ones.front.items
    = subst (λ r. IfOk r (λ p. PassesFrom table c.args.first p.0.items)) ones.was made.front in
    let then : PassesFrom table (c.args.first + below.result) others.back.items
    = subst (λ r. IfOk r (λ p. PassesFrom table (c.args.first + below.result) p.0.items))
    others.was made.back in
    let many : length ones.front.items ≡ length c.split_off.new.self.items
    = subst (λ r. IfOk r (λ p. length p.0.items ≡ length c.split_off.new.self.items)) ones.was
    made.few in
    let more : length others.back.items ≡ length c.in_ok-back.back.items
    = subst (λ r. IfOk r (λ p. length p.0.items ≡ length c.in_ok-back.back.items)) others.was
    made.others in
    subst (PassesFrom table c.args.first) (sym c.in_ok-append.ensures.items)
    (halves.joined_from table c.args.first below.result (length g.N.RunName.opening.cpus)
    c.args.passes.items c.requires.each c.requires.few low _ _ c.in_ok-back.ensures.items
    c.in_ok-back.ensures.tail _ _ from then many more)

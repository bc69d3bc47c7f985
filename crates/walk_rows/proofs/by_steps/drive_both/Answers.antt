use Rattle.std.proofs.Common.{◌≤◌, ◌<◌, ◌+◌, arith, length, subst, sym}
use Rattle.shared_rows.specs.Looks.{StaysAt}
use Rattle.walk_rows.specs.Standing.{IsOneOf}
use Rattle.walk_rows.proofs.Staying.{one_there, with_one}
use Rattle.walk_rows.proofs.by_steps.drive_both.Goals as goal

pub drive-made-requires-clause-one : goal.drive-made-requires-clause-one
drive-made-requires-clause-one g c =
    let table = g.N.RunName.table in
    let o = g.N.RunName.opening in
    let low : c.args.one < length c.args.front.items
    = let test = c.if-one-len.false in
    let len = c.len.ensures in
    omega (arith, test, len) in
    let few : 0 + length c.args.front.items ≤ length o.cpus
    = let count = c.requires.few in omega (arith, count) in
    subst (IsOneOf table o) (sym c.index_mut.ensures.value)
    (one_there table o 0 c.args.one c.args.front.items c.index_mut.result.now c.requires.front few
    low)

pub returns-clause-front : goal.returns-clause-front
returns-clause-front g c =
    let table = g.N.RunName.table in
    let low : c.args.one < length c.args.front.items
    = let test = c.if-one-len.false in
    let len = c.len.ensures in
    omega (arith, test, len) in
    with_one table 0 c.args.one c.args.front.items c.index_mut.result.now c.requires.front low
    c.drive-made.new.one
    (subst (λ z. StaysAt table z c.drive-made.new.one) c.index_mut.ensures.value
    c.drive-made.ensures.one)

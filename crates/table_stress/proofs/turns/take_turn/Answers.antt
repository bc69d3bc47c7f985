use Rattle.std.proofs.Common.{arith, ◌<◌, ◌-◌, length}
use Rattle.table_stress.proofs.Rows.{one_there, with_one}
use Rattle.table_stress.proofs.turns.take_turn.Goals as goal

pub take_own-requires-clause-one : goal.take_own-requires-clause-one
take_own-requires-clause-one g c =
    let low : c.from-cpu.result - c.args.first < length c.args.passes.now
    = let test = c.if-place-passes.true in omega (arith, test) in
    one_there g.N.RunName.table g.N.RunName.opening c.args.first
    (c.from-cpu.result - c.args.first) c.args.passes.now c.index-passes-place.result
    c.requires.each low c.requires.few

pub returns-then-place-passes-clause-each : goal.returns-then-place-passes-clause-each
returns-then-place-passes-clause-each g c =
    let low : c.from-cpu.result - c.args.first < length c.args.passes.now
    = let test = c.if-place-passes.true in omega (arith, test) in
    with_one g.N.RunName.table g.N.RunName.opening c.args.first
    (c.from-cpu.result - c.args.first) c.args.passes.now c.index-passes-place.result
    c.requires.each low c.take_own.new.pass c.take_own.ensures

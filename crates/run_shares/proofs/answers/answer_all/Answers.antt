use Rattle.std.proofs.Common.{List, arith, length, subst, take}
use Rattle.std.proofs.lemmas.List.{length-take-le, take_all}
use Rattle.std.proofs.lemmas.Result.{err_from_is_err_and}
use Rattle.tm_script.specs.declared.syntax.Op.{Op}
use Rattle.run_shares.specs.Standing.{HaveAnswered}
use Rattle.run_shares.proofs.Answering.{may_more, next_answered, none_answered}
use Rattle.run_shares.proofs.answers.answer_all.Goals as goal

pub loop-op-init : goal.loop-op-init
loop-op-init g c =
    let o = g.N.RunName.opening in
    none_answered g.N.RunName.table o c.args.now _ c.args.pass.now c.args.lines.now.items
    c.requires.may

pub answer-requires-clause-may : goal.answer-requires-clause-may
answer-requires-clause-may g c =
    let table = g.N.RunName.table in
    let o = g.N.RunName.opening in
    let ops = c.args.ops.now in
    let i = c.loop-op.op-index in
    let within = c.loop-op-test.true in
    let long = length-take-le i ops (omega (arith, within)) in
    may_more table o c.args.now (length ops) (take i ops) c.args.pass.now c.loop-op.pass
    c.args.lines.now.items c.loop-op.lines.items (omega (arith, long, within)) c.requires.may
    c.loop-op.invariant

pub loop-op-preserved : goal.loop-op-preserved
loop-op-preserved g c =
    next_answered g.N.RunName.table g.N.RunName.opening c.args.now c.args.ops.now c.loop-op.op-index
    _ c.args.pass.now c.loop-op.pass c.answer.new.pass c.args.lines.now.items
    c.loop-op.lines.items c.push.new.self.items c.in_ok-line.line c.loop-op-test.true
    c.loop-op.invariant c.in_ok-line.ensures c.in_ok-push.ensures.items

pub bounds-ops-op-index : goal.bounds-ops-op-index
bounds-ops-op-index g c = c.loop-op-test.true

pub answer-requires-clause-now : goal.answer-requires-clause-now
answer-requires-clause-now g c = c.requires.now

pub answer-requires-clause-in_time : goal.answer-requires-clause-in_time
answer-requires-clause-in_time g c = c.requires.in_time

pub answer-requires-clause-op : goal.answer-requires-clause-op
answer-requires-clause-op g c =
    rw c.loop-op.invariant.stepped.same_cpu
    (c.requires.ops c.loop-op.op-index _ c.loop-op-test.true)

pub returns-in_err-line : goal.returns-in_err-line
returns-in_err-line g c =
    let p = err_from_is_err_and c.from_residual.result c.from_residual.ensures.1 in rw p.1 tt

pub returns-in_err-push : goal.returns-in_err-push
returns-in_err-push g c =
    let left = c.from_residual-in_err-push in
    let p = err_from_is_err_and left.result left.ensures.1 in rw p.1 tt

pub loop-op-smaller : goal.loop-op-smaller
loop-op-smaller g c = omega (arith, c.loop-op-test.true)

pub returns : goal.returns
returns g c =
    let ops = c.args.ops.now in
    let i = c.loop-op.op-index in
    subst (λ (xs : List Op). HaveAnswered g.N.RunName.table g.N.RunName.opening c.args.now xs
    c.args.pass.now c.loop-op.pass c.args.lines.now.items c.loop-op.lines.items)
    (take_all i ops (omega (arith, c.loop-op-test.false))) c.loop-op.invariant

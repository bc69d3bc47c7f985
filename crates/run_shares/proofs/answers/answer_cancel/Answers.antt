use Rattle.tm_script.specs.declared.syntax.What.TheVariants as whats
use Rattle.run_shares.specs.Lines.{cancel_line}
use Rattle.run_shares.specs.Standing.{HasAnswered}
use Rattle.run_shares.proofs.Answered.{by_line, by_refusal, known}
use Rattle.run_shares.proofs.Cancelling.{cancel_told, not_cancelled_told}
use Rattle.run_shares.proofs.answers.answer_cancel.Goals as goal

pub returns-in-Ok : goal.returns-in-Ok
returns-in-Ok g c =
    let table = g.N.RunName.table in
    let o = g.N.RunName.opening in
    let a = c.args in
    let may = c.requires.may in
    let home = c.in-Ok.home in
    by_line (HasAnswered table o a.now (whats.Cancel a.timer) a.line a.pass.now
    c.cancel.new.pass) (λ id. cancel_line home a.now id a.timer) c.cpu-cpu.result a.pass.now.cpu
    c.cancel_line.result c.cpu-cpu.ensures c.cancel_line.ensures
    (cancel_told table o a.now a.line a.timer a.pass.now c.cancel.new.pass may.pass
    c.in-Ok.ensures.0 (known table o 1 a.pass.now may) c.in-Ok.ensures.1 c.requires.timer home
    c.in-Ok.ensures.2)

pub returns-in-Err : goal.returns-in-Err
returns-in-Err g c =
    let table = g.N.RunName.table in
    let o = g.N.RunName.opening in
    let a = c.args in
    let may = c.requires.may in
    by_refusal (HasAnswered table o a.now (whats.Cancel a.timer) a.line a.pass.now
    c.cancel.new.pass) c.in-Err.fault a.now a.line a.pass.now.cpu c.cpu-cpu.result
    c.cpu-cpu.ensures
    (λ enough. not_cancelled_told table o a.now a.line a.timer a.pass.now c.cancel.new.pass
    may.pass c.in-Err.ensures.0 (known table o 1 a.pass.now may) c.in-Err.ensures.1 c.in-Err.fault
    enough c.in-Err.ensures.2) c.refused.result c.refused.ensures

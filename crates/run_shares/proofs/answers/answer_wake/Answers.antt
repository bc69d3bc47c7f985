use Rattle.std.proofs.Common.{refl}
use Rattle.tm_script.specs.declared.syntax.What.TheVariants as whats
use Rattle.tm_report.specs.declared.lines.Line.TheVariants as lines
use Rattle.run_shares.specs.Standing.{HasAnswered}
use Rattle.run_shares.proofs.Answered.{by_line, by_refusal, known, left}
use Rattle.run_shares.proofs.Resting.{not_wake_told, wake_told}
use Rattle.run_shares.proofs.answers.answer_wake.Goals as goal

pub returns-in-Ok : goal.returns-in-Ok
returns-in-Ok g c =
    let table = g.N.RunName.table in
    let o = g.N.RunName.opening in
    let a = c.args in
    let may = c.requires.may in
    by_line (HasAnswered table o a.now whats.Wake a.line a.pass.now c.wake.new.pass)
    (λ id. lines.Wake a.now id) c.cpu-cpu.result a.pass.now.cpu
    (lines.Wake a.now c.cpu-cpu.result) c.cpu-cpu.ensures refl
    (wake_told table o a.now a.line a.pass.now c.wake.new.pass may.pass
    (known table o 1 a.pass.now may) (left table o a.pass.now may) c.in-Ok.ensures.refused
    c.in-Ok.ensures.ok)

pub returns-in-Err : goal.returns-in-Err
returns-in-Err g c =
    let table = g.N.RunName.table in
    let o = g.N.RunName.opening in
    let a = c.args in
    let may = c.requires.may in
    by_refusal (HasAnswered table o a.now whats.Wake a.line a.pass.now c.wake.new.pass)
    c.in-Err.fault a.now a.line a.pass.now.cpu c.cpu-cpu.result c.cpu-cpu.ensures
    (λ enough. not_wake_told table o a.now a.line a.pass.now c.wake.new.pass may.pass
    (known table o 1 a.pass.now may) (left table o a.pass.now may) c.in-Err.fault
    c.in-Err.ensures.refused c.in-Err.ensures.err) c.refused.result c.refused.ensures

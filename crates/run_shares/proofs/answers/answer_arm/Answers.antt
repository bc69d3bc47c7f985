use Rattle.tm_script.specs.declared.syntax.What.TheVariants as whats
use Rattle.run_shares.specs.Standing.{HasAnswered}
use Rattle.run_shares.proofs.Answered.{by_refusal, known}
use Rattle.run_shares.proofs.Arming.{arm_told, not_armed_told}
use Rattle.run_shares.proofs.answers.answer_arm.Goals as goal

pub returns-in-Ok : goal.returns-in-Ok
returns-in-Ok g c =
    let table = g.N.RunName.table in
    let o = g.N.RunName.opening in
    let a = c.args in
    let may = c.requires.may in
    arm_told table o a.now a.line a.timer a.class a.delay a.job a.arg a.pass.now c.arm.new.pass
    may.pass c.in-Ok.ensures.0 (known table o 1 a.pass.now may) may.outside c.requires.now
    c.in-Ok.ensures.1 c.in-Ok.wheel c.cpu-cpu.result c.cpu-cpu.ensures c.in-Ok.ensures.2

pub returns-in-Err : goal.returns-in-Err
returns-in-Err g c =
    let table = g.N.RunName.table in
    let o = g.N.RunName.opening in
    let a = c.args in
    let may = c.requires.may in
    by_refusal (HasAnswered table o a.now (whats.Arm a.timer a.class a.delay a.job a.arg) a.line
    a.pass.now c.arm.new.pass) c.in-Err.fault a.now a.line a.pass.now.cpu c.cpu-cpu.result
    c.cpu-cpu.ensures
    (λ enough. not_armed_told table o a.now a.line a.timer a.class a.delay a.job a.arg a.pass.now
    c.arm.new.pass may.pass c.in-Err.ensures.0 (known table o 1 a.pass.now may) may.outside
    c.requires.now c.in-Err.ensures.1 c.requires.timer c.in-Err.fault enough c.in-Err.ensures.2)
    c.refused.result c.refused.ensures

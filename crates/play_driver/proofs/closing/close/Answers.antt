use Rattle.std.proofs.lemmas.Result.{err_from_is_err_and, on_ok_weaker}
use Rattle.tm_report.specs.declared.lines.Line.TheVariants as lines
use Rattle.play_rules.specs.Moments.{left}
use Rattle.play_rules.specs.Parts.{Prints, lines_told, printing}
use Rattle.play_rules.proofs.Plays.{gains_then, prints_then}
use Rattle.play_driver.proofs.Parts.{told_gains, told_line}
use Rattle.play_driver.proofs.closing.close.Goals as goal

pub returns-in_err-left_over-clause-prints : goal.returns-in_err-left_over-clause-prints
returns-in_err-left_over-clause-prints g c =
    let p = err_from_is_err_and c.from_residual.result c.from_residual.ensures.1 in rw p.1 tt

pub returns-in_err-left_over-clause-gains : goal.returns-in_err-left_over-clause-gains
returns-in_err-left_over-clause-gains g c = c.in_err-left_over.ensures.gains

pub returns-clause-prints : goal.returns-clause-prints
returns-clause-prints g c =
    let r = g.M.PlayMachine.rules in
    let s = g.M.PlayMachine.world c.args.machine.now in
    let line = lines.End c.args.end in
    let mid = c.left_over.new.telling in
    let new = c.tell.new.self in
    let told = c.tell.ensures in
    on_ok_weaker {P = Prints (printing line s) mid new s} _
    (prints_then (lines_told (left r (r.timers s) 0 s) s) (printing line) _ _ _ _ _
    c.in_ok-left_over.ensures.prints)
    (told_line line mid new c.tell.result s told.text told.tally told.work)

pub returns-clause-gains : goal.returns-clause-gains
returns-clause-gains g c =
    let told = c.tell.ensures in
    gains_then _ _ _ c.in_ok-left_over.ensures.gains
    (told_gains (lines.End c.args.end) c.left_over.new.telling c.tell.new.self c.tell.result
    told.text told.err)

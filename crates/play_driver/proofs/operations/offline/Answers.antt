use Rattle.std.proofs.Common.{arith, sym}
use Rattle.std.proofs.lemmas.Result.{err_from_is_err_and, on_ok_weaker}
use Rattle.tm_report.specs.declared.lines.Line.TheVariants as lines
use Rattle.play_rules.specs.Machines.{Same}
use Rattle.play_rules.specs.Operations.{hand_on}
use Rattle.play_rules.specs.Parts.{Prints, printing}
use Rattle.play_rules.proofs.Plays.{gains_none, gains_then, prints_at, prints_line, prints_then}
use Rattle.play_driver.proofs.Parts.{same_then}
use Rattle.play_driver.proofs.operations.offline.Goals as goal

pub go_offline-requires-clause-cpu : goal.go_offline-requires-clause-cpu
go_offline-requires-clause-cpu g c = c.requires.cpu

pub go_offline-requires-clause-missed : goal.go_offline-requires-clause-missed
go_offline-requires-clause-missed g c = c.requires.missed

pub go_offline-requires-clause-fit : goal.go_offline-requires-clause-fit
go_offline-requires-clause-fit g c = c.requires.fit

pub returns-in_err-tell : goal.returns-in_err-tell
returns-in_err-tell g c =
    let p = err_from_is_err_and c.from_residual.result c.from_residual.ensures.1 in
    rw p.1 (record {
      prints = tt;
      same = tt;
      fit = tt;
      gains = rw c.in_err-tell.ensures.err (gains_none _);
    })

pub hand_on-requires-clause-cpu : goal.hand_on-requires-clause-cpu
hand_on-requires-clause-cpu g c = omega (arith, c.requires.cpu, c.go_offline.ensures.same.cpus)

pub hand_on-requires-clause-missed : goal.hand_on-requires-clause-missed
hand_on-requires-clause-missed g c =
    let gone = c.go_offline.ensures in
    rw (gone.same.placed c.args.cpu.0, gone.succeeds) c.requires.missed

pub hand_on-requires-clause-fit : goal.hand_on-requires-clause-fit
hand_on-requires-clause-fit g c = c.go_offline.ensures.fit

pub returns : goal.returns
returns g c =
    let r = g.M.PlayMachine.rules in
    let cpu = c.args.cpu in
    let s = g.M.PlayMachine.world c.go_offline.new.self in
    let after = g.M.PlayMachine.world c.hand_on.new.machine in
    let leaves = printing (lines.Offline c.clock-now.result cpu)
    (r.gone_offline (g.M.PlayMachine.world c.args.machine.now) cpu.0) in
    let told = c.in_ok-tell.ensures in
    let first = prints_at leaves _ _ _ _ c.go_offline.ensures.state
    (prints_line _ _ _ _ told.text told.tally told.work) in
    let last = c.hand_on.ensures in
    record {
      prints = rw (sym c.clock-now.ensures.clock)
          (on_ok_weaker {P = Prints (hand_on r cpu s) c.tell.new.self c.hand_on.new.telling after} _
          (prints_then leaves (hand_on r cpu) _ _ _ _ _ first) last.prints);
      same = on_ok_weaker {P = Same r s after} _
          (same_then _ _ _ _ c.go_offline.ensures.same) last.same;
      fit = last.fit;
      gains = gains_then _ _ _ (_, told.text) last.gains;
    }

use Rattle.std.proofs.Common.{sym, ◌∙◌, subst}
use Rattle.play_rules.proofs.Loops.{member_less, member_more}
use Rattle.play_driver.proofs.Onlines.{none_online, one_online}
use Rattle.play_driver.specs.Conditions.{AreOnline}
use Rattle.play_driver.proofs.interrupts.having_interrupt.Goals as goal
use Rattle.play_driver.proofs.interrupts.having_interrupt.Goals.{then-has_interrupt, else-has_interrupt}

pub loop-cpu-init : goal.loop-cpu-init
loop-cpu-init g c =
    let r = g.M.PlayMachine.rules in
    let s = g.M.PlayMachine.world c.args.machine.now in
    record {
      set = c.new-due.ensures;
      online = subst (AreOnline r s) (sym c.new-due.ensures) (none_online r s);
    }

pub loop-cpu-preserved : goal.loop-cpu-preserved
loop-cpu-preserved g c =
    let r = g.M.PlayMachine.rules in
    let s = g.M.PlayMachine.world c.args.machine.now in
    let so_far = c.loop-cpu.invariant in
    let asked = c.has_interrupt.ensures in
    elim c.if-has_interrupt.branch [
      | then-has_interrupt w ↦ record {
        set = member_more (r.has_interrupt s) c.loop-cpu.cpu _ _ so_far.set (sym asked.has ∙ w.if-has_interrupt.true) (w.due-is ∙ w.add.ensures.added);
        online = one_online r s _ _ c.loop-cpu.cpu so_far.online (asked.online w.if-has_interrupt.true) (w.due-is ∙ w.add.ensures.added);
      }
      | else-has_interrupt w ↦ record {
        set = member_less (r.has_interrupt s) c.loop-cpu.cpu _ _ so_far.set (sym asked.has ∙ w.if-has_interrupt.false) w.due-is;
        online = subst (AreOnline r s) (sym w.due-is) so_far.online;
      }
    ]

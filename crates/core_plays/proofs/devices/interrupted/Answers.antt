use Rattle.std.proofs.Common.{sym, ◌∙◌, subst}
use Rattle.play_rules.proofs.Loops.{member_less, member_more}
use Rattle.play_driver.proofs.Onlines.{none_online, one_online}
use Rattle.play_driver.specs.Conditions.{AreOnline}
use Rattle.core_plays.proofs.devices.interrupted.Goals as goal
use Rattle.core_plays.proofs.devices.interrupted.Goals.{then-is_interrupted, else-is_interrupted}

pub loop-cpu-init : goal.loop-cpu-init
loop-cpu-init g c =
    let r = g.M.PlayMachine.rules in
    let s = g.M.PlayMachine.world c.args.machine.now in
    record {
      set = c.new-due.ensures;
      online = subst (AreOnline r s) (sym c.new-due.ensures) (none_online r s);
    }

pub loop-cpu-preserved : goal.loop-cpu-preserved
loop-cpu-preserved g c =
    let r = g.M.PlayMachine.rules in
    let s = g.M.PlayMachine.world c.args.machine.now in
    let so_far = c.loop-cpu.invariant in
    let asked = c.is_interrupted.ensures in
    elim c.if-is_interrupted.branch [
      | then-is_interrupted w ↦ record {
        set = member_more (r.has_interrupt s) c.loop-cpu.cpu _ _ so_far.set (sym asked.has ∙ w.if-is_interrupted.true) (w.due-is ∙ w.add.ensures.added);
        online = one_online r s _ _ c.loop-cpu.cpu so_far.online (asked.online w.if-is_interrupted.true) (w.due-is ∙ w.add.ensures.added);
      }
      | else-is_interrupted w ↦ record {
        set = member_less (r.has_interrupt s) c.loop-cpu.cpu _ _ so_far.set (sym asked.has ∙ w.if-is_interrupted.false) w.due-is;
        online = subst (AreOnline r s) (sym w.due-is) so_far.online;
      }
    ]

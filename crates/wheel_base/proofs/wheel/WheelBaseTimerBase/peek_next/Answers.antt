use Rattle.std.proofs.Common.{subst, None, Some}
use Rattle.wheel_core.specs.PlainBase.{OutIsDue}
use Rattle.wheel_core.proofs.HandOut.{out_is_due}
use Rattle.wheel_base.specs.Files.{items_of}
use Rattle.wheel_base.proofs.wheel.WheelBaseTimerBase.peek_next.Goals as goal

pub returns-in_err-item-clause-due : goal.returns-in_err-item-clause-due
returns-in_err-item-clause-due c =
    let items = items_of c.self.inside.store.filed in
    rw c.from_residual.ensures
    (subst (λ b. OutIsDue c.args.now b.plain.items None) c.self.view_is
    (subst (OutIsDue c.args.now items) c.in_err-item.ensures (out_is_due c.args.now items c.self.invariant.sound.distinct)))

pub returns-clause-due : goal.returns-clause-due
returns-clause-due c =
    let items = items_of c.self.inside.store.filed in
    subst (λ b. OutIsDue c.args.now b.plain.items (Some c.in_ok-item.item)) c.self.view_is
    (subst (OutIsDue c.args.now items) c.in_ok-item.ensures.out (out_is_due c.args.now items c.self.invariant.sound.distinct))

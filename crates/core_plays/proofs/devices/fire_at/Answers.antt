use Rattle.std.proofs.Common.{sym, ap, ◌∙◌, arith}
use Rattle.std.specs.FinSet.{contains, contains-empty}
use Rattle.std.specs.Ordering.{nat_cmp}
use Rattle.deep_idle.specs.Device.{sleeper_of}
use Rattle.core_plays.proofs.Due.{none_due}
use Rattle.core_plays.proofs.devices.fire_at.Goals as goal

pub returns-clause-due : goal.returns-clause-due
returns-clause-due c = λ cpu.
    let device = c.args.device.now in
    ap (λ s. contains s cpu) c.new.ensures
    ∙ contains-empty nat_cmp cpu
    ∙ sym (none_due c.args.now (sleeper_of cpu device)
    (λ w is. let early = c.time.ensures.law cpu w is in
    omega (arith, early, c.if-time-now.false, c.time.ensures.time)))

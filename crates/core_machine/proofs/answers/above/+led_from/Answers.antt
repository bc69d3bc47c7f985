use Rattle.std.proofs.Common.{Some, None, ap, arith, sym, ◌∙◌}
use Rattle.tm_base.specs.declared.names.Child.TheVariants as sorts
use Rattle.step_play.specs.Rules.Seen.{state_of}
use Rattle.core_machine.proofs.Covers.Leading.{led_step, led_zero}
use Rattle.core_machine.proofs.answers.above.+led_from.Goals as goal

pub returns-then-levels-eq0-clause-led : goal.returns-then-levels-eq0-clause-led
returns-then-levels-eq0-clause-led g t c =
    sym (led_zero (state_of c.args.core.now) c.args.levels c.args.group.0 c.if-levels-eq0.true)

pub returns-in_default-clause-led : goal.returns-in_default-clause-led
returns-in_default-clause-led g t c =
    let some = c.if-levels-eq0.false in
    sym (led_step (state_of c.args.core.now) c.args.levels c.args.group.0 None
    (omega (arith, some)) (sym c.in_default.ensures.child))

pub returns-in-Cpu-clause-led : goal.returns-in-Cpu-clause-led
returns-in-Cpu-clause-led g t c =
    let some = c.if-levels-eq0.false in
    sym (led_step (state_of c.args.core.now) c.args.levels c.args.group.0
    (Some (sorts.Cpu c.in-Cpu.cpu)) (omega (arith, some))
    (sym c.in-Some.ensures.child ∙ ap Some c.in-Cpu.is))

pub returns-in-Group-clause-led : goal.returns-in-Group-clause-led
returns-in-Group-clause-led g t c =
    let some = c.if-levels-eq0.false in
    c.led_from.ensures.led
    ∙ sym (led_step (state_of c.args.core.now) c.args.levels c.args.group.0
    (Some (sorts.Group c.in-Group.below)) (omega (arith, some))
    (sym c.in-Some.ensures.child ∙ ap Some c.in-Group.is))

use Rattle.std.proofs.Common.{sym, ap, ◌∙◌, subst}
use Rattle.shared_rule.specs.Parts.{HasGuest, HeldPart, pass_parted}
use Rattle.shared_rule.specs.Passes.{HeldPass}
use Rattle.shared_timers.specs.Queueing.{MayArm}
use Rattle.shared_timers.proofs.Visits.{armed_guest, went_off}
use Rattle.shared_timers.proofs.together.arm_with.Goals as goal

pub arm_step-result-requires-clause-may : goal.arm_step-result-requires-clause-may
arm_step-result-requires-clause-may g c =
    subst (λ (z : HeldPart). MayArm g.N.RunName.opening z c.args.arming) (sym c.bring.ensures.part)
    c.requires.may

pub part_off-requires-clause-brought : goal.part_off-requires-clause-brought
part_off-requires-clause-brought g c =
    let table = g.N.RunName.table in
    let run = c.requires.run in
    subst (λ n. HasGuest n c.arm_step-result.new.part)
    (sym (ap (λ (z : HeldPass). z.cpu) c.bring.ensures.pass))
    (armed_guest table c.args.part.now c.args.pass.now run.0 run.1 (c.law.ensures table run.0 run.1)
    c.bring.new.part c.bring.ensures.part g.N.RunName.opening c.args.arming c.arm_step-result.result
    c.arm_step-result.new.part c.arm_step-result.ensures.armed c.arm_step-result.ensures.queued)

pub returns : goal.returns
returns g c =
    let table = g.N.RunName.table in
    let after = c.arm_step-result.ensures in
    went_off table c.args.part.now c.args.pass.now c.bring.new.part c.bring.ensures.part
    g.N.RunName.opening c.args.now c.args.arming c.arm_step-result.result c.arm_step-result.new.part
    c.part_off.new.part c.part_off.new.pass after.wheel after.armed after.keeps after.queued
    c.part_off.ensures.part
    (c.part_off.ensures.pass
    ∙ ap (λ n. pass_parted table n c.arm_step-result.new.part)
    (ap (λ (z : HeldPass). z.cpu) c.bring.ensures.pass))

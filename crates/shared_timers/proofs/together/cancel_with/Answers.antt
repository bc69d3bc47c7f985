use Rattle.std.proofs.Common.{sym, ap, ◌∙◌, subst}
use Rattle.cpu_bases.specs.Laws.{CallKeeps}
use Rattle.shared_rule.specs.Rule.{Each}
use Rattle.shared_rule.specs.Plays.{Agree}
use Rattle.shared_rule.specs.Parts.{HasGuest, HeldPart, pass_parted, without_guest}
use Rattle.shared_rule.specs.Passes.{HeldPass}
use Rattle.shared_rule.proofs.Visits.{agrees}
use Rattle.shared_timers.specs.Queueing.{MayCancel, cancelled_part}
use Rattle.shared_timers.proofs.Visits.{cancelled_guest}
use Rattle.shared_timers.proofs.together.cancel_with.Goals as goal

pub cancel_step-requires-clause-may : goal.cancel_step-requires-clause-may
cancel_step-requires-clause-may g c =
    subst (λ (z : HeldPart). MayCancel g.N.RunName.opening z c.args.timer)
    (sym c.bring.ensures.part) c.requires.may

pub part_off-requires-clause-brought : goal.part_off-requires-clause-brought
part_off-requires-clause-brought g c =
    let table = g.N.RunName.table in
    let run = c.requires.run in
    subst (λ n. HasGuest n c.cancel_step.new.part)
    (sym (ap (λ (z : HeldPass). z.cpu) c.bring.ensures.pass))
    (cancelled_guest table c.args.part.now c.args.pass.now run.0 run.1
    (c.law.ensures table run.0 run.1) c.bring.new.part c.bring.ensures.part c.args.timer.0
    c.args.line c.cancel_step.new.part c.cancel_step.ensures.part)

pub returns-clause-part : goal.returns-clause-part
returns-clause-part g c =
    c.part_off.ensures.part
    ∙ ap without_guest
    (c.cancel_step.ensures.part
    ∙ ap (cancelled_part c.args.timer.0 c.args.line) c.bring.ensures.part)

pub returns-clause-pass : goal.returns-clause-pass
returns-clause-pass g c =
    let table = g.N.RunName.table in
    c.part_off.ensures.pass
    ∙ (ap (λ n. pass_parted table n c.cancel_step.new.part)
    (ap (λ (z : HeldPass). z.cpu) c.bring.ensures.pass)
    ∙ ap (pass_parted table c.args.pass.now.cpu)
    (c.cancel_step.ensures.part
    ∙ ap (cancelled_part c.args.timer.0 c.args.line) c.bring.ensures.part))

pub returns-clause-agree : goal.returns-clause-agree
returns-clause-agree g c p is =
    agrees c.args.part.now c.args.pass.now g.N.RunName.table p is
    (subst (λ (z : HeldPart). Each (Agree z.box) z.brought) c.bring.ensures.part
    c.bring.ensures.agrees)

pub returns-clause-keeps : goal.returns-clause-keeps
returns-clause-keeps g c =
    subst (λ (z : HeldPart). CallKeeps c.args.now c.args.part.now.box.own.bases z.box.own.bases)
    (sym c.part_off.ensures.part)
    (subst (λ (z : HeldPart). CallKeeps c.args.now z.box.own.bases c.cancel_step.new.part.box.own.bases)
    c.bring.ensures.part c.cancel_step.ensures.keeps)

use Rattle.std.proofs.Common.{sym, ap, ◌∙◌, subst}
use Rattle.shared_rule.specs.Rule.{Each}
use Rattle.shared_rule.specs.Plays.{Agree}
use Rattle.shared_rule.specs.Parts.{HasGuest, HeldPart, pass_parted, without_guest}
use Rattle.shared_rule.specs.Passes.{HeldPass}
use Rattle.shared_rule.proofs.Visits as visits
use Rattle.shared_rule.proofs.visiting.visit.Goals as goal

pub part_off-requires-clause-brought : goal.part_off-requires-clause-brought
part_off-requires-clause-brought g c =
    let run = c.requires.run in
    let table = g.N.RunName.table in
    let held = c.args.pass.now in
    subst (λ n. HasGuest n c.bring.new.part) (sym (ap (λ (z : HeldPass). z.cpu) c.bring.ensures.pass))
    (subst (HasGuest held.cpu) (sym c.bring.ensures.part)
    (visits.is_there c.args.part.now held table run.0 run.1 (c.law.ensures table run.0 run.1)))

pub returns-clause-part : goal.returns-clause-part
returns-clause-part g c = c.part_off.ensures.part ∙ ap without_guest c.bring.ensures.part

pub returns-clause-pass : goal.returns-clause-pass
returns-clause-pass g c =
    let run = c.requires.run in
    let table = g.N.RunName.table in
    let held = c.args.pass.now in
    c.part_off.ensures.pass
    ∙ (ap (λ n. pass_parted table n c.bring.new.part)
    (ap (λ (z : HeldPass). z.cpu) c.bring.ensures.pass)
    ∙ (ap (pass_parted table held.cpu) c.bring.ensures.part
    ∙ visits.goes_off c.args.part.now held table run.0 run.1
    (c.law.ensures table run.0 run.1 ∙ c.requires.own)))

pub returns-clause-own : goal.returns-clause-own
returns-clause-own g c p is = c.law.ensures g.N.RunName.table p is ∙ c.requires.own

pub returns-clause-fits : goal.returns-clause-fits
returns-clause-fits g c = c.law-2.ensures.fits

pub returns-clause-opening : goal.returns-clause-opening
returns-clause-opening g c = c.law-2.ensures.opening

pub returns-clause-agree : goal.returns-clause-agree
returns-clause-agree g c p is =
    visits.agrees c.args.part.now c.args.pass.now g.N.RunName.table p is
    (subst (λ (z : HeldPart). Each (Agree z.box) z.brought) c.bring.ensures.part
    c.bring.ensures.agrees)

use Rattle.std.proofs.Common.{◌∙◌, ap, refl, subst, sym}
use Rattle.walk_active.specs.shared_rule.Plays.{Agree, PartFits}
use Rattle.walk_active.specs.shared_rule.Parts.{HeldPart, without_guest}
use Rattle.walk_active.specs.shared_rule.Passes.{knowing, with_pass}
use Rattle.walk_active.specs.shared_table.Begun.{IsFree}
use Rattle.idle_wakeup.proofs.meeting.meet_own.Goals as goal

pub visit-requires-clause-own : goal.visit-requires-clause-own
visit-requires-clause-own g c =
    c.requires.own.cpu_is ∙ sym (ap (λ (z : HeldPart). z.box.cpu) c.cpu_box.view_is)

pub visit-requires-clause-alone : goal.visit-requires-clause-alone
visit-requires-clause-alone g c = c.cpu_box.invariant.alone

pub invariant_of-cpu_box : goal.invariant_of-cpu_box
invariant_of-cpu_box g c =
    let walkless = c.cpu_box.invariant.walkless in
    let whole = c.cpu_box.invariant.whole in
    subst IsFree (sym c.visit.ensures.part)
    (record { walkless = walkless; alone = refl; whole = whole })

pub returns-clause-part : goal.returns-clause-part
returns-clause-part g c = c.visit.ensures.part ∙ ap without_guest c.cpu_box.view_is

pub returns-clause-pass : goal.returns-clause-pass
returns-clause-pass g c =
    c.visit.ensures.pass
    ∙ ap (λ (z : HeldPart). with_pass (knowing z.box.own.bases.journal) c.args.pass.now)
    c.cpu_box.view_is

pub returns-clause-fits : goal.returns-clause-fits
returns-clause-fits g c =
    subst (λ (z : HeldPart). PartFits z.box) c.cpu_box.view_is c.visit.ensures.fits

pub returns-clause-agree : goal.returns-clause-agree
returns-clause-agree g c p is =
    subst (λ (z : HeldPart). Agree z.box p) c.cpu_box.view_is (c.visit.ensures.agree p is)

pub returns-clause-opening : goal.returns-clause-opening
returns-clause-opening g c =
    ap (λ (z : HeldPart). z.box.opening) (sym c.cpu_box.view_is) ∙ c.visit.ensures.opening

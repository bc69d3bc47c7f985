use Rattle.std.proofs.Common.{sym, ap, ◌∙◌, subst}
use Rattle.shared_cpus.specs.shared_rule.Rule.{Each}
use Rattle.shared_cpus.specs.shared_rule.Plays.{Agree}
use Rattle.shared_cpus.specs.shared_rule.Parts.{HeldPart, pass_parted}
use Rattle.shared_cpus.specs.shared_rule.Passes.{HeldPass, passes_of}
use Rattle.shared_cpus.proofs.shared_rule.Visits as visits
use Rattle.shared_looks.specs.Marks.{IsNoticed}
use Rattle.shared_looks.proofs.Marked.{noticed_guest}
use Rattle.shared_looks.proofs.marks.may_take.Goals as goal

pub notice-requires : goal.notice-requires
notice-requires g c =
    let run = c.requires.run in
    (run.0, ap (λ (z : HeldPart). z.brought) c.bring.ensures.part ∙ ap passes_of run.1)

pub part_off-requires-clause-brought : goal.part_off-requires-clause-brought
part_off-requires-clause-brought g c =
    let run = c.requires.run in
    noticed_guest c.bring.new.pass.cpu c.bring.new.part c.notice.new.part (
      run.0,
      ap (λ (z : HeldPart). z.brought) c.bring.ensures.part ∙ ap passes_of run.1,
      c.law.ensures g.N.RunName.table run.0 run.1
          ∙ sym (ap (λ (z : HeldPass). z.cpu) c.bring.ensures.pass),
    ) c.notice.ensures

pub returns-clause-seen : goal.returns-clause-seen
returns-clause-seen g c = record {
  seen = c.notice.new.part;
  noticed =
      subst (λ (z : HeldPart). IsNoticed z c.notice.new.part) c.bring.ensures.part
      c.notice.ensures;
  pass_is =
      c.part_off.ensures.pass
      ∙ ap (λ n. pass_parted g.N.RunName.table n c.notice.new.part)
      (ap (λ (z : HeldPass). z.cpu) c.bring.ensures.pass);
}

pub returns-clause-agree : goal.returns-clause-agree
returns-clause-agree g c p is =
    visits.agrees c.args.part.now c.args.pass.now g.N.RunName.table p is
    (subst (λ (z : HeldPart). Each (Agree z.box) z.brought) c.bring.ensures.part
    c.bring.ensures.agrees)

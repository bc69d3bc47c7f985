use Rattle.std.proofs.Common.{Some, refl, sym, ap, ◌∙◌, subst}
use Rattle.shared_timers.specs.shared_rule.declared.parts.BoxView.{BoxView}
use Rattle.shared_timers.specs.shared_rule.declared.parts.PassView.{PassView}
use Rattle.shared_timers.specs.shared_rule.Parts.{HeldPart}
use Rattle.shared_timers.specs.shared_rule.Turns.{taken_box, taken_pass}
use Rattle.shared_looks.specs.shared_cpus.Conditions.{CanTake}
use Rattle.shared_looks.specs.shared_cpus.Pairs.{by_pair}
use Rattle.tree_plan.specs.Paths.{is_placed_in}
use Rattle.shared_acts.proofs.Closing.{agree_of, box_by_step, can_take, free_with, guest_by}
use Rattle.shared_acts.proofs.Closing.{parted_by}
use Rattle.shared_acts.proofs.Trials.{marked}
use Rattle.shared_acts.proofs.marking.mark.Goals as goal

pub bring-requires-clause-pass : goal.bring-requires-clause-pass
bring-requires-clause-pass g c = (c.requires.at_work.pass, c.requires.at_work.seated)

pub bring-requires-clause-alone : goal.bring-requires-clause-alone
bring-requires-clause-alone g c = c.requires.free.alone

pub take_step-requires : goal.take_step-requires
take_step-requires g c =
    let table = g.N.RunName.table in
    let part : HeldPart = c.args.part.now in
    let held = c.args.pass.now in
    let w = c.requires.at_work in
    let p : PassView = w.pass in
    let agree = agree_of table part c.bring.new.part held p w.seated c.bring.ensures.part
    c.bring.ensures.agrees in
    let own = c.law.ensures table p w.seated in
    let placed = (λ i. is_placed_in (w.is.opening i).tree (own i)) ∙ c.requires.placed in (
      p,
      subst (λ (z : HeldPart). CanTake z p) (sym c.bring.ensures.part)
          (can_take table part held p w.seated agree c.requires.free agree.opening placed w.is.inside
          w.is.goes_on c.requires.takable),
    )

pub part_off-requires-clause-brought : goal.part_off-requires-clause-brought
part_off-requires-clause-brought g c =
    let table = g.N.RunName.table in
    let w = c.requires.at_work in
    guest_by taken_box taken_pass table c.args.part.now c.args.pass.now w.pass w.seated
    c.bring.new.part c.take_step.new.part c.bring.new.pass c.bring.ensures.pass c.bring.ensures.part
    c.take_step.ensures refl (c.law.ensures table w.pass w.seated)

pub returns-clause-free : goal.returns-clause-free
returns-clause-free g c =
    let w = c.requires.at_work in
    free_with c.part_off.new.part (taken_box c.args.part.now.box w.pass)
    (box_by_step taken_box taken_pass g.N.RunName.table c.args.part.now c.args.pass.now w.pass w.seated
    c.bring.new.part c.take_step.new.part c.part_off.new.part c.bring.ensures.part
    c.take_step.ensures c.part_off.ensures.part)
    (ap (λ (z : HeldPart). z.brought) c.part_off.ensures.part) c.requires.free.walkless
    c.requires.free.whole

pub returns-clause-kept : goal.returns-clause-kept
returns-clause-kept g c =
    let w = c.requires.at_work in
    let box = box_by_step taken_box taken_pass g.N.RunName.table c.args.part.now c.args.pass.now w.pass
    w.seated c.bring.new.part c.take_step.new.part c.part_off.new.part c.bring.ensures.part
    c.take_step.ensures c.part_off.ensures.part in
    record {
      cpu = ap (λ (b : BoxView). b.cpu) box;
      bases = ap (λ (b : BoxView). b.own.bases) box;
      room =
          ap (λ (z : HeldPart). z.room) c.part_off.ensures.part
          ∙ (ap (λ (z : HeldPart). z.room) c.take_step.ensures
          ∙ ap (λ (z : HeldPart). z.room) c.bring.ensures.part);
    }

pub returns-clause-mark : goal.returns-clause-mark
returns-clause-mark g c =
    let w = c.requires.at_work in
    ap (λ (b : BoxView). b.own.mark)
    (box_by_step taken_box taken_pass g.N.RunName.table c.args.part.now c.args.pass.now w.pass w.seated
    c.bring.new.part c.take_step.new.part c.part_off.new.part c.bring.ensures.part
    c.take_step.ensures c.part_off.ensures.part)
    ∙ ap (λ n. Some n) (c.law.ensures g.N.RunName.table w.pass w.seated)

pub returns-clause-pass : goal.returns-clause-pass
returns-clause-pass g c =
    let table = g.N.RunName.table in
    let part : HeldPart = c.args.part.now in
    let held = c.args.pass.now in
    let w = c.requires.at_work in
    let agree = agree_of table part c.bring.new.part held w.pass w.seated c.bring.ensures.part
    c.bring.ensures.agrees in
    marked table part held c.part_off.new.pass w.pass w.seated agree w.marked
    (parted_by table (by_pair taken_box taken_pass) part c.bring.new.part c.take_step.new.part held
    c.bring.new.pass c.part_off.new.pass c.bring.ensures.pass c.bring.ensures.part
    c.take_step.ensures c.part_off.ensures.pass)

use Rattle.std.proofs.Common.{refl, sym, ap, ◌∙◌, subst}
use Rattle.shared_timers.specs.shared_rule.Parts.{HeldPart}
use Rattle.shared_timers.specs.shared_rule.Turns.{outside_box, outside_pass}
use Rattle.shared_looks.specs.shared_cpus.Conditions.{CanLeave}
use Rattle.shared_looks.specs.shared_cpus.Pairs.{by_pair, of_box}
use Rattle.shared_acts.proofs.Closing.{agree_of, box_by_step, can_leave, free_with, guest_by, left}
use Rattle.shared_acts.proofs.Closing.{online_in, parted_by}
use Rattle.shared_acts.proofs.interrupting.leave_part.Goals as goal

pub bring-requires-clause-pass : goal.bring-requires-clause-pass
bring-requires-clause-pass g c = (c.requires.at_work.pass, c.requires.at_work.seated)

pub bring-requires-clause-alone : goal.bring-requires-clause-alone
bring-requires-clause-alone g c = c.requires.free.alone

pub leave_step-requires : goal.leave_step-requires
leave_step-requires g c =
    let table = g.N.RunName.table in
    let part : HeldPart = c.args.part.now in
    let held = c.args.pass.now in
    let w = c.requires.at_work in
    let own = c.law.ensures table w.pass w.seated ∙ c.requires.own in
    let agree = agree_of table part c.bring.new.part held w.pass w.seated c.bring.ensures.part
    c.bring.ensures.agrees in
    subst CanLeave (sym c.bring.ensures.part)
    (can_leave table part held w.pass w.seated agree c.requires.free own
    (online_in part w.pass g.N.RunName.opening c.law-2.ensures.fits c.law-2.ensures.opening w.is own)
    w.is.inside c.requires.awake w.marked)

pub part_off-requires-clause-brought : goal.part_off-requires-clause-brought
part_off-requires-clause-brought g c =
    let table = g.N.RunName.table in
    let w = c.requires.at_work in
    guest_by (of_box outside_box) outside_pass table c.args.part.now c.args.pass.now w.pass w.seated
    c.bring.new.part c.leave_step.new.part c.bring.new.pass c.bring.ensures.pass
    c.bring.ensures.part c.leave_step.ensures refl (c.law.ensures table w.pass w.seated)

pub returns-clause-free : goal.returns-clause-free
returns-clause-free g c =
    let w = c.requires.at_work in
    free_with c.part_off.new.part (outside_box c.args.part.now.box)
    (box_by_step (of_box outside_box) outside_pass g.N.RunName.table c.args.part.now c.args.pass.now
    w.pass w.seated c.bring.new.part c.leave_step.new.part c.part_off.new.part c.bring.ensures.part
    c.leave_step.ensures c.part_off.ensures.part)
    (ap (λ (z : HeldPart). z.brought) c.part_off.ensures.part) c.requires.free.walkless
    c.requires.free.whole

pub returns-clause-closed : goal.returns-clause-closed
returns-clause-closed g c =
    let table = g.N.RunName.table in
    let part : HeldPart = c.args.part.now in
    let held = c.args.pass.now in
    let w = c.requires.at_work in
    let own = c.law.ensures table w.pass w.seated ∙ c.requires.own in
    let agree = agree_of table part c.bring.new.part held w.pass w.seated c.bring.ensures.part
    c.bring.ensures.agrees in
    left table part held w.pass w.seated agree c.requires.free c.part_off.new.pass w.is.goes_on
    (agree.idle own ∙ c.requires.awake)
    (parted_by table (by_pair (of_box outside_box) outside_pass) part c.bring.new.part
    c.leave_step.new.part held c.bring.new.pass c.part_off.new.pass c.bring.ensures.pass
    c.bring.ensures.part c.leave_step.ensures c.part_off.ensures.pass)

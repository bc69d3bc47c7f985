use Rattle.std.proofs.Common.{refl, sym, ap, subst}
use Rattle.shared_timers.specs.shared_rule.Parts.{HeldPart}
use Rattle.shared_timers.specs.shared_rule.Turns.{released_box, released_pass}
use Rattle.shared_looks.specs.shared_cpus.Conditions.{CanRelease}
use Rattle.shared_looks.specs.shared_cpus.Pairs.{by_pair}
use Rattle.shared_acts.proofs.Closing.{agree_of, box_by_step, can_release, free_with, guest_by}
use Rattle.shared_acts.proofs.Closing.{parted_by}
use Rattle.shared_acts.proofs.Trials.{taken_back}
use Rattle.shared_acts.proofs.marking.take_back.Goals as goal

pub bring-requires-clause-pass : goal.bring-requires-clause-pass
bring-requires-clause-pass g c = (c.requires.marked.pass, c.requires.marked.seated)

pub bring-requires-clause-alone : goal.bring-requires-clause-alone
bring-requires-clause-alone g c = c.requires.free.alone

pub release_step-requires : goal.release_step-requires
release_step-requires g c =
    let table = g.N.RunName.table in
    let part : HeldPart = c.args.part.now in
    let held = c.args.pass.now in
    let w = c.requires.marked in
    let agree = agree_of table part c.bring.new.part held w.pass w.seated c.bring.ensures.part
    c.bring.ensures.agrees in
    subst CanRelease (sym c.bring.ensures.part)
    (can_release table part held w.pass w.seated agree c.requires.free w.marked c.requires.awake)

pub part_off-requires-clause-brought : goal.part_off-requires-clause-brought
part_off-requires-clause-brought g c =
    let table = g.N.RunName.table in
    let w = c.requires.marked in
    guest_by released_box released_pass table c.args.part.now c.args.pass.now w.pass w.seated
    c.bring.new.part c.release_step.new.part c.bring.new.pass c.bring.ensures.pass
    c.bring.ensures.part c.release_step.ensures refl (c.law.ensures table w.pass w.seated)

pub returns-clause-free : goal.returns-clause-free
returns-clause-free g c =
    let w = c.requires.marked in
    free_with c.part_off.new.part (released_box c.args.part.now.box w.pass)
    (box_by_step released_box released_pass g.N.RunName.table c.args.part.now c.args.pass.now w.pass
    w.seated c.bring.new.part c.release_step.new.part c.part_off.new.part c.bring.ensures.part
    c.release_step.ensures c.part_off.ensures.part)
    (ap (λ (z : HeldPart). z.brought) c.part_off.ensures.part) c.requires.free.walkless
    c.requires.free.whole

pub returns-clause-pass : goal.returns-clause-pass
returns-clause-pass g c =
    let table = g.N.RunName.table in
    let part : HeldPart = c.args.part.now in
    let held = c.args.pass.now in
    let w = c.requires.marked in
    let agree = agree_of table part c.bring.new.part held w.pass w.seated c.bring.ensures.part
    c.bring.ensures.agrees in
    taken_back table part held c.part_off.new.pass w.pass w.seated agree w.marked
    (parted_by table (by_pair released_box released_pass) part c.bring.new.part
    c.release_step.new.part held c.bring.new.pass c.part_off.new.pass c.bring.ensures.pass
    c.bring.ensures.part c.release_step.ensures c.part_off.ensures.pass)

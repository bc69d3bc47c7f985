use Rattle.std.proofs.Common.{refl, sym, ap, ◌∙◌, subst}
use Rattle.walk_inactive.specs.shared_rule.Parts.{HeldPart}
use Rattle.walk_inactive.specs.shared_rule.Passes.{HeldPass}
use Rattle.walk_inactive.specs.shared_rule.Turns.{entered_box, entered_pass}
use Rattle.walk_inactive.specs.shared_cpus.Conditions.{CanEnter}
use Rattle.walk_inactive.specs.shared_cpus.Pairs.{by_pair, of_box}
use Rattle.shared_acts.proofs.Closing.{agree_of, box_by_step, can_enter, free_with, guest_by}
use Rattle.shared_acts.proofs.Closing.{online_by, parted_by}
use Rattle.remote_expiry.proofs.Closing.{entered, fault_by}
use Rattle.remote_expiry.proofs.Interrupted.{not_refused}
use Rattle.remote_expiry.proofs.interrupting.enter_part.Goals as goal

pub returns-in-Some-clause-done : goal.returns-in-Some-clause-done
returns-in-Some-clause-done g c =
    let may = c.requires.enterable in
    let own = c.law.ensures g.N.RunName.table may.pass may.seated ∙ c.requires.own in
    record {
      before = may.pass;
      had = may.seated;
      same = refl;
      fault_is =
          sym (fault_by g.N.RunName.table c.args.part.now c.args.pass.now may.pass may.seated
          c.law-2.ensures.fits (c.law-2.ensures.opening ∙ sym may.rest.opening) own c.state.result
          c.state.ensures c.walks.result c.walks.ensures)
          ∙ (sym c.interrupt_fault.ensures ∙ c.in-Some.is);
    }

pub bring-requires-clause-pass : goal.bring-requires-clause-pass
bring-requires-clause-pass g c = (c.requires.enterable.pass, c.requires.enterable.seated)

pub bring-requires-clause-alone : goal.bring-requires-clause-alone
bring-requires-clause-alone g c = c.requires.free.alone

pub enter_step-requires : goal.enter_step-requires
enter_step-requires g c =
    let table = g.N.RunName.table in
    let part : HeldPart = c.args.part.now in
    let held = c.args.pass.now in
    let may = c.requires.enterable in
    let p = may.pass in
    let own = c.law.ensures table p may.seated ∙ c.requires.own in
    let opening = c.law-2.ensures.opening ∙ sym may.rest.opening in
    let agree = agree_of table part c.bring.new.part held p may.seated c.bring.ensures.part
    c.bring.ensures.agrees in
    let free = sym (fault_by table part held p may.seated c.law-2.ensures.fits opening own
    c.state.result c.state.ensures c.walks.result c.walks.ensures)
    ∙ (sym c.interrupt_fault.ensures ∙ c.in_default.is) in
    let online = online_by part p c.law-2.ensures.fits opening own ∙ (not_refused _ p.walks free).0 in
    subst CanEnter (sym c.bring.ensures.part)
    (can_enter table part held p may.seated agree c.requires.free own online may.rest.outside)

pub part_off-requires-clause-brought : goal.part_off-requires-clause-brought
part_off-requires-clause-brought g c =
    let table = g.N.RunName.table in
    let may = c.requires.enterable in
    guest_by (of_box entered_box) entered_pass table c.args.part.now c.args.pass.now may.pass may.seated
    c.bring.new.part c.enter_step.new.part c.bring.new.pass c.bring.ensures.pass
    c.bring.ensures.part c.enter_step.ensures refl (c.law.ensures table may.pass may.seated)

pub returns-clause-free : goal.returns-clause-free
returns-clause-free g c =
    let may = c.requires.enterable in
    free_with c.part_off.new.part (entered_box c.args.part.now.box)
    (box_by_step (of_box entered_box) entered_pass g.N.RunName.table c.args.part.now c.args.pass.now
    may.pass may.seated c.bring.new.part c.enter_step.new.part c.part_off.new.part
    c.bring.ensures.part c.enter_step.ensures c.part_off.ensures.part)
    (ap (λ (z : HeldPart). z.brought) c.part_off.ensures.part) c.requires.free.walkless
    c.requires.free.whole

pub returns-clause-done : goal.returns-clause-done
returns-clause-done g c =
    let table = g.N.RunName.table in
    let part : HeldPart = c.args.part.now in
    let held = c.args.pass.now in
    let may = c.requires.enterable in
    let p = may.pass in
    let own = c.law.ensures table p may.seated ∙ c.requires.own in
    let opening = c.law-2.ensures.opening ∙ sym may.rest.opening in
    let agree = agree_of table part c.bring.new.part held p may.seated c.bring.ensures.part
    c.bring.ensures.agrees in
    let free = sym (fault_by table part held p may.seated c.law-2.ensures.fits opening own
    c.state.result c.state.ensures c.walks.result c.walks.ensures)
    ∙ (sym c.interrupt_fault.ensures ∙ c.in_default.is) in
    entered table part held p may.seated agree c.requires.free g.N.RunName.opening c.part_off.new.pass
    free
    (parted_by table (by_pair (of_box entered_box) entered_pass) part c.bring.new.part
    c.enter_step.new.part held c.bring.new.pass c.part_off.new.pass c.bring.ensures.pass
    c.bring.ensures.part c.enter_step.ensures c.part_off.ensures.pass)

pub part_off-requires-clause-pass : goal.part_off-requires-clause-pass
part_off-requires-clause-pass g c = ap (λ (z : HeldPass). z.seated) c.bring.ensures.pass

pub returns-in-Some-clause-free : goal.returns-in-Some-clause-free
returns-in-Some-clause-free g c = c.requires.free

use Rattle.std.proofs.Common.{sym, ap, ◌∙◌, subst}
use Rattle.std.proofs.Common.{arith, true≢false}
use Rattle.walk_inactive.specs.shared_rule.declared.parts.BoxView.{BoxView}
use Rattle.walk_inactive.specs.shared_rule.Plays.{head_pass}
use Rattle.walk_inactive.specs.shared_rule.Parts.{HeldPart, pass_parted}
use Rattle.walk_inactive.specs.shared_rule.Passes.{HeldPass, passes_of}
use Rattle.cpu_bases.specs.CpuBases.{CpuBases}
use Rattle.walk_inactive.specs.shared_cpus.Conditions.{CanCarry}
use Rattle.walk_inactive.specs.shared_table.Readied.{HasNoneBehind}
use Rattle.walk_inactive.specs.Ends.{HasCarried, has_carried, retells_with}
use Rattle.shared_acts.proofs.Closing.{agree_of, can_carry, free_with}
use Rattle.remote_expiry.proofs.Closing.{carries}
use Rattle.remote_expiry.proofs.Carried.{carried}
use Rattle.remote_expiry.proofs.marking.carry_for.Goals as goal

pub bring-requires-clause-pass : goal.bring-requires-clause-pass
bring-requires-clause-pass g c = (c.requires.marked.pass, c.requires.marked.seated)

pub bring-requires-clause-alone : goal.bring-requires-clause-alone
bring-requires-clause-alone g c = c.requires.free.alone

pub carry-requires-clause-retells : goal.carry-requires-clause-retells
carry-requires-clause-retells g c on =
    let table = g.N.RunName.table in
    let part : HeldPart = c.args.part.now in
    let held = c.args.pass.now in
    let w = c.requires.marked in
    let agree = agree_of table part c.bring.new.part held w.pass w.seated c.bring.ensures.part
    c.bring.ensures.agrees in
    let off = ap (λ (z : HeldPart). retells_with z.box z.brought) c.bring.ensures.part
    ∙ carries table part held w.pass w.seated agree c.requires.free w.marked in
    absurd (true≢false (sym on ∙ off))

pub carry-requires-clause-carries : goal.carry-requires-clause-carries
carry-requires-clause-carries g c off =
    let table = g.N.RunName.table in
    let part : HeldPart = c.args.part.now in
    let held = c.args.pass.now in
    let w = c.requires.marked in
    let agree = agree_of table part c.bring.new.part held w.pass w.seated c.bring.ensures.part
    c.bring.ensures.agrees in
    let few = w.few in
    subst CanCarry (sym c.bring.ensures.part)
    (can_carry table part held w.pass w.seated agree c.requires.free w.marked c.requires.online
    c.requires.idle (omega (arith, few)))

pub part_off-requires-clause-brought : goal.part_off-requires-clause-brought
part_off-requires-clause-brought g c =
    let table = g.N.RunName.table in
    let part : HeldPart = c.args.part.now in
    let held = c.args.pass.now in
    let w = c.requires.marked in
    let agree = agree_of table part c.bring.new.part held w.pass w.seated c.bring.ensures.part
    c.bring.ensures.agrees in
    let off = ap (λ (z : HeldPart). retells_with z.box z.brought) c.bring.ensures.part
    ∙ carries table part held w.pass w.seated agree c.requires.free w.marked in
    let one = ap (λ (z : HeldPart). z.brought) c.bring.ensures.part ∙ ap passes_of w.seated in
    let h = c.carry.ensures.carried off w.pass one in (
      has_carried c.carry.new.cpu_part.box w.pass,
      ap (λ (z : HeldPart). z.brought) h.rest
          ∙ ap (head_pass (has_carried c.carry.new.cpu_part.box)) one,
      c.law.ensures table w.pass w.seated ∙ sym (ap (λ (z : HeldPass). z.cpu) c.bring.ensures.pass),
    )

pub returns-clause-free : goal.returns-clause-free
returns-clause-free g c =
    let table = g.N.RunName.table in
    let part : HeldPart = c.args.part.now in
    let held = c.args.pass.now in
    let w = c.requires.marked in
    let agree = agree_of table part c.bring.new.part held w.pass w.seated c.bring.ensures.part
    c.bring.ensures.agrees in
    let off = ap (λ (z : HeldPart). retells_with z.box z.brought) c.bring.ensures.part
    ∙ carries table part held w.pass w.seated agree c.requires.free w.marked in
    let one = ap (λ (z : HeldPart). z.brought) c.bring.ensures.part ∙ ap passes_of w.seated in
    let h = c.carry.ensures.carried off w.pass one in
    free_with c.part_off.new.part c.carry.new.cpu_part.box
    (ap (λ (z : HeldPart). z.box) c.part_off.ensures.part)
    (ap (λ (z : HeldPart). z.brought) c.part_off.ensures.part)
    (ap (λ (b : BoxView). b.own.walk) h.told.box
    ∙ (ap (λ (z : HeldPart). z.box.own.walk) c.bring.ensures.part ∙ c.requires.free.walkless))
    (subst (λ (y : CpuBases). HasNoneBehind y)
    (sym (ap (λ (b : BoxView). b.own.bases) h.told.box
    ∙ ap (λ (z : HeldPart). z.box.own.bases) c.bring.ensures.part)) c.requires.free.whole)

pub returns-clause-pass : goal.returns-clause-pass
returns-clause-pass g c =
    let table = g.N.RunName.table in
    let part : HeldPart = c.args.part.now in
    let held = c.args.pass.now in
    let w = c.requires.marked in
    let agree = agree_of table part c.bring.new.part held w.pass w.seated c.bring.ensures.part
    c.bring.ensures.agrees in
    let off = ap (λ (z : HeldPart). retells_with z.box z.brought) c.bring.ensures.part
    ∙ carries table part held w.pass w.seated agree c.requires.free w.marked in
    carried table part held c.part_off.new.pass w.pass w.seated agree c.carry.new.cpu_part w.marked
    (subst (λ (z : HeldPart). HasCarried z c.carry.new.cpu_part) c.bring.ensures.part
    (c.carry.ensures.carried off))
    (c.part_off.ensures.pass
    ∙ ap (λ n. pass_parted table n c.carry.new.cpu_part)
    (ap (λ (z : HeldPass). z.cpu) c.bring.ensures.pass))

pub part_off-requires-clause-pass : goal.part_off-requires-clause-pass
part_off-requires-clause-pass g c = ap (λ (z : HeldPass). z.seated) c.bring.ensures.pass

use Rattle.std.proofs.Common.{sym, ap, ◌∙◌, subst}
use Rattle.std.proofs.Common.{arith, true≢false}
use Rattle.cpu_bases.specs.CpuBases.{CpuBases}
use Rattle.walk_rules.specs.declared.walk.WalkKind.TheVariants as kinds
use Rattle.walk_inactive.specs.shared_rule.declared.parts.BoxView.{BoxView}
use Rattle.walk_inactive.specs.shared_rule.Plays.{head_pass}
use Rattle.walk_inactive.specs.shared_rule.Parts.{HeldPart, pass_parted}
use Rattle.walk_inactive.specs.shared_rule.Passes.{HeldPass, passes_of}
use Rattle.walk_inactive.specs.shared_cpus.Conditions.{CanRetell}
use Rattle.walk_inactive.specs.shared_table.Readied.{HasNoneBehind}
use Rattle.walk_inactive.specs.Ends.{HasWalked, cpu_reevaluated, retells_with, pass_retold}
use Rattle.shared_acts.proofs.Closing.{agree_of, can_retell, free_with, online_in}
use Rattle.remote_expiry.proofs.Closing.{retells, told_anew}
use Rattle.remote_expiry.proofs.interrupting.retell_part.Goals as goal

pub bring-requires-clause-pass : goal.bring-requires-clause-pass
bring-requires-clause-pass g c = (c.requires.at_work.pass, c.requires.at_work.seated)

pub bring-requires-clause-alone : goal.bring-requires-clause-alone
bring-requires-clause-alone g c = c.requires.free.alone

pub carry-requires-clause-retells : goal.carry-requires-clause-retells
carry-requires-clause-retells g c on =
    let table = g.N.RunName.table in
    let part : HeldPart = c.args.part.now in
    let held = c.args.pass.now in
    let w = c.requires.at_work in
    let own = c.law.ensures table w.pass w.seated ∙ c.requires.own in
    let agree = agree_of table part c.bring.new.part held w.pass w.seated c.bring.ensures.part
    c.bring.ensures.agrees in
    let few = w.few in
    subst CanRetell (sym c.bring.ensures.part)
    (can_retell table part held w.pass w.seated agree c.requires.free own
    (online_in part w.pass g.N.RunName.opening c.law-2.ensures.fits c.law-2.ensures.opening w.is own)
    w.is.inside c.requires.idle w.marked (omega (arith, few)))

pub carry-requires-clause-carries : goal.carry-requires-clause-carries
carry-requires-clause-carries g c off =
    let table = g.N.RunName.table in
    let part : HeldPart = c.args.part.now in
    let held = c.args.pass.now in
    let w = c.requires.at_work in
    let own = c.law.ensures table w.pass w.seated ∙ c.requires.own in
    let agree = agree_of table part c.bring.new.part held w.pass w.seated c.bring.ensures.part
    c.bring.ensures.agrees in
    let on = ap (λ (z : HeldPart). retells_with z.box z.brought) c.bring.ensures.part
    ∙ retells table part held w.pass w.seated agree c.requires.free own w.marked in
    absurd (true≢false (sym on ∙ off))

pub part_off-requires-clause-brought : goal.part_off-requires-clause-brought
part_off-requires-clause-brought g c =
    let table = g.N.RunName.table in
    let part : HeldPart = c.args.part.now in
    let held = c.args.pass.now in
    let w = c.requires.at_work in
    let own = c.law.ensures table w.pass w.seated ∙ c.requires.own in
    let agree = agree_of table part c.bring.new.part held w.pass w.seated c.bring.ensures.part
    c.bring.ensures.agrees in
    let on = ap (λ (z : HeldPart). retells_with z.box z.brought) c.bring.ensures.part
    ∙ retells table part held w.pass w.seated agree c.requires.free own w.marked in
    let one = ap (λ (z : HeldPart). z.brought) c.bring.ensures.part ∙ ap passes_of w.seated in
    let h = c.carry.ensures.retold on in (
      pass_retold c.carry.new.cpu_part.box w.pass,
      ap (λ (z : HeldPart). z.brought) h.rest
          ∙ ap (head_pass (pass_retold c.carry.new.cpu_part.box)) one,
      c.law.ensures table w.pass w.seated ∙ sym (ap (λ (z : HeldPass). z.cpu) c.bring.ensures.pass),
    )

pub returns-clause-free : goal.returns-clause-free
returns-clause-free g c =
    let table = g.N.RunName.table in
    let part : HeldPart = c.args.part.now in
    let held = c.args.pass.now in
    let w = c.requires.at_work in
    let own = c.law.ensures table w.pass w.seated ∙ c.requires.own in
    let agree = agree_of table part c.bring.new.part held w.pass w.seated c.bring.ensures.part
    c.bring.ensures.agrees in
    let on = ap (λ (z : HeldPart). retells_with z.box z.brought) c.bring.ensures.part
    ∙ retells table part held w.pass w.seated agree c.requires.free own w.marked in
    let h = c.carry.ensures.retold on in
    free_with c.part_off.new.part c.carry.new.cpu_part.box
    (ap (λ (z : HeldPart). z.box) c.part_off.ensures.part)
    (ap (λ (z : HeldPart). z.brought) c.part_off.ensures.part)
    (ap (λ (b : BoxView). b.own.walk) h.told.box
    ∙ (ap (λ (z : HeldPart). z.box.own.walk) c.bring.ensures.part ∙ c.requires.free.walkless))
    (subst (λ (y : CpuBases). HasNoneBehind y)
    (sym (ap (λ (b : BoxView). b.own.bases) h.told.box
    ∙ ap (λ (z : HeldPart). z.box.own.bases) c.bring.ensures.part)) c.requires.free.whole)

pub returns-clause-closed : goal.returns-clause-closed
returns-clause-closed g c =
    let table = g.N.RunName.table in
    let part : HeldPart = c.args.part.now in
    let held = c.args.pass.now in
    let w = c.requires.at_work in
    let own = c.law.ensures table w.pass w.seated ∙ c.requires.own in
    let agree = agree_of table part c.bring.new.part held w.pass w.seated c.bring.ensures.part
    c.bring.ensures.agrees in
    let on = ap (λ (z : HeldPart). retells_with z.box z.brought) c.bring.ensures.part
    ∙ retells table part held w.pass w.seated agree c.requires.free own w.marked in
    told_anew table part held w.pass w.seated agree c.requires.free c.carry.new.cpu_part
    c.part_off.new.pass (agree.idle own ∙ c.requires.idle)
    (subst (λ (z : HeldPart). HasWalked kinds.Reeval cpu_reevaluated pass_retold z c.carry.new.cpu_part)
    c.bring.ensures.part (c.carry.ensures.retold on))
    (c.part_off.ensures.pass
    ∙ ap (λ n. pass_parted table n c.carry.new.cpu_part)
    (ap (λ (z : HeldPass). z.cpu) c.bring.ensures.pass))

pub part_off-requires-clause-pass : goal.part_off-requires-clause-pass
part_off-requires-clause-pass g c = ap (λ (z : HeldPass). z.seated) c.bring.ensures.pass

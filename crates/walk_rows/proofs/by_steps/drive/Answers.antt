use Rattle.std.proofs.Common.{ap, sym, ◌∙◌, subst}
use Rattle.idle_wakeup.specs.shared_rule.Parts.{HeldPart}
use Rattle.shared_rows.specs.shared_table.Ended.{IsPassAt}
use Rattle.walk_rows.proofs.Driving.{at_own, stays_at}
use Rattle.walk_rows.proofs.by_steps.drive.Goals as goal

pub drive_boxes-requires-clause-one : goal.drive_boxes-requires-clause-one
drive_boxes-requires-clause-one g c =
    let table = g.N.RunName.table in
    let held = c.args.one.now in
    let found = ap (λ (z : HeldPart). z.box.cpu) c.deref_mut.ensures.value
    ∙ c.lock-first.ensures ∙ c.cpu.ensures in
    let at = at_own table g.N.RunName.opening held c.requires.one (c.law.ensures table) in
    subst (λ n. IsPassAt table n held) (sym found) at

pub returns-clause-one : goal.returns-clause-one
returns-clause-one g c =
    let table = g.N.RunName.table in
    let held = c.args.one.now in
    let found = ap (λ (z : HeldPart). z.box.cpu) c.deref_mut.ensures.value
    ∙ c.lock-first.ensures ∙ c.cpu.ensures in
    let at = at_own table g.N.RunName.opening held c.requires.one (c.law.ensures table) in
    stays_at table held.cpu held c.drive_boxes.new.one at
    (subst (λ n. IsPassAt table n c.drive_boxes.new.one) found c.drive_boxes.ensures.one)

pub drive_boxes-requires-clause-other : goal.drive_boxes-requires-clause-other
drive_boxes-requires-clause-other g c =
    let table = g.N.RunName.table in
    let held = c.args.other.now in
    let found = ap (λ (z : HeldPart). z.box.cpu) c.deref_mut-2.ensures.value
    ∙ c.lock-second.ensures ∙ c.cpu-2.ensures in
    let at = at_own table g.N.RunName.opening held c.requires.other (c.law-2.ensures table) in
    subst (λ n. IsPassAt table n held) (sym found) at

pub returns-clause-other : goal.returns-clause-other
returns-clause-other g c =
    let table = g.N.RunName.table in
    let held = c.args.other.now in
    let found = ap (λ (z : HeldPart). z.box.cpu) c.deref_mut-2.ensures.value
    ∙ c.lock-second.ensures ∙ c.cpu-2.ensures in
    let at = at_own table g.N.RunName.opening held c.requires.other (c.law-2.ensures table) in
    stays_at table held.cpu held c.drive_boxes.new.other at
    (subst (λ n. IsPassAt table n c.drive_boxes.new.other) found c.drive_boxes.ensures.other)

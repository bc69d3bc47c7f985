use Rattle.std.proofs.Common.{◌+◌, ◌<◌, ap, sym, ◌∙◌, subst}
use Rattle.walk_rules.specs.declared.walk.WalkKind.TheVariants as kinds
use Rattle.core_world.specs.Enabled.{first_event}
use Rattle.shared_cpus.specs.shared_rule.Parts.{HasGuest, HeldPart, pass_parted, without_guest}
use Rattle.shared_cpus.specs.shared_rule.Passes.{with_pass}
use Rattle.shared_cpus.specs.Conditions.{CanIdle}
use Rattle.shared_table.specs.Begun.{IsFree}
use Rattle.walk_inactive.specs.Ends.{HasWalkTold, HasWalked, pass_at_rest, gone_idle, pass_rested}
use Rattle.walk_inactive.proofs.Parted.{can_idle, has_guest, is_free, parted}
use Rattle.walk_inactive.proofs.idling.deactivate.Goals as goal

pub rest-requires : goal.rest-requires
rest-requires g c =
    let part : HeldPart = c.cpu_box.inside.part in
    let pass = c.args.pass.now in
    let p = c.requires.run.0 in
    let is = c.cpu_box.view_is in
    subst CanIdle (sym c.bring.ensures.part)
    (can_idle g.N.RunName.table part pass p c.requires.run.1
    (c.requires.own p c.requires.run.1 ∙ sym (ap (λ (z : HeldPart). z.box.cpu) is))
    c.cpu_box.invariant
    (ap (λ (z : HeldPart). z.box.own.online) is ∙ c.requires.online)
    (ap (λ (z : HeldPart). z.box.own.idle) is ∙ c.requires.awake)
    (ap (λ (z : HeldPart). z.box.own.inside) is ∙ c.requires.outside)
    (subst (λ (z : HeldPart). z.box.opening.clock + 1 < first_event z.box.own.bases) (sym is)
    c.requires.rests)
    c.requires.left)

pub part_off-requires-clause-brought : goal.part_off-requires-clause-brought
part_off-requires-clause-brought g c =
    let part : HeldPart = c.cpu_box.inside.part in
    let pass = c.args.pass.now in
    let p = c.requires.run.0 in
    let is = c.cpu_box.view_is in
    let new = c.rest.new.part in
    let walked = subst (λ z. HasWalked kinds.Deactivate gone_idle pass_at_rest z new)
    c.bring.ensures.part c.rest.ensures in
    let cpu = sym (ap (λ (z : HeldPart). z.box.cpu) is) in
    subst (λ n. HasGuest n new) (sym (ap (λ z. z.cpu) c.bring.ensures.pass))
    (has_guest g.N.RunName.table part pass p c.requires.run.1
    (c.requires.own p c.requires.run.1 ∙ cpu) new walked (c.requires.cpu ∙ cpu))

pub invariant_of-cpu_box : goal.invariant_of-cpu_box
invariant_of-cpu_box g c =
    let part : HeldPart = c.cpu_box.inside.part in
    let pass = c.args.pass.now in
    let p = c.requires.run.0 in
    let is = c.cpu_box.view_is in
    let new = c.rest.new.part in
    let walked = subst (λ z. HasWalked kinds.Deactivate gone_idle pass_at_rest z new)
    c.bring.ensures.part c.rest.ensures in
    let cpu = sym (ap (λ (z : HeldPart). z.box.cpu) is) in
    subst IsFree (sym c.part_off.ensures.part)
    (is_free g.N.RunName.table part pass p c.requires.run.1
    (c.requires.own p c.requires.run.1 ∙ cpu) new walked c.cpu_box.invariant)

pub returns-clause-told : goal.returns-clause-told
returns-clause-told g c =
    let part : HeldPart = c.cpu_box.inside.part in
    let new = c.rest.new.part in
    let walked = subst (λ z. HasWalked kinds.Deactivate gone_idle pass_at_rest z new)
    c.bring.ensures.part c.rest.ensures in
    subst (λ (z : HeldPart). HasWalkTold kinds.Deactivate gone_idle z.box c.part_off.new.part.box)
    c.cpu_box.view_is
    (subst (λ z. HasWalkTold kinds.Deactivate gone_idle part.box z.box) (sym c.part_off.ensures.part)
    walked.told)

pub returns-clause-rest : goal.returns-clause-rest
returns-clause-rest g c =
    let part : HeldPart = c.cpu_box.inside.part in
    let new = c.rest.new.part in
    let walked = subst (λ z. HasWalked kinds.Deactivate gone_idle pass_at_rest z new)
    c.bring.ensures.part c.rest.ensures in
    let back = sym c.part_off.ensures.part in
    let is = c.cpu_box.view_is in
    c.part_off.ensures.part ∙ ap without_guest walked.rest
    ∙ (λ i. without_guest (record (is i) { box = (back i).box }))

pub returns-clause-pass : goal.returns-clause-pass
returns-clause-pass g c =
    let part : HeldPart = c.cpu_box.inside.part in
    let pass = c.args.pass.now in
    let p = c.requires.run.0 in
    let is = c.cpu_box.view_is in
    let new = c.rest.new.part in
    let walked = subst (λ z. HasWalked kinds.Deactivate gone_idle pass_at_rest z new)
    c.bring.ensures.part c.rest.ensures in
    let cpu = sym (ap (λ (z : HeldPart). z.box.cpu) is) in
    let back = sym c.part_off.ensures.part in
    c.part_off.ensures.pass
    ∙ (λ i. pass_parted g.N.RunName.table (c.bring.ensures.pass i).cpu new)
    ∙ parted g.N.RunName.table part pass p c.requires.run.1
    (c.requires.own p c.requires.run.1 ∙ cpu) new walked
    ∙ (λ i. with_pass (pass_rested (back i).box) pass)

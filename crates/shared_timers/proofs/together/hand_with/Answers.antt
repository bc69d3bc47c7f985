use Rattle.std.proofs.Common.{sym, ap, ◌∙◌, subst}
use Rattle.std.specs.Prelude.{IfNone, OnSome}
use Rattle.wheel_core.specs.PlainBase.{NoneBehind, OneFewer, OutIsDue, next_out}
use Rattle.cpu_bases.specs.CpuBases.{base_of}
use Rattle.cpu_bases.specs.Laws.{HandsOut}
use Rattle.shared_rule.specs.Parts.{HasGuest, HeldPart, pass_parted, without_guest}
use Rattle.shared_rule.specs.Passes.{HeldPass, passes_of}
use Rattle.shared_timers.specs.Draining.{MayDrain, drained_part}
use Rattle.shared_timers.proofs.Visits.{drained_guest}
use Rattle.shared_timers.proofs.together.hand_with.Goals as goal

pub drain_step-item-requires-clause-may : goal.drain_step-item-requires-clause-may
drain_step-item-requires-clause-may g c =
    subst (λ (z : HeldPart). MayDrain z c.args.class) (sym c.bring.ensures.part) c.requires.may

pub part_off-requires-clause-brought : goal.part_off-requires-clause-brought
part_off-requires-clause-brought g c =
    let table = g.N.RunName.table in
    let run = c.requires.run in
    subst (λ n. HasGuest n c.drain_step-item.new.part)
    (sym (ap (λ (z : HeldPass). z.cpu) c.bring.ensures.pass))
    (drained_guest table c.args.part.now c.args.pass.now run.0 run.1
    (c.law.ensures table run.0 run.1) c.bring.new.part c.bring.ensures.part c.args.class
    c.drain_step-item.new.part c.drain_step-item.ensures.part)

pub returns-clause-item : goal.returns-clause-item
returns-clause-item g c =
    c.drain_step-item.ensures.item
    ∙ ap (λ (z : HeldPart). next_out c.args.now (base_of c.args.class z.box.own.bases))
    c.bring.ensures.part

pub returns-clause-part : goal.returns-clause-part
returns-clause-part g c =
    c.part_off.ensures.part
    ∙ ap without_guest
    (c.drain_step-item.ensures.part ∙ ap (drained_part c.args.class) c.bring.ensures.part)

pub returns-clause-pass : goal.returns-clause-pass
returns-clause-pass g c =
    let table = g.N.RunName.table in
    c.part_off.ensures.pass
    ∙ (ap (λ n. pass_parted table n c.drain_step-item.new.part)
    (ap (λ (z : HeldPass). z.cpu) c.bring.ensures.pass)
    ∙ ap (pass_parted table c.args.pass.now.cpu)
    (c.drain_step-item.ensures.part ∙ ap (drained_part c.args.class) c.bring.ensures.part))

pub returns-clause-due : goal.returns-clause-due
returns-clause-due g c =
    subst (λ (z : HeldPart). OutIsDue c.args.now (base_of c.args.class z.box.own.bases).items
    c.drain_step-item.result) c.bring.ensures.part c.drain_step-item.ensures.due

pub returns-clause-one_fewer : goal.returns-clause-one_fewer
returns-clause-one_fewer g c =
    let class = c.args.class in
    subst (λ (z : HeldPart). OnSome c.drain_step-item.result
    (OneFewer (base_of class c.args.part.now.box.own.bases) (base_of class z.box.own.bases)))
    (sym c.part_off.ensures.part)
    (subst (λ (z : HeldPart). OnSome c.drain_step-item.result
    (OneFewer (base_of class z.box.own.bases)
    (base_of class c.drain_step-item.new.part.box.own.bases))) c.bring.ensures.part
    c.drain_step-item.ensures.one_fewer)

pub returns-clause-none_behind : goal.returns-clause-none_behind
returns-clause-none_behind g c =
    subst (λ (z : HeldPart). IfNone c.drain_step-item.result
    (NoneBehind (base_of c.args.class z.box.own.bases))) (sym c.part_off.ensures.part)
    c.drain_step-item.ensures.none_behind

pub returns-clause-keeps : goal.returns-clause-keeps
returns-clause-keeps g c =
    let class = c.args.class in
    let table = g.N.RunName.table in
    let run = c.requires.run in
    let brought = ap (λ (z : HeldPart). z.brought) c.bring.ensures.part ∙ ap passes_of run.1 in
    let keeps = subst (λ n. HandsOut c.args.now class n c.bring.new.part.box.own.bases
    c.drain_step-item.new.part.box.own.bases) (c.law.ensures table run.0 run.1)
    (c.drain_step-item.ensures.keeps run.0 brought) in
    subst (λ (z : HeldPart). HandsOut c.args.now class c.args.pass.now.cpu
    c.args.part.now.box.own.bases z.box.own.bases) (sym c.part_off.ensures.part)
    (subst (λ (z : HeldPart). HandsOut c.args.now class c.args.pass.now.cpu z.box.own.bases
    c.drain_step-item.new.part.box.own.bases) c.bring.ensures.part keeps)

use Rattle.std.proofs.Common.{◌<◌, length, sym, ap, ◌∙◌, subst}
use Rattle.walk_inactive.specs.shared_rule.Parts.{HeldPart}
use Rattle.remote_expiry.proofs.interrupting.end.Goals as goal

pub lock-guard-requires : goal.lock-guard-requires
lock-guard-requires g c =
    let w = c.requires.at_work in
    subst (λ n. n < length g.N.RunName.opening.cpus)
    (c.law.ensures g.N.RunName.table w.pass w.seated ∙ sym c.cpu.ensures) w.is.cpu

pub end_box-requires-clause-own : goal.end_box-requires-clause-own
end_box-requires-clause-own g c =
    sym c.cpu.ensures
    ∙ (sym c.lock-guard.ensures ∙ sym (ap (λ (z : HeldPart). z.box.cpu) c.deref_mut.ensures.value))

pub end_box-requires-clause-at_work : goal.end_box-requires-clause-at_work
end_box-requires-clause-at_work g c = c.requires.at_work

pub returns : goal.returns
returns g c = c.end_box.ensures

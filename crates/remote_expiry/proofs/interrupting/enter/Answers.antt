use Rattle.std.proofs.Common.{◌<◌, length, sym, ap, ◌∙◌, subst}
use Rattle.walk_inactive.specs.shared_rule.Parts.{HeldPart}
use Rattle.remote_expiry.proofs.interrupting.enter.Goals as goal

pub lock-guard-requires : goal.lock-guard-requires
lock-guard-requires g c =
    let may = c.requires.enterable in
    subst (λ n. n < length g.N.RunName.opening.cpus)
    (c.law.ensures g.N.RunName.table may.pass may.seated ∙ sym c.cpu.ensures) may.cpu

pub enter_box-requires-clause-own : goal.enter_box-requires-clause-own
enter_box-requires-clause-own g c =
    sym c.cpu.ensures
    ∙ (sym c.lock-guard.ensures ∙ sym (ap (λ (z : HeldPart). z.box.cpu) c.deref_mut.ensures.value))

pub enter_box-requires-clause-enterable : goal.enter_box-requires-clause-enterable
enter_box-requires-clause-enterable g c = c.requires.enterable

pub returns : goal.returns
returns g c = c.enter_box.ensures

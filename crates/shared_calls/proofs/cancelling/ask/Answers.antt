use Rattle.std.proofs.Common.{◌<◌, length, sym, ap, ◌∙◌, subst}
use Rattle.shared_table.specs.shared_rule.Parts.{HeldPart, without_guest}
use Rattle.shared_calls.proofs.cancelling.ask.Goals as goal

pub ask_box-requires-clause-own : goal.ask_box-requires-clause-own
ask_box-requires-clause-own g c =
    sym c.cpu.ensures
    ∙ (sym c.lock-guard.ensures ∙ sym (ap (λ (z : HeldPart). z.box.cpu) c.deref_mut.ensures.value))

pub returns : goal.returns
returns g c = (without_guest c.deref_mut.result.now, c.ask_box.ensures)

pub lock-guard-requires : goal.lock-guard-requires
lock-guard-requires g c =
    subst (λ n. n < length g.N.RunName.opening.cpus) (sym c.cpu.ensures) c.requires.cpu

pub ask_box-requires-clause-run : goal.ask_box-requires-clause-run
ask_box-requires-clause-run g c = c.requires.run

use Rattle.std.proofs.Common.{◌<◌, ◌∙◌, ap, length, subst, sym}
use Rattle.walk_inactive.specs.shared_rule.Parts.{HeldPart}
use Rattle.remote_expiry.proofs.draining.hand_own.Goals as goal

pub lock-guard-requires : goal.lock-guard-requires
lock-guard-requires g c =
    let inside = c.requires.inside in
    subst (λ n. n < length g.N.RunName.opening.cpus)
    (c.law.ensures g.N.RunName.table inside.pass inside.seated ∙ sym c.cpu.ensures) inside.is.cpu

pub hand_box-requires-clause-own : goal.hand_box-requires-clause-own
hand_box-requires-clause-own g c =
    sym c.cpu.ensures
    ∙ (sym c.lock-guard.ensures ∙ sym (ap (λ (z : HeldPart). z.box.cpu) c.deref_mut.ensures.value))

pub hand_box-requires-clause-inside : goal.hand_box-requires-clause-inside
hand_box-requires-clause-inside g c = c.requires.inside

pub hand_box-requires-clause-now : goal.hand_box-requires-clause-now
hand_box-requires-clause-now g c = c.requires.now

pub hand_box-requires-clause-none : goal.hand_box-requires-clause-none
hand_box-requires-clause-none g c = c.requires.none

pub returns-clause-done : goal.returns-clause-done
returns-clause-done g c = c.hand_box.ensures.done

pub returns-clause-runs : goal.returns-clause-runs
returns-clause-runs g c = c.hand_box.ensures.runs

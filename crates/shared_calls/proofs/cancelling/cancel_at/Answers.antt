use Rattle.std.proofs.Common.{◌≡◌, ap, ◌∙◌, subst}
use Rattle.shared_table.specs.shared_rule.Parts.{HeldPart}
use Rattle.shared_calls.specs.Cancels.{IsPartOf}
use Rattle.shared_calls.proofs.cancelling.cancel_at.Goals as goal

pub returns : goal.returns
returns g c =
    let home = c.deref_mut.result.now in
    let cpu : home.box.cpu ≡ c.args.cpu.0 =
    ap (λ (z : HeldPart). z.box.cpu) c.deref_mut.ensures.value ∙ c.lock-guard.ensures in (
      home,
      subst (λ n. IsPartOf g.N.RunName.opening n home) cpu c.cancel_box.ensures.part,
      c.cancel_box.ensures.done,
    )

pub lock-guard-requires : goal.lock-guard-requires
lock-guard-requires g c = c.requires.cpu

pub cancel_box-requires-clause-run : goal.cancel_box-requires-clause-run
cancel_box-requires-clause-run g c = c.requires.run

pub cancel_box-requires-clause-now : goal.cancel_box-requires-clause-now
cancel_box-requires-clause-now g c = c.requires.now

pub cancel_box-requires-clause-timer : goal.cancel_box-requires-clause-timer
cancel_box-requires-clause-timer g c = c.requires.timer

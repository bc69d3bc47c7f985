use Rattle.std.proofs.Common.{◌∙◌, ap, sym}
use Rattle.walk_active.specs.shared_rule.Parts.{HeldPart}
use Rattle.idle_wakeup.proofs.Meetings as meetings
use Rattle.idle_wakeup.proofs.idling.go_idle.Goals as goal

pub idle_in-requires-clause-own : goal.idle_in-requires-clause-own
idle_in-requires-clause-own g c =
    let found = ap (λ (z : HeldPart). z.box.cpu) c.deref_mut.ensures.value in
    meetings.own_pass g.N.RunName.table c.deref_mut.result.now.box.cpu c.args.pass.now
    (sym (found ∙ c.lock-guard.ensures ∙ c.cpu.ensures)) c.requires.run
    (c.law.ensures g.N.RunName.table)

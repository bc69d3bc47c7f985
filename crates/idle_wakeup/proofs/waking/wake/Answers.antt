use Rattle.std.proofs.Common.{◌∙◌, ap, sym}
use Rattle.walk_active.specs.shared_rule.Parts.{HeldPart}
use Rattle.idle_wakeup.proofs.Meetings as meetings
use Rattle.idle_wakeup.proofs.waking.wake.Goals as goal

pub wake_in-requires : goal.wake_in-requires
wake_in-requires g c =
    let found = ap (λ (z : HeldPart). z.box.cpu) c.deref_mut.ensures.value in
    record {
      own = meetings.own_pass g.N.RunName.table c.deref_mut.result.now.box.cpu c.args.pass.now
          (sym (found ∙ c.lock-guard.ensures ∙ c.cpu.ensures)) c.requires.run
          (c.law.ensures g.N.RunName.table);
    }

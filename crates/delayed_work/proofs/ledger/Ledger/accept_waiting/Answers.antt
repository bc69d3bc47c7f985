use Rattle.delayed_work.proofs.Kept.{kept_waiting}
use Rattle.delayed_work.proofs.ledger.Ledger.accept_waiting.Goals as goal

pub invariant_of-self : goal.invariant_of-self
invariant_of-self c =
    kept_waiting _ _ _ c.self.inside.story.entries _ c.args.work c.from.result c.len-number.result
    (record {
      kept = c.self.invariant;
      within = rw (← c.self.view_is) at c.requires.work;
      stands = rw (← c.self.view_is) at c.requires.free;
    })
    c.from.ensures c.len-number.ensures c.write.ensures.entries

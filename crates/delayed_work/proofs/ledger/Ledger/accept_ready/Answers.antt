use Rattle.std.proofs.Common.{arith}
use Rattle.delayed_work.proofs.Kept.{counts_more, kept_ready}
use Rattle.delayed_work.proofs.ledger.Ledger.accept_ready.Goals as goal

pub overflow_add-self : goal.overflow_add-self
overflow_add-self c =
    let few = counts_more _ _ _ _ c.self.invariant in omega arith

pub invariant_of-self : goal.invariant_of-self
invariant_of-self c =
    kept_ready _ c.self.inside.ready c.push.new.self _ c.self.inside.story.entries _ c.args.work
    c.from.result c.len-number.result c.args.job c.args.arg
    (record {
      kept = c.self.invariant;
      within = rw (← c.self.view_is) at c.requires.work;
      stands = rw (← c.self.view_is) at c.requires.free;
    })
    c.from.ensures c.len-number.ensures c.write.ensures.entries
    (record {
      number = c.push.ensures.number;
      room = c.push.ensures.room;
      list = rw c.from-2.ensures at c.push.ensures.pushed;
    })

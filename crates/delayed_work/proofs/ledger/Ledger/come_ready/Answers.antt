use Rattle.std.proofs.Common.{arith}
use Rattle.delayed_work.proofs.Kept.{before_read, counts_more, kept_come}
use Rattle.delayed_work.proofs.ledger.Ledger.come_ready.Goals as goal

pub overflow_add-self : goal.overflow_add-self
overflow_add-self c =
    let few = counts_more _ _ _ _ c.self.invariant in omega arith

pub invariant_of-self : goal.invariant_of-self
invariant_of-self c =
    kept_come _ c.self.inside.ready c.push.new.self _ c.self.inside.story.entries c.args.work
    c.from-2.result c.in-Waiting.number c.args.job c.args.arg
    (before_read _ _ _ _ c.args.work c.from.result _ _ c.self.invariant (rw (← c.self.view_is) at c.requires) c.from.ensures c.index-standing.ensures c.in-Waiting.is)
    c.from-2.ensures
    (record {
      number = c.push.ensures.number;
      room = c.push.ensures.room;
      list = rw c.from-3.ensures at c.push.ensures.pushed;
    })

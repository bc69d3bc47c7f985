use Rattle.std.proofs.Common.{refl, arith}
use Rattle.delayed_work.proofs.Kept.{before_read, counts_one, kept_ready_ended, kept_waiting_ended}
use Rattle.delayed_work.proofs.Kept.{told_within}
use Rattle.delayed_work.proofs.ledger.Ledger.end.Goals as goal

pub close-requires-clause-number : goal.close-requires-clause-number
close-requires-clause-number c =
    told_within _ _ _ _ c.args.work _ _
    (before_read _ _ _ _ c.args.work c.from.result _ _ c.self.invariant (rw (← c.self.view_is) at c.requires.work) c.from.ensures c.index-standing.ensures c.in-Waiting.is)
    refl

pub invariant_of-self : goal.invariant_of-self
invariant_of-self c =
    kept_waiting_ended _ _ _ _ _ _ c.args.work c.in-Waiting.number c.args.end
    (before_read _ _ _ _ c.args.work c.from.result _ _ c.self.invariant (rw (← c.self.view_is) at c.requires.work) c.from.ensures c.index-standing.ensures c.in-Waiting.is)
    c.requires.ended c.close.ensures.standings c.close.ensures.story

pub overflow_sub-self : goal.overflow_sub-self
overflow_sub-self c =
    counts_one _ _ _ _ c.args.work c.in-Ready.number c.in-Ready.job c.in-Ready.arg
    (before_read _ _ _ _ c.args.work c.from.result _ _ c.self.invariant (rw (← c.self.view_is) at c.requires.work) c.from.ensures c.index-standing.ensures c.in-Ready.is)

pub close-requires-in-Ready-clause-number : goal.close-requires-in-Ready-clause-number
close-requires-in-Ready-clause-number c =
    told_within _ _ _ _ c.args.work _ _
    (before_read _ _ _ _ c.args.work c.from.result _ _ c.self.invariant (rw (← c.self.view_is) at c.requires.work) c.from.ensures c.index-standing.ensures c.in-Ready.is)
    refl

pub invariant_of-self-in-Ready : goal.invariant_of-self-in-Ready
invariant_of-self-in-Ready c =
    kept_ready_ended _ _ c.self.inside.ready c.unlink.new.self _ _ _ c.args.work c.in-Ready.number
    c.in-Ready.job c.in-Ready.arg c.args.end
    (before_read _ _ _ _ c.args.work c.from.result _ _ c.self.invariant (rw (← c.self.view_is) at c.requires.work) c.from.ensures c.index-standing.ensures c.in-Ready.is)
    c.requires.ended c.close-in-Ready.ensures.standings c.close-in-Ready.ensures.story
    (record {
      number = c.unlink.ensures.number;
      room = c.unlink.ensures.room;
      list = rw c.from-in-Ready.ensures at (c.unlink.ensures.lists 0 (omega (arith, c.self.invariant.one_list)));
    })

use Rattle.std.proofs.Common.{ap, sym, ◌∙◌}
use Rattle.cpu_bases.specs.CpuBases.{RoomyBases}
use Rattle.delayed_work.specs.Ledger.{LedgerState}
use Rattle.delayed_work.specs.Works.{bases_queued, ledger_queued}
use Rattle.delayed_work.proofs.Lawful.{accepted_lawful, lawful_as}
use Rattle.delayed_work.proofs.works.Works.queue.Goals as goal

pub invariant_of-self-2 : goal.invariant_of-self-2
invariant_of-self-2 g c =
    lawful_as _ _ _ c.args.now
    (accepted_lawful c.args.now c.args.work c.args.delay c.args.job c.args.arg c.args.line _ (record {
      lawful = c.self.invariant;
      in_time = c.requires.now_in_time;
      not_before = rw (← c.self.view_is) at c.requires.times;
      within = rw (← c.self.view_is) at c.requires.work;
    }) c.ranges.work.fits c.ranges.delay.fits (sym c.standing-standing.ensures ∙ c.in-Free.is))
    (c.accept-placed.ensures.bases
    ∙ ap (λ (b : RoomyBases). bases_queued c.args.now c.args.work c.args.delay c.args.job c.args.arg c.args.line b.plain)
    c.in_ok-reserve-2.ensures.ok)
    (c.accept-placed.ensures.ledger
    ∙ ap (λ (l : LedgerState). ledger_queued c.args.work c.args.delay c.args.job c.args.arg l)
    c.reserve.ensures.plain)
    (λ i. c.args.now)

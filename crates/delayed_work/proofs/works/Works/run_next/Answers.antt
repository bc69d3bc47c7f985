use Rattle.std.proofs.Common.{◌<◌, ◌^◌, ap, sym, ◌∙◌, arith}
use Rattle.cpu_bases.specs.CpuBases.{RoomyBases}
use Rattle.delayed_work.specs.declared.standing.End.TheVariants.{Ran}
use Rattle.delayed_work.specs.Ledger.{LedgerState, work_ended}
use Rattle.delayed_work.specs.Works.{bases_queued, ledger_queued}
use Rattle.delayed_work.proofs.Lawful.{again_lawful, ended_lawful, first_within, lawful_as}
use Rattle.delayed_work.proofs.works.Works.run_next.Goals as goal

pub standing-standing-requires : goal.standing-standing-requires
standing-standing-requires g c =
    first_within _ c.in-Some.work _ c.self.invariant c.first_ready.ensures c.in-Some.is

pub invariant_of-self-in_default-reply : goal.invariant_of-self-in_default-reply
invariant_of-self-in_default-reply g c =
    lawful_as _ _ _ c.args.now
    (ended_lawful c.args.now c.in-Some.work c.in-Ready.number c.in-Ready.job c.in-Ready.arg Ran _ (record {
      lawful = c.self.invariant;
      in_time = c.requires.now_in_time;
      not_before = rw (← c.self.view_is) at c.requires.times;
      within = first_within _ c.in-Some.work _ c.self.invariant c.first_ready.ensures c.in-Some.is;
    }) (λ same. cc) (sym c.standing-standing.ensures ∙ c.in-Ready.is))
    (ap (λ (b : RoomyBases). b.plain) c.in_ok-reserve-2.ensures.ok)
    (c.end.ensures.plain
    ∙ ap (λ (l : LedgerState). work_ended c.in-Some.work Ran l) c.reserve.ensures.plain)
    (λ i. c.args.now)

pub invariant_of-self-2 : goal.invariant_of-self-2
invariant_of-self-2 g c =
    let within = first_within _ c.in-Some.work _ c.self.invariant c.first_ready.ensures c.in-Some.is in
    let few = c.self.invariant.few in
    let low : c.in-Some.work < 2 ^ 16 = omega arith in
    lawful_as _ _ _ c.args.now
    (again_lawful c.args.now c.in-Some.work c.in-Ready.number c.in-Again.delay c.in-Ready.job c.in-Ready.arg 0 _ (record {
      lawful = c.self.invariant;
      in_time = c.requires.now_in_time;
      not_before = rw (← c.self.view_is) at c.requires.times;
      within = first_within _ c.in-Some.work _ c.self.invariant c.first_ready.ensures c.in-Some.is;
    }) low c.accept-placed.ensures.in_range (sym c.standing-standing.ensures ∙ c.in-Ready.is))
    (c.accept-placed.ensures.bases
    ∙ ap (λ (b : RoomyBases). bases_queued c.args.now c.in-Some.work c.in-Again.delay c.in-Ready.job c.in-Ready.arg 0 b.plain)
    c.in_ok-reserve-2.ensures.ok)
    (c.accept-placed.ensures.ledger
    ∙ ap (λ (l : LedgerState). ledger_queued c.in-Some.work c.in-Again.delay c.in-Ready.job c.in-Ready.arg l)
    (c.end.ensures.plain
    ∙ ap (λ (l : LedgerState). work_ended c.in-Some.work Ran l) c.reserve.ensures.plain))
    (λ i. c.args.now)

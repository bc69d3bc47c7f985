use Rattle.std.proofs.Common.{ap, sym, ◌∙◌}
use Rattle.cpu_bases.specs.CpuBases.{RoomyBases, cancelled}
use Rattle.delayed_work.specs.declared.standing.End.TheVariants.{Cancelled}
use Rattle.delayed_work.specs.Works.{first_cpu}
use Rattle.delayed_work.proofs.Lawful.{cancelled_lawful, ended_lawful, lawful_as}
use Rattle.delayed_work.proofs.works.Works.cancel.Goals as goal

pub invariant_of-self-in-Waiting : goal.invariant_of-self-in-Waiting
invariant_of-self-in-Waiting g c =
    lawful_as _ _ _ c.args.now
    (cancelled_lawful c.args.now c.args.work c.args.line c.in-Waiting.number _ (record {
      lawful = c.self.invariant;
      in_time = c.requires.now_in_time;
      not_before = rw (← c.self.view_is) at c.requires.times;
      within = rw (← c.self.view_is) at c.requires.work;
    }) (sym c.standing-standing.ensures ∙ c.in-Waiting.is))
    (ap (λ (b : RoomyBases). b.plain) c.cancel.ensures.after
    ∙ ap (λ (b : RoomyBases). cancelled c.args.now c.args.work c.args.line first_cpu b.plain)
    c.in_ok-reserve-in-Waiting.ensures.ok)
    c.end.ensures.plain (λ i. c.args.now)

pub invariant_of-self-in-Ready : goal.invariant_of-self-in-Ready
invariant_of-self-in-Ready g c =
    lawful_as _ _ _ c.args.now
    (ended_lawful c.args.now c.args.work c.in-Ready.number c.in-Ready.job c.in-Ready.arg Cancelled _ (record {
      lawful = c.self.invariant;
      in_time = c.requires.now_in_time;
      not_before = rw (← c.self.view_is) at c.requires.times;
      within = rw (← c.self.view_is) at c.requires.work;
    }) (λ same. cc) (sym c.standing-standing.ensures ∙ c.in-Ready.is))
    (λ i. c.self.inside.bases.plain)
    c.end-in-Ready.ensures.plain (λ i. c.args.now)

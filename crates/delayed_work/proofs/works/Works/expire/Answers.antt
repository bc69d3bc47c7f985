use Rattle.std.proofs.Common.{◌≡◌, ◌<◌, ap, sym, ◌∙◌, subst, length, arith}
use Rattle.std.specs.Prelude.{All}
use Rattle.cpu_bases.specs.CpuBases.{CpuBases, RoomyBases, drained}
use Rattle.tm_base.specs.declared.names.Class.TheVariants.{Global}
use Rattle.wheel_core.specs.PlainBase.{NoneDue, PlainBase}
use Rattle.delayed_work.specs.Works.{all_ready, first_cpu, items_out}
use Rattle.delayed_work.proofs.Expiry.{queue_of}
use Rattle.delayed_work.proofs.Lawful.{expired_lawful, expired_none_due, few_items, items_within}
use Rattle.delayed_work.proofs.Lawful.{lawful_as}
use Rattle.delayed_work.proofs.works.Works.expire.Goals as goal

pub overflow_add-queued : goal.overflow_add-queued
overflow_add-queued g c =
    let few = few_items _ c.self.invariant in
    let is : c.len-queued.result ≡ length (queue_of c.self.inside.bases.plain) =
    c.len-queued.ensures ∙ ap (λ (b : PlainBase). length b.items) c.base.ensures.base in
    omega arith

pub hand_out-requires-clause-works : goal.hand_out-requires-clause-works
hand_out-requires-clause-works g c =
    subst (λ (b : RoomyBases). All (λ item. item.id < length c.self.inside.ledger.plain.standings) (queue_of b.plain))
    (sym c.in_ok-reserve.ensures.ok) (items_within _ c.self.invariant)

pub invariant_of-self-2 : goal.invariant_of-self-2
invariant_of-self-2 g c =
    lawful_as _ _ _ c.args.now
    (expired_lawful c.args.now _ c.self.invariant c.requires.now_in_time
    (rw (← c.self.view_is) at c.requires.times))
    (c.hand_out.ensures.bases
    ∙ ap (λ (b : RoomyBases). drained (length (queue_of b.plain)) c.args.now Global first_cpu b.plain)
    c.in_ok-reserve.ensures.ok)
    (c.hand_out.ensures.ledger
    ∙ ap (λ (b : RoomyBases). all_ready (items_out (length (queue_of b.plain)) c.args.now b.plain)
    c.self.inside.ledger.plain) c.in_ok-reserve.ensures.ok)
    (λ i. c.args.now)

pub returns-clause-none_due : goal.returns-clause-none_due
returns-clause-none_due g c =
    subst (λ (b : CpuBases). NoneDue c.args.now (queue_of b))
    (sym (c.hand_out.ensures.bases
    ∙ ap (λ (b : RoomyBases). drained (length (queue_of b.plain)) c.args.now Global first_cpu b.plain)
    c.in_ok-reserve.ensures.ok))
    (expired_none_due c.args.now _ c.self.invariant c.requires.now_in_time)

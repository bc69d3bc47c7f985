use Rattle.std.proofs.Common.{◌≡◌, ◌<◌, ◌≤◌, length, sym, ap, ◌∙◌, subst, arith, vec_capacity}
use Rattle.tm_base.specs.CpuSet.{Cpus}
use Rattle.tm_base.specs.declared.names.TheConstants.{NEVER}
use Rattle.deep_idle.specs.Order.{first_wakeup}
use Rattle.deep_idle.proofs.Queues.{last_pushed}
use Rattle.deep_idle.proofs.Kept.{last_within}
use Rattle.deep_idle.proofs.Waking.{Woken, all_woken, empty_later, first_later, none_woken, woken_more}
use Rattle.deep_idle.proofs.device.wake_due.Goals as goal

pub loop-queue-init : goal.loop-queue-init
loop-queue-init c =
    subst (λ (d : Cpus). Woken c.args.now c.args.sleepers.now.items c.args.sleepers.now.items c.args.queue.now.items d
    (vec_capacity c.args.queue.now) (vec_capacity c.args.queue.now))
    (sym c.new-due.ensures)
    (none_woken c.args.now c.args.sleepers.now.items c.args.queue.now.items (vec_capacity c.args.queue.now)
    c.requires.queue_of c.requires.few)

pub index_mut-requires : goal.index_mut-requires
index_mut-requires c =
    let low = last_within _ _ _ c.in-Some.first c.loop-queue.invariant.queue_of c.in-Some.ensures.items in
    omega (arith, c.from.ensures, c.loop-queue.sleepers.ok)

pub add-requires : goal.add-requires
add-requires c =
    let low = last_within _ _ _ c.in-Some.first c.loop-queue.invariant.queue_of c.in-Some.ensures.items in
    let few = c.loop-queue.invariant.few in
    omega arith

pub loop-queue-preserved : goal.loop-queue-preserved
loop-queue-preserved c =
    let first_is : first_wakeup c.loop-queue.queue.items ≡ c.in-Some.first.wakeup =
    ap first_wakeup c.in-Some.ensures.items ∙ last_pushed NEVER c.pop.new.self.items c.in-Some.first in
    let told : c.first_wakeup.result ≡ first_wakeup c.loop-queue.queue.items =
    c.first_wakeup.ensures ∙ ap first_wakeup c.deref.ensures.value in
    let low : c.in-Some.first.wakeup ≤ c.args.now = omega arith in
    let same : vec_capacity c.pop.new.self ≡ vec_capacity c.loop-queue.queue = c.in-Some.ensures.capacity in
    rw (c.from.ensures, c.add.ensures.added)
    (woken_more c.args.now c.args.sleepers.now.items c.loop-queue.sleepers.items c.loop-queue.queue.items
    c.pop.new.self.items c.loop-queue.due (vec_capacity c.args.queue.now) (vec_capacity c.loop-queue.queue)
    (vec_capacity c.pop.new.self) c.in-Some.first c.loop-queue.invariant c.in-Some.ensures.items low same)

pub returns-in-None-clause-sleepers : goal.returns-in-None-clause-sleepers
returns-in-None-clause-sleepers c =
    let none : length c.loop-queue.queue.items ≡ 0 =
    omega (arith, c.in-None.ensures.cases.0, c.loop-queue.queue.ok) in
    (all_woken _ _ _ _ _ _ _ c.loop-queue.invariant (empty_later c.args.now _ none)).sleepers_are

pub returns-in-None-clause-due : goal.returns-in-None-clause-due
returns-in-None-clause-due c =
    let none : length c.loop-queue.queue.items ≡ 0 =
    omega (arith, c.in-None.ensures.cases.0, c.loop-queue.queue.ok) in
    (all_woken _ _ _ _ _ _ _ c.loop-queue.invariant (empty_later c.args.now _ none)).due_are

pub returns-clause-sleepers : goal.returns-clause-sleepers
returns-clause-sleepers c =
    let told : c.first_wakeup.result ≡ first_wakeup c.loop-queue.queue.items =
    c.first_wakeup.ensures ∙ ap first_wakeup c.deref.ensures.value in
    let later : c.args.now < first_wakeup c.loop-queue.queue.items = omega arith in
    (all_woken _ _ _ _ _ _ _ c.loop-queue.invariant (first_later c.args.now _ _ c.loop-queue.invariant.queue_of later)).sleepers_are

pub returns-clause-due : goal.returns-clause-due
returns-clause-due c =
    let told : c.first_wakeup.result ≡ first_wakeup c.loop-queue.queue.items =
    c.first_wakeup.ensures ∙ ap first_wakeup c.deref.ensures.value in
    let later : c.args.now < first_wakeup c.loop-queue.queue.items = omega arith in
    (all_woken _ _ _ _ _ _ _ c.loop-queue.invariant (first_later c.args.now _ _ c.loop-queue.invariant.queue_of later)).due_are

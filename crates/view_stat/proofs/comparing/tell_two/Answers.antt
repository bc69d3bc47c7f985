use Rattle.std.proofs.Common.{subst}
use Rattle.std.proofs.lemmas.Result.{IfOk-weaker}
use Rattle.view_stat.specs.Comparing.{IsNotCounted, IsSecondTold, first_counts, first_fails}
use Rattle.view_stat.proofs.comparing.tell_two.Goals as goal

pub returns-in-Ok : goal.returns-in-Ok
returns-in-Ok c =
    IfOk-weaker c.tell_second.result
    (λ told. IsSecondTold c.args.pair c.deref.result.now c.args.machine.now c.args.script.now
    told.text.items told.status) _
    (λ told second. first_counts c.in-Ok.stats.cpus.items c.in-Ok.stats.wakeups.items
    c.in-Ok.ensures.counted
    (subst (λ ones. IsSecondTold c.args.pair ones c.args.machine.now c.args.script.now
    told.text.items told.status)
    c.deref.ensures.value second))
    c.tell_second.ensures

pub returns-in-Err : goal.returns-in-Err
returns-in-Err c =
    IfOk-weaker c.tell_fault.result
    (λ told. IsNotCounted c.first_name.result.now c.args.first.now c.args.first.now
    told.text.items told.status) _
    (λ told fails. first_fails
    (subst (λ name. IsNotCounted name c.args.first.now c.args.first.now told.text.items
    told.status)
    c.first_name.ensures fails))
    c.tell_fault.ensures

use Rattle.std.proofs.Common.{ap, refl, subst, ◌∙◌}
use Rattle.std.proofs.lemmas.Result.{IfOk-weaker}
use Rattle.view_counts.specs.Differences.{comparison_text}
use Rattle.view_stat.specs.Comparing.{IsNotCounted, compared, second_fails, titles_of}
use Rattle.view_stat.proofs.comparing.tell_second.Goals as goal

pub returns-in_ok-compared-in-Ok : goal.returns-in_ok-compared-in-Ok
returns-in_ok-compared-in-Ok c =
    let ones = c.args.ones.now in
    compared c.in-Ok.stats.cpus.items c.in-Ok.stats.wakeups.items c.in-Ok.ensures.counted
    (c.in_ok-compared-in-Ok.ensures
    ∙ ap (λ twos. comparison_text (titles_of c.args.pair ones twos) ones twos)
    c.deref.ensures.value)
    refl

pub returns-in-Err : goal.returns-in-Err
returns-in-Err c =
    IfOk-weaker c.tell_fault.result
    (λ told. IsNotCounted c.second_name.result.now c.args.machine.now c.args.script.now
    told.text.items told.status) _
    (λ told fails. second_fails
    (subst (λ name. IsNotCounted name c.args.machine.now c.args.script.now told.text.items
    told.status)
    c.second_name.ensures fails))
    c.tell_fault.ensures

use Rattle.std.proofs.Common.{◌++◌, ◌∷◌, ◌∙◌, [], ap}
use Rattle.std.proofs.lemmas.List.{replicate_more}
use Rattle.std.proofs.lemmas.Result.{err_from_is_err_and}
use Rattle.core_state.proofs.tally.Tally.new.Goals as goal

pub loop-cpu-init : goal.loop-cpu-init
loop-cpu-init c = c.new-marks.ensures.items

pub loop-cpu-preserved : goal.loop-cpu-preserved
loop-cpu-preserved c =
    c.in_ok-push.ensures.items
    ∙ (ap (λ xs. xs ++ 0 ∷ []) c.loop-cpu.invariant ∙ replicate_more c.loop-cpu._cpu 0)

pub returns-in_err-push-clause-marks : goal.returns-in_err-push-clause-marks
returns-in_err-push-clause-marks c =
    let p = err_from_is_err_and c.from_residual.result c.from_residual.ensures.1 in rw p.1 tt

pub returns-in_err-push-clause-online : goal.returns-in_err-push-clause-online
returns-in_err-push-clause-online c =
    let p = err_from_is_err_and c.from_residual.result c.from_residual.ensures.1 in rw p.1 tt

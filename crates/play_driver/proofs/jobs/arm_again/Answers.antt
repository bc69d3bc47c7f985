use Rattle.std.proofs.Common.{refl}
use Rattle.std.proofs.lemmas.Result.{err_from_is_err_and}
use Rattle.play_driver.proofs.Parts.{same_none}
use Rattle.play_driver.proofs.jobs.arm_again.Goals as goal

pub returns-in-Some-clause-same : goal.returns-in-Some-clause-same
returns-in-Some-clause-same g c = same_none _ _

pub returns-in-Some-clause-fit : goal.returns-in-Some-clause-fit
returns-in-Some-clause-fit g c = λ ph may fit. fit

pub returns-in-Some-clause-online : goal.returns-in-Some-clause-online
returns-in-Some-clause-online g c = record { online = λ k. refl }

pub arm-requires-clause-cpu : goal.arm-requires-clause-cpu
arm-requires-clause-cpu g c = c.requires.runner

pub arm-requires-clause-timer : goal.arm-requires-clause-timer
arm-requires-clause-timer g c = c.requires.timer.known

pub returns-in_err-wheel-clause-reply : goal.returns-in_err-wheel-clause-reply
returns-in_err-wheel-clause-reply g c =
    let p = err_from_is_err_and c.from_residual.result c.from_residual.ensures.1 in rw p.1 tt

pub returns-in_err-wheel-clause-state : goal.returns-in_err-wheel-clause-state
returns-in_err-wheel-clause-state g c =
    let p = err_from_is_err_and c.from_residual.result c.from_residual.ensures.1 in rw p.1 tt

pub returns-in_err-wheel-clause-same : goal.returns-in_err-wheel-clause-same
returns-in_err-wheel-clause-same g c =
    let p = err_from_is_err_and c.from_residual.result c.from_residual.ensures.1 in rw p.1 tt

pub returns-in_err-wheel-clause-fit : goal.returns-in_err-wheel-clause-fit
returns-in_err-wheel-clause-fit g c =
    let p = err_from_is_err_and c.from_residual.result c.from_residual.ensures.1 in rw p.1 tt

pub returns-in_err-wheel-clause-online : goal.returns-in_err-wheel-clause-online
returns-in_err-wheel-clause-online g c =
    let p = err_from_is_err_and c.from_residual.result c.from_residual.ensures.1 in rw p.1 tt

pub returns-clause-same : goal.returns-clause-same
returns-clause-same g c = c.in_ok-wheel.ensures.same

pub returns-clause-online : goal.returns-clause-online
returns-clause-online g c = c.in_ok-wheel.ensures.online

use Rattle.std.proofs.lemmas.Result.{err_from_is_err_and}
use Rattle.play_rules.proofs.Plays.{gains_then}
use Rattle.run_moments.proofs.StoryTurns.{whole_told}
use Rattle.run_moments.proofs.runs.run_known.Goals as goal

pub returns-in_err-player-clause-whole : goal.returns-in_err-player-clause-whole
returns-in_err-player-clause-whole g c =
    let p = err_from_is_err_and c.from_residual.result c.from_residual.ensures.1 in rw p.1 tt

pub returns-in_err-player-clause-fault : goal.returns-in_err-player-clause-fault
returns-in_err-player-clause-fault g c =
    let p = err_from_is_err_and c.from_residual.result c.from_residual.ensures.1 in
    rw (p.1, p.2) c.in_err-player.ensures.fault

pub returns-in_err-player-clause-gains : goal.returns-in_err-player-clause-gains
returns-in_err-player-clause-gains g c = c.in_err-player.ensures.gains

pub returns-in-Ok-clause-whole : goal.returns-in-Ok-clause-whole
returns-in-Ok-clause-whole g c =
    whole_told (g.J.Jobs.replies c.args.jobs.now) c.args.script.now c.args.telling.now.text
    c.run_moments.new.telling.text c.close.new.telling.text c.in_ok-player.player
    c.in_ok-player.ensures.whole c.in-Ok.ensures.prints.text

pub returns-in-Ok-clause-fault : goal.returns-in-Ok-clause-fault
returns-in-Ok-clause-fault g c = tt

pub returns-in-Ok-clause-gains : goal.returns-in-Ok-clause-gains
returns-in-Ok-clause-gains g c =
    gains_then _ _ _ c.in_ok-player.ensures.gains c.in-Ok.ensures.gains

pub returns-in-Err-clause-whole : goal.returns-in-Err-clause-whole
returns-in-Err-clause-whole g c = tt

pub returns-in-Err-clause-fault : goal.returns-in-Err-clause-fault
returns-in-Err-clause-fault g c =
    rw c.into.ensures (gains_then _ _ _ c.in_ok-player.ensures.gains c.in-Err.ensures.gains)

pub returns-in-Err-clause-gains : goal.returns-in-Err-clause-gains
returns-in-Err-clause-gains g c =
    gains_then _ _ _ c.in_ok-player.ensures.gains c.in-Err.ensures.gains

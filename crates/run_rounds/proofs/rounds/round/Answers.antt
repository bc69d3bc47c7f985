use Rattle.run_shares.proofs.Starting.{may_round}
use Rattle.run_rounds.proofs.rounds.round.Goals as goal

pub round_over-requires-clause-may : goal.round_over-requires-clause-may
round_over-requires-clause-may g c κs within =
    may_round c.args.core c.in-Ok.ready.core c.now-now.result c.args.due.now c.args.ops.now
    c.in-Ok.ensures.core c.now-now.ensures c.requires.in_run c.requires.in_time c.requires.online
    c.requires.may c.requires.few

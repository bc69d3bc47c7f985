use Rattle.std.proofs.Common.{◌*◌}
use Rattle.std.proofs.lemmas.List.{length-replicate}
use Rattle.std.proofs.lemmas.Result.{IfErr-weaker}
use Rattle.core_plays.proofs.DeepSeen.{both_ok, breaks_from, by_wakeups, plays_from}
use Rattle.core_plays.proofs.Playable.{playable}
use Rattle.core_plays.proofs.deep_plays.deep.Goals as goal

pub deep_on-played-requires-clause-by_wakeups : goal.deep_on-played-requires-clause-by_wakeups
deep_on-played-requires-clause-by_wakeups g c = by_wakeups

pub deep_on-played-requires-clause-playable : goal.deep_on-played-requires-clause-playable
deep_on-played-requires-clause-playable g c =
    let script = c.args.script.now in
    rw c.in_ok-player.ensures.start
    (playable script c.requires _ (length-replicate (script.nodes * script.cpus) _))

pub returns-clause-whole : goal.returns-clause-whole
returns-clause-whole g c =
    let jobs = g.J.Jobs.replies c.args.jobs.now in
    let script = c.args.script.now in
    both_ok c.deep_on-played.result
    (λ known whole.
    plays_from script jobs (c.law_steps_are_play.ensures jobs script c.requires)
    c.in_ok-player.player c.in_ok-player.ensures.start
    (c.law_plays.ensures jobs script c.requires)
    (g.J.Jobs.count c.args.jobs.now) _ _ whole known)
    c.deep_on-played.ensures.known c.deep_on-played.ensures.whole

pub returns-clause-fault : goal.returns-clause-fault
returns-clause-fault g c =
    let jobs = g.J.Jobs.replies c.args.jobs.now in
    let script = c.args.script.now in
    IfErr-weaker c.deep_on-played.result _ _
    (λ fault.
    breaks_from script jobs (c.law_steps_are_play.ensures jobs script c.requires)
    c.in_ok-player.player c.in_ok-player.ensures.start
    (g.J.Jobs.count c.args.jobs.now) fault _ _)
    c.deep_on-played.ensures.fault

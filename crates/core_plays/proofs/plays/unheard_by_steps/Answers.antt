use Rattle.std.proofs.Common.{◌*◌, []}
use Rattle.std.proofs.lemmas.List.{length-replicate}
use Rattle.std.proofs.lemmas.Result.{IfErr-weaker, IfOk-weaker}
use Rattle.core_plays.proofs.BySteps.{fault_seen, whole_seen}
use Rattle.core_plays.proofs.Playable.{playable}
use Rattle.core_plays.proofs.plays.unheard_by_steps.Goals as goal

pub play_unheard-requires-clause-playable : goal.play_unheard-requires-clause-playable
play_unheard-requires-clause-playable g c =
    let script = c.args.script.now in
    rw c.requires.start
    (playable script c.requires.script _ (length-replicate (script.nodes * script.cpus) _))

pub returns-clause-whole : goal.returns-clause-whole
returns-clause-whole g c =
    let jobs = g.J.Jobs.replies c.args.jobs.now in
    IfOk-weaker c.play_unheard.result _ _
    (λ counts some. (
      some.0,
      whole_seen jobs c.args.script.now
          (c.law_steps_are_play.ensures jobs c.args.script.now c.requires.script)
          (g.J.Jobs.count c.args.jobs.now) c.args.player.now c.requires.start [] some.0 counts _ some.1,
    ))
    c.play_unheard.ensures.whole

pub returns-clause-fault : goal.returns-clause-fault
returns-clause-fault g c =
    let jobs = g.J.Jobs.replies c.args.jobs.now in
    IfErr-weaker c.play_unheard.result _ _
    (λ fault some. (
      some.0,
      fault_seen jobs c.args.script.now
          (c.law_steps_are_play.ensures jobs c.args.script.now c.requires.script)
          (g.J.Jobs.count c.args.jobs.now) c.args.player.now c.requires.start fault [] some.0 some.1,
    ))
    c.play_unheard.ensures.fault

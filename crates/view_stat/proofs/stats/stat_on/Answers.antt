use Rattle.std.proofs.Common.{◌*◌, ap, length, subst, sym, ◌∙◌}
use Rattle.std.proofs.lemmas.List.{length-replicate}
use Rattle.core_machine.specs.step_play.SamePlay.{core_start}
use Rattle.core_world.specs.World.{World}
use Rattle.core_plays.proofs.Playable.{playable}
use Rattle.play_driver.specs.Conditions.{IsPlayable}
use Rattle.view_stat.specs.Watched.{Watched}
use Rattle.view_stat.proofs.Counted.{counted_on, uncounted_on}
use Rattle.view_stat.proofs.stats.stat_on.Goals as goal

pub play_unheard-requires-clause-playable : goal.play_unheard-requires-clause-playable
play_unheard-requires-clause-playable g c =
    let script = c.args.script.now in
    let machine = c.args.machine.now in
    let start = core_start machine in
    subst (λ (w : World). IsPlayable (length w.cpus) w.timers script)
    (sym (ap (λ (w : Watched World). w.world) c.in_ok-watching.ensures.start))
    (subst (λ n. IsPlayable (length start.cpus) n script) (sym c.requires.machine.timers)
    (playable script c.requires.script (length start.cpus)
    (length-replicate (machine.nodes * machine.cpus) _ ∙ c.requires.machine.cpus)))

pub returns-in-Ok-clause-counted : goal.returns-in-Ok-clause-counted
returns-in-Ok-clause-counted g c =
    let whole = c.in-Ok.ensures.whole in
    counted_on c.law_watched.ensures (g.J.Jobs.replies c.args.jobs.now)
    (g.J.Jobs.count c.args.jobs.now) c.args.machine.now c.args.script.now _
    c.in_ok-watching.ensures.start whole.0 c.in-Ok._counts _ _ _ whole.1
    c.stats_of.ensures.cpus c.stats_of.ensures.wakeups

pub returns-in-Err-clause-fault : goal.returns-in-Err-clause-fault
returns-in-Err-clause-fault g c =
    let says = c.in-Err.ensures.fault in
    uncounted_on c.law_watched.ensures (g.J.Jobs.replies c.args.jobs.now)
    (g.J.Jobs.count c.args.jobs.now) c.args.machine.now c.args.script.now _
    c.in_ok-watching.ensures.start c.in-Err.fault says.0 says.1

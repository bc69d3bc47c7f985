use Rattle.std.proofs.Common.{arith, subst, sym}
use Rattle.std.proofs.lemmas.Result.{err_from_is_err_and}
use Rattle.delayed_work.specs.Play.{Stand, works_played}
use Rattle.delayed_work.specs.Playable.{StandsToPlay}
use Rattle.delayed_work.proofs.Goings.{stands_end, stands_first, stands_next, stands_spent}
use Rattle.delayed_work.proofs.play.all_moments.Goals as goal

pub loop-count-init : goal.loop-count-init
loop-count-init g c =
    let replies = g.J.Jobs.replies c.args.jobs.now in
    let script = c.args.script.now in
    let player = c.args.player.now in
    subst (λ ms. StandsToPlay replies script.end script.count (record { now = 0; moments = ms; count = 0; playing = player }) (works_played replies script))
    (sym c.as_slice-moments.ensures) (stands_first replies script player c.requires.script c.requires.start)

pub returns-in_err-work-clause-err : goal.returns-in_err-work-clause-err
returns-in_err-work-clause-err g c =
    let gives = err_from_is_err_and c.from_residual.result c.from_residual.ensures.1 in
    rw (gives.1, gives.2) tt

pub returns-then-now-script-clause-ok : goal.returns-then-now-script-clause-ok
returns-then-now-script-clause-ok g c =
    let s : Stand = record { now = c.loop-count.now; moments = c.loop-count.moments.now; count = c.loop-count.count; playing = c.loop-count.player } in
    let over = c.if-now-script.true in
    stands_end (g.J.Jobs.replies c.args.jobs.now) c.args.script.now.end c.args.script.now.count s _ c.turn.result.0.now c.moment.new.self
    c.turn.ensures.ops c.in_ok-work.ensures.after c.loop-count.invariant c.loop-count-test.true (omega (arith, over))

pub loop-count-preserved : goal.loop-count-preserved
loop-count-preserved g c =
    let s : Stand = record { now = c.loop-count.now; moments = c.loop-count.moments.now; count = c.loop-count.count; playing = c.loop-count.player } in
    let more = c.if-now-script.false in
    let few = c.in_ok-work.ensures.few in
    let len = c.loop-count.invariant.len in
    let next = c.next_moment-now.ensures in
    stands_next (g.J.Jobs.replies c.args.jobs.now) c.args.script.now.end c.args.script.now.count s _ c.turn.result.0.now c.moment.new.self
    c.turn.ensures.ops c.in_ok-work.ensures.after c.turn.result.1.now c.in_ok-work.work c.next_moment-now.result
    c.turn.ensures.behind c.in_ok-work.ensures.work next.next
    c.loop-count.invariant c.loop-count-test.true (omega (arith, more)) (omega (arith, few, len)) c.in_ok-work.ensures.keeps next.later next.not_past

pub returns-clause-err : goal.returns-clause-err
returns-clause-err g c =
    let s : Stand = record { now = c.loop-count.now; moments = c.loop-count.moments.now; count = c.loop-count.count; playing = c.loop-count.player } in
    let high = c.loop-count-test.false in
    stands_spent (g.J.Jobs.replies c.args.jobs.now) c.args.script.now.end c.args.script.now.count s _ c.loop-count.invariant (omega (arith, high))

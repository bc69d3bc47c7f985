use Rattle.std.proofs.Common.{ℕ, ◌≤◌, sym, subst}
use Rattle.core_plays.specs.Following.{IsNextOfPlay, PassesNone, moments_past}
use Rattle.core_plays.proofs.NextMoments.{next_by_end, next_of_play, passes_none}
use Rattle.core_plays.proofs.following.next_moment.Goals as goal

pub returns-clause-by_the_end : goal.returns-clause-by_the_end
returns-clause-by_the_end g c =
    let script = c.args.script.now in
    λ is early.
    subst (λ (t : ℕ). t ≤ script.end) (sym c.next_time.ensures.next)
    (next_by_end c.args.core.now script.end script.moments is.by_the_end early)

pub returns-clause-passes_none : goal.returns-clause-passes_none
returns-clause-passes_none g c =
    let core = c.args.core.now in
    let script = c.args.script.now in
    λ rests.
    subst (PassesNone core) (sym c.next_time.ensures.next)
    (passes_none core c.kept.ensures.fits.lawful rests c.law_next_moment.ensures script.end
    (moments_past core.clock script.moments))

pub returns-clause-of_the_play : goal.returns-clause-of_the_play
returns-clause-of_the_play g c =
    let core = c.args.core.now in
    let script = c.args.script.now in
    λ is.
    subst (IsNextOfPlay core script) (sym c.next_time.ensures.next)
    (next_of_play c.law_steps_are_play.ensures core script is)

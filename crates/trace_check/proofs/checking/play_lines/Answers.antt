use Rattle.std.proofs.Common.{◌+◌, ◌≤◌, arith, get_or, subst}
use Rattle.std.specs.Prelude.{IfSome}
use Rattle.trace_check.specs.Playing.{PlaysLine}
use Rattle.trace_check.proofs.PlayLaws.{all_played, begun, one_more, stopped}
use Rattle.trace_check.proofs.checking.play_lines.Goals as goal

pub loop-line-init : goal.loop-line-init
loop-line-init g c = begun c.args.core.now c.args.lines.now c.args.out.now

pub play_line-requires-clause-few : goal.play_line-requires-clause-few
play_line-requires-clause-few g c =
    let so_far = c.loop-line.invariant.few in
    let low = c.loop-line-test.true in
    let few = c.requires.few in omega (arith, so_far, low, few)

pub play_line-requires-clause-in_range : goal.play_line-requires-clause-in_range
play_line-requires-clause-in_range g c =
    rw c.loop-line.invariant.cpus
    (c.requires.in_range c.loop-line.line-index _ c.loop-line-test.true)

pub returns-in-None : goal.returns-in-None
returns-in-None g c =
    stopped c.args.core.now c.args.lines.now c.args.out.now c.loop-line.line-index
    c.loop-line.core c.loop-line.made c.loop-line.out c.loop-line.invariant
    _ c.loop-line-test.true c.play_line.new.core c.play_line.new.out
    (subst (PlaysLine c.loop-line.core c.loop-line.made
    (get_or c.args.lines.now c.loop-line.line-index _) c.loop-line.out c.play_line.new.out
    c.play_line.new.core) c.in-None.is c.in_ok-more.ensures.plays)

pub loop-line-preserved : goal.loop-line-preserved
loop-line-preserved g c =
    one_more c.args.core.now c.args.lines.now c.args.out.now c.loop-line.line-index
    c.loop-line.core c.loop-line.made c.loop-line.out c.loop-line.invariant
    _ c.loop-line-test.true c.play_line.new.core c.play_line.new.out c.in-Some.more
    (subst (PlaysLine c.loop-line.core c.loop-line.made
    (get_or c.args.lines.now c.loop-line.line-index _) c.loop-line.out c.play_line.new.out
    c.play_line.new.core) c.in-Some.is c.in_ok-more.ensures.plays)
    (subst (λ o. IfSome o (λ more. more ≤ c.loop-line.made + 1)) c.in-Some.is
    c.in_ok-more.ensures.few) c.in_ok-more.ensures.same.cpus

pub returns : goal.returns
returns g c =
    all_played c.args.core.now c.args.lines.now c.args.out.now c.loop-line.line-index
    c.loop-line.core c.loop-line.made c.loop-line.out c.loop-line.invariant c.push.new.self
    (let end = c.loop-line-test.false in omega (arith, end)) c.in_ok-push.ensures.ok

use Rattle.std.proofs.Common.{ℕ, Bool, arith, sym, ◌∙◌}
use Rattle.std.specs.Prelude.{◌&&◌, ◌==◌, not}
use Rattle.tree_plan.specs.Paths.{is_placed_in}
use Rattle.play_rules.specs.State.{cpu_at}
use Rattle.core_world.specs.World.{World}
use Rattle.step_play.specs.Rules.Seen.{state_of}
use Rattle.core_machine.proofs.Views.Searches.{find_here, find_none, none_more}
use Rattle.core_machine.proofs.readings.machine.successor.Goals as goal

abbrev follows : World → (c : ℕ) → ℕ → Bool
follows w c d = not (d == c) && (is_placed_in w.tree d && (cpu_at (state_of w) d).online)

pub loop-other-preserved : goal.loop-other-preserved
loop-other-preserved g c =
    none_more c.args.core.now (follows c.args.core.now c.args.cpu.0) c.loop-other.other
    c.loop-other.invariant (sym c.may_succeed.ensures ∙ c.if-may_succeed.false)

pub returns-then-may_succeed-clause-successor : goal.returns-then-may_succeed-clause-successor
returns-then-may_succeed-clause-successor g c =
    let low = c.loop-other-test.true in
    let count = c.count-other-end.ensures in
    sym (find_here c.args.core.now (follows c.args.core.now c.args.cpu.0) c.loop-other.other
    c.loop-other.invariant (omega (arith, low, count))
    (sym c.may_succeed.ensures ∙ c.if-may_succeed.true))

pub returns-clause-successor : goal.returns-clause-successor
returns-clause-successor g c =
    let high = c.loop-other-test.false in
    let count = c.count-other-end.ensures in
    sym (find_none c.args.core.now (follows c.args.core.now c.args.cpu.0) c.loop-other.other
    c.loop-other.invariant (omega (arith, high, count)))

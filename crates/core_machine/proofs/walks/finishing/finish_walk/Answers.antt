use Rattle.std.proofs.Common.{false, subst, sym, ◌≡◌}
use Rattle.core_world.specs.World.{cpu_of}
use Rattle.step_play.specs.Rules.Alone.{goes_on, most_steps}
use Rattle.core_machine.proofs.Alone.Ends.{walk_ends}
use Rattle.step_play.proofs.WalkRuns.{walk_run}
use Rattle.step_play.specs.Rules.Lone.{IsWalkRun}
use Rattle.core_machine.proofs.walks.finishing.finish_walk.Goals as goal

pub returns-clause-ends : goal.returns-clause-ends
returns-clause-ends g c =
    subst (λ w. goes_on (cpu_of w c.args.cpu.0).walk ≡ false) (sym c.walk_out.ensures)
    (walk_ends c.law_step.ensures c.law_sizes.ensures c.args.core.now c.args.cpu.0
    (c.law_paths.ensures c.args.core.now.tree c.kept.ensures.fits.planned) c.requires.cpu
    c.tree.ensures.lawful c.requires.lone)

pub returns-clause-run : goal.returns-clause-run
returns-clause-run g c =
    subst (IsWalkRun c.args.cpu.0 c.args.core.now) (sym c.walk_out.ensures)
    (walk_run c.law_step.ensures c.law_sizes.ensures c.args.cpu.0 (most_steps c.args.core.now)
    c.args.core.now c.tree.ensures.lawful c.requires.cpu c.requires.lone)

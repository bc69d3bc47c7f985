use Rattle.std.proofs.Common.{ap, length, subst, sym, ◌∙◌}
use Rattle.core_world.specs.declared.step.Step.TheVariants as steps
use Rattle.core_world.specs.World.{World, cpu_of}
use Rattle.step_play.specs.Rules.Lone.{IsLone}
use Rattle.step_play.proofs.Lone.{lone_made, may_walk}
use Rattle.core_machine.proofs.walks.finishing.walk_alone.Goals as goal

pub walk_on-requires : goal.walk_on-requires
walk_on-requires g c =
    may_walk c.args.core.now c.args.cpu.0 c.requires.cpu c.tree.ensures.lawful c.requires.lone
    c.requires.goes_on

pub returns-clause-cpus : goal.returns-clause-cpus
returns-clause-cpus g c =
    ap (λ (w : World). length w.cpus) c.walk_on.ensures
    ∙ (c.law_sizes.ensures c.args.core.now (steps.Walk c.args.cpu)).cpus

pub returns-clause-lone : goal.returns-clause-lone
returns-clause-lone g c =
    subst (λ w. IsLone w c.args.cpu.0) (sym c.walk_on.ensures)
    (lone_made c.args.core.now c.args.cpu.0 c.requires.lone
    (cpu_of c.args.core.now c.args.cpu.0).walk)

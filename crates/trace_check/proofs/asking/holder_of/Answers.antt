use Rattle.std.proofs.Common.{sym, subst}
use Rattle.coverage.specs.Coverage.{Leads}
use Rattle.core_world.specs.Covered.{machine_of}
use Rattle.trace_check.specs.declared.reach.End.TheVariants as ends
use Rattle.trace_check.specs.Told.{EndsAt}
use Rattle.trace_check.proofs.ToldLaws.{held_by, not_held}
use Rattle.trace_check.proofs.asking.holder_of.Goals as goal

pub returns-in-Some-clause-first : goal.returns-in-Some-clause-first
returns-in-Some-clause-first g c =
    let w = c.args.core.now in
    held_by w c.args.cpu.0 c.args.wheel c.args.reach.level c.requires.below c.in-Active.group.0
    c.in-Some.runner.0
    (subst (EndsAt w c.args.cpu.0 c.args.wheel c.args.reach.level) c.in-Active.is c.requires.end)
    c.in-Some.ensures.leads

pub returns-in-None-clause-none : goal.returns-in-None-clause-none
returns-in-None-clause-none g c =
    let w = c.args.core.now in
    not_held w c.args.cpu.0 c.args.wheel c.args.reach.level c.requires.below
    (ends.Active c.in-Active.group)
    (subst (EndsAt w c.args.cpu.0 c.args.wheel c.args.reach.level) c.in-Active.is c.requires.end)
    (λ m g same leads.
    c.in-None.ensures.none m (subst (λ x. Leads (machine_of w) m x) (sym same) leads))

pub returns-in-Top-clause-none : goal.returns-in-Top-clause-none
returns-in-Top-clause-none g c =
    let w = c.args.core.now in
    not_held w c.args.cpu.0 c.args.wheel c.args.reach.level c.requires.below
    (ends.Top c.in-Top.field-0)
    (subst (EndsAt w c.args.cpu.0 c.args.wheel c.args.reach.level) c.in-Top.is c.requires.end)
    (λ m g same leads. same)

pub returns-in-Untold-clause-none : goal.returns-in-Untold-clause-none
returns-in-Untold-clause-none g c =
    let w = c.args.core.now in
    not_held w c.args.cpu.0 c.args.wheel c.args.reach.level c.requires.below ends.Untold
    (subst (EndsAt w c.args.cpu.0 c.args.wheel c.args.reach.level) c.in-Untold.is c.requires.end)
    (λ m g same leads. same)

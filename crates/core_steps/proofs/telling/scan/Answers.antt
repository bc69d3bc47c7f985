use Rattle.std.proofs.Common.{sym, subst, ap, ◌∙◌, Some}
use Rattle.event_queue.specs.EventMap.{event_at}
use Rattle.walk_rules.specs.declared.walk.Stage.TheVariants as stages
use Rattle.walk_rules.specs.Stages.{scan_next}
use Rattle.core_world.specs.Steps.{with_walk}
use Rattle.core_world.specs.World.{cpu_of, group_of, own}
use Rattle.core_state.specs.Kept.{WorldFits}
use Rattle.core_steps.proofs.Standing.{fit, level_here, lower_level, walked_fits}
use Rattle.core_steps.proofs.telling.scan.Goals as goal

pub set_walk-requires-clause-fits : goal.set_walk-requires-clause-fits
set_walk-requires-clause-fits g c =
    subst WorldFits
    (sym
    (ap (λ m. own c.args.core.now c.args.cpu.0 (with_walk (cpu_of c.args.core.now c.args.cpu.0) m))
    (ap Some (c.scan_next-next.ensures.next ∙ (λ i. scan_next ((c.event_of-event.ensures.event ∙ ap (λ h. event_at (group_of c.args.core.now h).events c.args.k) c.group_below-group.ensures.group) i) c.args.k c.args.walk)))))
    (walked_fits c.args.core.now c.args.cpu c.args.walk (stages.Scan c.args.k) c.kept.ensures.stays c.requires.stands)

pub returns : goal.returns
returns g c =
    c.set_walk.ensures
    ∙ ap (λ m. own c.args.core.now c.args.cpu.0 (with_walk (cpu_of c.args.core.now c.args.cpu.0) m))
    (ap Some (c.scan_next-next.ensures.next ∙ (λ i. scan_next ((c.event_of-event.ensures.event ∙ ap (λ h. event_at (group_of c.args.core.now h).events c.args.k) c.group_below-group.ensures.group) i) c.args.k c.args.walk)))

pub event_of-event-requires-clause-group : goal.event_of-event-requires-clause-group
event_of-event-requires-clause-group g c =
    c.group_below-group.ensures.in_range (lower_level c.args.core.now.tree c.args.cpu.0 c.args.walk.level c.kept.ensures.hierarchy
    ((fit c.args.core.now c.kept.ensures.fits c.args.cpu.0 c.args.walk (stages.Scan c.args.k) c.requires.stands (λ e. cc)).1)
    (level_here c.args.core.now c.kept.ensures.fits c.args.cpu.0 c.args.walk (stages.Scan c.args.k) c.requires.stands (λ e. cc)))

pub event_of-event-requires-clause-a_child : goal.event_of-event-requires-clause-a_child
event_of-event-requires-clause-a_child g c =
    (fit c.args.core.now c.kept.ensures.fits c.args.cpu.0 c.args.walk (stages.Scan c.args.k) c.requires.stands (λ e. cc)).2

pub scan_next-next-requires : goal.scan_next-next-requires
scan_next-next-requires g c =
    (fit c.args.core.now c.kept.ensures.fits c.args.cpu.0 c.args.walk (stages.Scan c.args.k) c.requires.stands (λ e. cc)).2

use Rattle.std.proofs.Common.{sym, subst, ap, ◌∙◌, Some}
use Rattle.event_queue.specs.EventMap.{event_at}
use Rattle.walk_rules.specs.declared.walk.Stage.TheVariants as stages
use Rattle.walk_rules.specs.Stages.{first_next}
use Rattle.core_world.specs.Steps.{with_walk}
use Rattle.core_world.specs.World.{cpu_of, group_of, own}
use Rattle.core_state.specs.Kept.{WorldFits}
use Rattle.core_steps.proofs.Standing.{fit, level_here, walked_fits}
use Rattle.core_steps.proofs.telling.read_first.Goals as goal

pub set_walk-requires-clause-fits : goal.set_walk-requires-clause-fits
set_walk-requires-clause-fits g c =
    subst WorldFits
    (sym
    (ap (λ m. own c.args.core.now c.args.cpu.0 (with_walk (cpu_of c.args.core.now c.args.cpu.0) m))
    (ap Some (c.first_next-next.ensures.next ∙ (λ i. first_next ((c.event_of-event.ensures.event ∙ ap (λ h. event_at (group_of c.args.core.now h).events c.args.k) c.group_on-group.ensures.group) i) c.args.k c.args.walk)))))
    (walked_fits c.args.core.now c.args.cpu c.args.walk (stages.First c.args.k) c.kept.ensures.stays c.requires.stands)

pub returns : goal.returns
returns g c =
    c.set_walk.ensures
    ∙ ap (λ m. own c.args.core.now c.args.cpu.0 (with_walk (cpu_of c.args.core.now c.args.cpu.0) m))
    (ap Some (c.first_next-next.ensures.next ∙ (λ i. first_next ((c.event_of-event.ensures.event ∙ ap (λ h. event_at (group_of c.args.core.now h).events c.args.k) c.group_on-group.ensures.group) i) c.args.k c.args.walk)))

pub event_of-event-requires-clause-group : goal.event_of-event-requires-clause-group
event_of-event-requires-clause-group g c =
    c.group_on-group.ensures.in_range (level_here c.args.core.now c.kept.ensures.fits c.args.cpu.0 c.args.walk (stages.First c.args.k) c.requires.stands (λ e. cc))

pub event_of-event-requires-clause-a_child : goal.event_of-event-requires-clause-a_child
event_of-event-requires-clause-a_child g c =
    (fit c.args.core.now c.kept.ensures.fits c.args.cpu.0 c.args.walk (stages.First c.args.k) c.requires.stands (λ e. cc)).2

pub first_next-next-requires : goal.first_next-next-requires
first_next-next-requires g c =
    (fit c.args.core.now c.kept.ensures.fits c.args.cpu.0 c.args.walk (stages.First c.args.k) c.requires.stands (λ e. cc)).2

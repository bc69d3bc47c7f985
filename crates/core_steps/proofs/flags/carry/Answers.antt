use Rattle.std.proofs.Common.{ap, ◌∙◌}
use Rattle.std.specs.Prelude.{unwrap_or}
use Rattle.walk_rules.specs.declared.walk.WalkKind.TheVariants as kinds
use Rattle.walk_rules.specs.declared.walk.Stage.TheVariants as stages
use Rattle.core_world.specs.Steps.{begins}
use Rattle.core_world.specs.declared.step.Step.TheVariants as steps
use Rattle.core_state.specs.Status.{CpuStatus}
use Rattle.core_state.proofs.Changes.{status_fits}
use Rattle.core_steps.proofs.flags.carry.Goals as goal

pub set-requires-clause-fits : goal.set-requires-clause-fits
set-requires-clause-fits g c =
    let marker = c.unwrap_or.ensures
    ∙ ap (λ (s : CpuStatus). unwrap_or s.mark 0) c.status-status.ensures.status in
    let walk = c.begins-walk.ensures.walk
    ∙ ap (λ by. begins c.args.core.now c.args.cpu.0 (kinds.Remote (record { 0 = by })) stages.LockGroup) marker in
    status_fits c.args.core.now c.args.cpu.0 _ _
    (λ i. record (c.status-status.ensures.status i) { walk = walk i })
    (c.status-status.ensures.stays (steps.Carry c.args.cpu) c.requires)

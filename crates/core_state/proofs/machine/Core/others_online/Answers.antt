use Rattle.std.proofs.Common.{ap, subst, ◌∙◌}
use Rattle.std.specs.Prelude.{◌&&◌}
use Rattle.tree_plan.specs.Paths.{is_placed_in}
use Rattle.core_parts.specs.core_world.World.{World}
use Rattle.core_state.specs.Tally.{IsTallied}
use Rattle.core_state.proofs.Tallies.{others_none, others_some}
use Rattle.core_state.proofs.machine.Core.others_online.Goals as goal

pub returns : goal.returns
returns g c =
    let noted = subst (λ (u : World). IsTallied u.tree u.cpus c.self.inside.tally) c.self.view_is
    c.self.invariant.tallied in
    let so = c.is_placed_online-placed_online.ensures
    ∙ (λ i. is_placed_in (ap (λ (u : World). u.tree) c.self.view_is i) c.args.cpu.0
    && (c.status.ensures.status i).online) in
    let placed_online = c.is_placed_online-placed_online.result in (
      (λ more. others_some c.args.self.now c.self.inside.tally noted c.args.cpu.0 c.requires
          placed_online so (c.counts_others.ensures.0 more)),
      (λ others. c.counts_others.ensures.1
          (others_none c.args.self.now c.self.inside.tally noted c.args.cpu.0 c.requires placed_online so
          others)),
    )

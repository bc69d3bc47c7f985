use Rattle.std.proofs.Common.{refl}
use Rattle.core_state.proofs.Holders.{read_low}
use Rattle.core_state.proofs.machine.Core.queued_on.Goals as goal

pub returns-clause-in_range : goal.returns-clause-in_range
returns-clause-in_range g c =
    read_low _ c.args.self.now c.self.inside.holders.items c.args.t.0 c.from.result
    c.index.result.now c.self.view_is refl c.self.invariant.held c.from.ensures c.requires
    c.index.ensures

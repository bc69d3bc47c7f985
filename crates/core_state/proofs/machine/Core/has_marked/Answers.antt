use Rattle.std.proofs.Common.{subst, inl, inr}
use Rattle.std.proofs.lemmas.Bool.{cases_Bool}
use Rattle.core_parts.specs.core_world.World.{World}
use Rattle.core_state.specs.Tally.{IsTallied}
use Rattle.core_state.proofs.Tallies.{count_is_none, marks_none, marks_some}
use Rattle.core_state.proofs.machine.Core.has_marked.Goals as goal

pub returns : goal.returns
returns g c =
    let noted = subst (λ (u : World). IsTallied u.tree u.cpus c.self.inside.tally) c.self.view_is
    c.self.invariant.tallied in (
      (λ none. marks_none c.args.self.now c.self.inside.tally noted c.args.cpu.0 c.requires
          (count_is_none _ _ c.has_marked.ensures none)),
      (λ nobody. elim (cases_Bool c.has_marked.result) [
        | inl some ↦
            absurd (marks_some c.args.self.now c.self.inside.tally noted c.args.cpu.0 c.requires
            (c.has_marked.ensures.0 some) nobody)
        | inr none ↦ none
      ]),
    )

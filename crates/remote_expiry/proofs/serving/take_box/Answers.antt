use Rattle.std.proofs.Common.{[], sym, subst}
use Rattle.std.specs.Prelude.{MatchResult}
use Rattle.walk_rules.specs.Hierarchy.{HasGroup}
use Rattle.walk_inactive.specs.shared_rule.Parts.{HeldPart}
use Rattle.shared_acts.specs.Pieces.{Piece}
use Rattle.shared_acts.specs.Tries.{TakesOrLeaves}
use Rattle.remote_expiry.proofs.serving.take_box.Goals as goal

pub take_part-requires-clause-grouped : goal.take_part-requires-clause-grouped
take_part-requires-clause-grouped g c =
    subst (λ (z : HeldPart). HasGroup g.N.RunName.opening.tree z.box.cpu) (sym c.cpu_box.view_is)
    c.requires.grouped

pub take_part-requires-clause-free : goal.take_part-requires-clause-free
take_part-requires-clause-free g c = c.cpu_box.invariant

pub invariant_of-cpu_box : goal.invariant_of-cpu_box
invariant_of-cpu_box g c = c.take_part.ensures.free

pub returns-clause-done : goal.returns-clause-done
returns-clause-done g c =
    let table = g.N.RunName.table in
    let held = c.args.pass.now in
    let after = c.take_part.new.pass in
    subst (λ (z : HeldPart). MatchResult c.take_part.result
    (TakesOrLeaves table g.N.RunName.opening z.box.cpu c.take_part.new.items.items held after)
    (λ e. Piece table held after [] [] 0)) c.cpu_box.view_is c.take_part.ensures.done

pub take_part-requires-clause-at_work : goal.take_part-requires-clause-at_work
take_part-requires-clause-at_work g c = c.requires.at_work

pub take_part-requires-clause-placed : goal.take_part-requires-clause-placed
take_part-requires-clause-placed g c = c.requires.placed

pub take_part-requires-clause-now : goal.take_part-requires-clause-now
take_part-requires-clause-now g c = c.requires.now

pub take_part-requires-clause-none : goal.take_part-requires-clause-none
take_part-requires-clause-none g c = c.requires.none

pub returns-clause-runs : goal.returns-clause-runs
returns-clause-runs g c = c.take_part.ensures.runs

pub returns-clause-runnable : goal.returns-clause-runnable
returns-clause-runnable g c = c.take_part.ensures.runnable

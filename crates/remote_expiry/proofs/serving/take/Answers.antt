use Rattle.std.proofs.Common.{[], sym, ap, ◌∙◌, subst}
use Rattle.std.specs.Prelude.{MatchResult}
use Rattle.walk_rules.specs.Hierarchy.{HasGroup}
use Rattle.walk_inactive.specs.shared_rule.Parts.{HeldPart}
use Rattle.shared_acts.specs.Pieces.{Piece}
use Rattle.shared_acts.specs.Tries.{TakesOrLeaves}
use Rattle.remote_expiry.proofs.serving.take.Goals as goal

pub lock-guard-requires : goal.lock-guard-requires
lock-guard-requires g c = c.requires.due.0

pub take_box-requires-clause-grouped : goal.take_box-requires-clause-grouped
take_box-requires-clause-grouped g c =
    let cpu = ap (λ (z : HeldPart). z.box.cpu) c.deref_mut.ensures.value ∙ c.lock-guard.ensures in
    subst (λ n. HasGroup g.N.RunName.opening.tree n) (sym cpu) c.requires.due.1

pub returns-clause-done : goal.returns-clause-done
returns-clause-done g c =
    let table = g.N.RunName.table in
    let held = c.args.pass.now in
    let after = c.take_box.new.pass in
    let cpu = ap (λ (z : HeldPart). z.box.cpu) c.deref_mut.ensures.value ∙ c.lock-guard.ensures in
    subst (λ n. MatchResult c.take_box.result
    (TakesOrLeaves table g.N.RunName.opening n c.take_box.new.items.items held after)
    (λ e. Piece table held after [] [] 0)) cpu c.take_box.ensures.done

pub take_box-requires-clause-at_work : goal.take_box-requires-clause-at_work
take_box-requires-clause-at_work g c = c.requires.at_work

pub take_box-requires-clause-placed : goal.take_box-requires-clause-placed
take_box-requires-clause-placed g c = c.requires.placed

pub take_box-requires-clause-now : goal.take_box-requires-clause-now
take_box-requires-clause-now g c = c.requires.now

pub take_box-requires-clause-none : goal.take_box-requires-clause-none
take_box-requires-clause-none g c = c.requires.none

pub returns-clause-runs : goal.returns-clause-runs
returns-clause-runs g c = c.take_box.ensures.runs

pub returns-clause-runnable : goal.returns-clause-runnable
returns-clause-runnable g c = c.take_box.ensures.runnable

use Rattle.std.proofs.Common.{sym, ◌∙◌}
use Rattle.std.proofs.lemmas.Bool.{eqb-true}
use Rattle.std.proofs.lemmas.List.{nil_from_length}
use Rattle.run_rounds.proofs.threads.begin.Goals as goal

pub idle_share-requires-clause-may : goal.idle_share-requires-clause-may
idle_share-requires-clause-may g c = c.requires.may

pub idle_share-requires-clause-not_due : goal.idle_share-requires-clause-not_due
idle_share-requires-clause-not_due g c = c.if-not-task.true

pub idle_share-requires-clause-no_ops : goal.idle_share-requires-clause-no_ops
idle_share-requires-clause-no_ops g c =
    let ops = c.args.task.ops in
    let none = eqb-true ops.len 0 (sym c.is_empty.ensures ∙ c.if-is_empty.true) in
    nil_from_length ops.items (sym ops.ok.0 ∙ none)

pub begin_busy-requires-clause-may : goal.begin_busy-requires-clause-may
begin_busy-requires-clause-may g c κs within = c.requires.may

pub begin_busy-requires-clause-now : goal.begin_busy-requires-clause-now
begin_busy-requires-clause-now g c κs within = c.requires.now

pub begin_busy-requires-clause-in_time : goal.begin_busy-requires-clause-in_time
begin_busy-requires-clause-in_time g c κs within = c.requires.in_time

pub returns-then-is_empty : goal.returns-then-is_empty
returns-then-is_empty g c = c.idle_share.ensures (g.J.Jobs.replies c.args.jobs.now)

pub returns-else-not-task : goal.returns-else-not-task
returns-else-not-task g c = c.begin_busy.ensures

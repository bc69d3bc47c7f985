use Rattle.std.proofs.Common.{refl}
use Rattle.run_shares.proofs.Parting.{is_given}
use Rattle.run_shares.specs.declared.tasks.Task.{Task}
use Rattle.run_shares.proofs.tasks.give.Goals as goal

pub returns-clause-given : goal.returns-clause-given
returns-clause-given c =
    let x : Task = c.index_mut-task.result.now in
    let y : Task = record { pass = x.pass; due = x.due; ops = c.push.new.self } in
    is_given c.args.op c.args.tasks.now.items c.from.result x y c.from.ensures c.requires
    c.index_mut-task.ensures.value refl refl c.in_ok-push.ensures.items

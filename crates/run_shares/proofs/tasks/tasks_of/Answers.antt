use Rattle.run_shares.proofs.Parting.{each_has_task, run_tasks}
use Rattle.run_shares.proofs.tasks.tasks_of.Goals as goal

pub give_all-requires : goal.give_all-requires
give_all-requires g c =
    let tasks = run_tasks g.N.RunName.table g.N.RunName.opening c.args.due.now c.args.passes.items
    c.in_ok-tasks.tasks.items c.requires.passes c.in_ok-tasks.ensures in
    each_has_task g.N.RunName.opening c.args.ops.now c.in_ok-tasks.tasks.items tasks.count
    c.requires.ops

pub returns : goal.returns
returns g c =
    let tasks = run_tasks g.N.RunName.table g.N.RunName.opening c.args.due.now c.args.passes.items
    c.in_ok-tasks.tasks.items c.requires.passes c.in_ok-tasks.ensures in
    c.in_ok-give_all.ensures g.N.RunName.table g.N.RunName.opening c.args.due.now _ tasks

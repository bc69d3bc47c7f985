use Rattle.std.proofs.Common.{ap, refl, ◌∙◌}
use Rattle.std.specs.FinSet.{contains}
use Rattle.run_shares.specs.declared.tasks.Task.{Task}
use Rattle.run_shares.proofs.Moving.{task_one}
use Rattle.run_shares.proofs.tasks.first_tasks.Goals as goal

pub loop-pass-preserved : goal.loop-pass-preserved
loop-pass-preserved c =
    let task : Task
    = record { pass = c.in-Some.pass; due = c.has-due.result; ops = c.new-ops.result } in
    task_one c.args.due.now c.args.passes.items c.loop-pass.pass-iterator.rest.items
    c.next.new.self.rest.items c.loop-pass.tasks.items c.push.new.self.items c.in-Some.pass task
    c.in-Some.ensures.steps.0 c.in_ok-push.ensures.items refl
    (c.has-due.ensures.found ∙ ap (contains c.args.due.now) c.cpu.ensures)
    c.new-ops.ensures.items c.loop-pass.invariant

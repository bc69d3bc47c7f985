use Rattle.std.proofs.Common.{◌∙◌, refl, subst}
use Rattle.std.proofs.lemmas.Result.{err_from_is_err_and}
use Rattle.remote_expiry.specs.Stopping.{AsksAgain}
use Rattle.remote_expiry.proofs.JobLoop.{was_run}
use Rattle.remote_expiry.proofs.jobs.run_one.Goals as goal

pub returns : goal.returns
returns g c =
    was_run g.N.RunName.table g.N.RunName.opening (g.J.Jobs.replies c.args.jobs.now)
    c.args.home.0 c.args.item.now c.args.pass.now c.answer.new.pass c.run-job_reply.result _
    (c.run-job_reply.ensures
    ∙ (λ k. g.J.Jobs.replies c.args.jobs.now c.args.item.now.job (record {
      timer = record { 0 = c.args.item.now.id };
      arg = c.args.item.now.arg;
      now = c.requires.now k;
      runner = record { 0 = c.cpu.ensures k };
    })))
    (record { timer = refl; at = refl; wheel = refl }) c.in_ok-reply.ensures

pub returns-in_err-reply : goal.returns-in_err-reply
returns-in_err-reply g c =
    let e = err_from_is_err_and c.from_residual.result c.from_residual.ensures.1 in
    let same = c.run-job_reply.ensures
    ∙ (λ k. g.J.Jobs.replies c.args.jobs.now c.args.item.now.job (record {
      timer = record { 0 = c.args.item.now.id };
      arg = c.args.item.now.arg;
      now = c.requires.now k;
      runner = record { 0 = c.cpu.ensures k };
    })) in
    rw e.1 (c.in_err-reply.ensures.0, subst AsksAgain same c.in_err-reply.ensures.1)

use Rattle.std.proofs.Common.{sym}
use Rattle.std.proofs.lemmas.Result.{err_from_is_err_and, on_ok_weaker}
use Rattle.tm_report.specs.declared.lines.Line.TheVariants as lines
use Rattle.play_rules.specs.Interrupts.{timer_id}
use Rattle.play_rules.specs.Parts.{Prints, counting, printing}
use Rattle.play_rules.proofs.Plays.{gains_none, prints_counting, prints_then}
use Rattle.play_driver.proofs.Parts.{told_gains, told_line}
use Rattle.play_driver.proofs.jobs.run_job.Goals as goal

pub reply_to-requires-clause-runner : goal.reply_to-requires-clause-runner
reply_to-requires-clause-runner g c = c.requires.runner

pub reply_to-requires-clause-timer : goal.reply_to-requires-clause-timer
reply_to-requires-clause-timer g c = c.requires.timer

pub reply_to-requires-clause-fit : goal.reply_to-requires-clause-fit
reply_to-requires-clause-fit g c = c.requires.fit

pub returns-in_err-reply : goal.returns-in_err-reply
returns-in_err-reply g c =
    let p = err_from_is_err_and c.from_residual.result c.from_residual.ensures.1 in
    rw p.1 (record {
      prints = tt;
      same = tt;
      fit = tt;
      gains = gains_none _;
    })

pub returns : goal.returns
returns g c =
    let s = g.M.PlayMachine.world c.reply_to.new.machine in
    let item = c.args.item in
    let line = lines.Run c.clock-now.result c.args.runner (timer_id item.id) c.args.home item.wheel
    c.in_ok-reply.reply in
    let replied = c.in_ok-reply.ensures in
    let counted = c.count.ensures in
    let told = c.tell.ensures in
    let mid = c.count.new.self in
    let new = c.tell.new.self in
    let last = told_line line mid new c.tell.result s told.text told.tally told.work in
    record {
      prints = rw (sym replied.reply, sym replied.state, sym c.clock-now.ensures.clock)
          (on_ok_weaker {P = Prints (printing line s) mid new s} _
          (prints_then (counting s) (printing line) _ _ _ _ _
          (prints_counting _ _ _ counted.text counted.tally counted.work)) last);
      same = on_ok_weaker {P = Prints (printing line s) mid new s} _
          (λ is. record { same = replied.same; online = replied.online }) last;
      fit = on_ok_weaker {P = Prints (printing line s) mid new s} _ (λ is. replied.fit) last;
      gains = rw (sym counted.text) (told_gains line mid new c.tell.result told.text told.err);
    }

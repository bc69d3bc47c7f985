use Rattle.std.proofs.Common.{[], rules, subst, sym}
use Rattle.std.specs.Option.{option_copied}
use Rattle.play_rules.specs.Interrupts.{interrupts}
use Rattle.play_rules.specs.Moments.{moment}
use Rattle.play_rules.specs.Operations.{clear_after, covers, leaver, operations}
use Rattle.play_rules.specs.Parts.{Gains, Prints, and_then}
use Rattle.play_rules.proofs.Plays.{gains_then}
use Rattle.run_plain.specs.Plain.{by_cpus}
use Rattle.play_driver.specs.PartLeaves.{Tells}
use Rattle.run_plain.proofs.PlainMoments.{none_moment, some_moment}
use Rattle.run_plain.proofs.Spreading.{where_ok}
use Rattle.run_plain.proofs.moments.plain_moment.Goals as goal

pub returns-in_default : goal.returns-in_default
returns-in_default g c =
    let r = g.M.PlayMachine.rules in
    let jobs = g.J.Jobs.replies c.args.jobs.now in
    let s = g.M.PlayMachine.world c.args.machine.now in
    let n = r.cpus s in
    let due = c.args.due.now in
    let old = c.args.telling.now in
    let new = c.done_apart.new.telling in
    let after = g.M.PlayMachine.world c.done_apart.new.machine in
    record {
      prints = where_ok c.done_apart.result
          (Tells (by_cpus n (and_then (interrupts jobs r n 0 due s) (operations r []))) c.count.new.self new
          after)
          (Tells (by_cpus n (moment jobs r due (option_copied c.args.m) s)) old new after)
          (λ told. subst (λ m. Tells (by_cpus n (moment jobs r due (option_copied m) s)) old new after)
          (sym c.in_default.is)
          (none_moment jobs r n due s old c.count.new.self new after c.count.ensures.text
          c.count.ensures.work told))
          c.done_apart.ensures.prints;
      same = c.done_apart.ensures.same;
      fit = c.done_apart.ensures.fit;
      gains = subst (λ t. Gains t new.text) c.count.ensures.text c.done_apart.ensures.gains;
    }

pub returns : goal.returns
returns g c =
    let r = g.M.PlayMachine.rules in
    let jobs = g.J.Jobs.replies c.args.jobs.now in
    let s = g.M.PlayMachine.world c.args.machine.now in
    let n = r.cpus s in
    let due = c.args.due.now in
    let m = c.in-Some.m.now in
    let old = c.args.telling.now in
    let t1 = c.done_apart-2.new.telling in
    let t2 = c.clear_after.new.telling in
    let t3 = c.covers.new.telling in
    let w1 = g.M.PlayMachine.world c.done_apart-2.new.machine in
    let w2 = g.M.PlayMachine.world c.clear_after.new.machine in
    record {
      prints = where_ok c.covers.result (Prints (covers r w2) t2 t3 w2)
          (Tells (by_cpus n (moment jobs r due (option_copied c.args.m) s)) old t3 w2)
          (λ covered. subst (λ k. Tells (by_cpus n (moment jobs r due (option_copied k) s)) old t3 w2)
          (sym c.in-Some.is)
          (some_moment jobs r n due s m old c.count.new.self t1 t2 t3 w1 w2 c.count.ensures.text
          c.count.ensures.work
          (subst (λ ops. Tells (by_cpus n (and_then (interrupts jobs r n 0 due s) (operations r ops)))
          c.count.new.self t1 w1) c.as_slice-ops.ensures c.in_ok-done_apart.ensures.prints)
          (subst (λ ops. Prints (clear_after r (leaver ops) w1) t1 t2 w2) c.as_slice-ops.ensures
          c.in_ok-clear_after.ensures.prints)
          covered))
          c.covers.ensures.prints;
      same = search rules;
      fit = search rules;
      gains = gains_then _ _ _
          (gains_then _ _ _
          (subst (λ t. Gains t t1.text) c.count.ensures.text c.done_apart-2.ensures.gains)
          c.clear_after.ensures.gains)
          c.covers.ensures.gains;
    }

use Rattle.std.proofs.Common.{rules, set, sym, ap, ◌∙◌, slice_index_or, subst}
use Rattle.std.specs.FinSet as fins
use Rattle.play_rules.specs.Interrupts.{interrupt_where}
use Rattle.play_rules.specs.Parts.{Prints, Progress}
use Rattle.run_plain.specs.Apart.{Spreads}
use Rattle.run_plain.proofs.Spreading.{spread_one, where_ok}
use Rattle.run_plain.proofs.Tellers.{due_by}
use Rattle.run_plain.proofs.moments.interrupt_apart.Goals as goal

pub returns : goal.returns
returns g c =
    let r = g.M.PlayMachine.rules in
    let s = g.M.PlayMachine.world c.args.machine.now in
    let jobs = g.J.Jobs.replies c.args.jobs.now in
    let cpu = c.args.cpu.0 in
    let own = c.args.own.now.items in
    let p = interrupt_where jobs r (fins.contains c.args.due.now cpu) cpu s in
    let t = c.interrupt_if_due.new.telling in
    let after = g.M.PlayMachine.world c.interrupt_if_due.new.machine in
    let from = c.from.ensures in
    record {
      spreads = where_ok c.interrupt_if_due.result (Prints p c.index_mut.result.now t after)
          (Spreads (r.cpus s) p own (set own c.from.result t) after)
          (λ done. subst (λ k. Spreads (r.cpus s) p own (set own k t) after) (sym from)
          (spread_one (r.cpus s) cpu p own c.index_mut.result.now t after c.requires.cpu
          (due_by jobs r (fins.contains c.args.due.now cpu) cpu s)
          (subst (λ (old : Progress). Prints p old t after)
          (c.index_mut.ensures.value
          ∙ ap (λ k. slice_index_or own k c.index_mut.result.now) from) done)
          c.requires.count))
          c.interrupt_if_due.ensures.prints;
      count = search rules;
      same = c.interrupt_if_due.ensures.same;
      fit = c.interrupt_if_due.ensures.fit;
    }

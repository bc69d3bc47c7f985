use Rattle.std.proofs.Common.{rules, ap, set, slice_index_or, subst, sym, ◌∙◌}
use Rattle.play_rules.specs.Operations.{operation}
use Rattle.play_rules.specs.Parts.{Prints, Progress}
use Rattle.run_plain.specs.Apart.{Spreads}
use Rattle.run_plain.proofs.Spreading.{spread_one, where_ok}
use Rattle.run_plain.proofs.Tellers.{operation_by}
use Rattle.run_plain.proofs.moments.operation_apart.Goals as goal

pub returns : goal.returns
returns g c =
    let r = g.M.PlayMachine.rules in
    let s = g.M.PlayMachine.world c.args.machine.now in
    let op = c.args.op.now in
    let own = c.args.own.now.items in
    let p = operation r op s in
    let t = c.operation.new.telling in
    let after = g.M.PlayMachine.world c.operation.new.machine in
    let from = c.from.ensures in
    record {
      spreads = where_ok c.operation.result (Prints p c.index_mut.result.now t after)
          (Spreads (r.cpus s) p own (set own c.from.result t) after)
          (λ done. subst (λ k. Spreads (r.cpus s) p own (set own k t) after) (sym from)
          (spread_one (r.cpus s) op.cpu.0 p own c.index_mut.result.now t after c.requires.in_range.cpu
          (operation_by r op s)
          (subst (λ (old : Progress). Prints p old t after)
          (c.index_mut.ensures.value
          ∙ ap (λ k. slice_index_or own k c.index_mut.result.now) from) done)
          c.requires.count))
          c.operation.ensures.prints;
      count = search rules;
      same = c.operation.ensures.same;
      fit = c.operation.ensures.fit;
    }

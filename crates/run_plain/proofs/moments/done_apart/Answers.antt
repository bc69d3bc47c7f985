use Rattle.std.proofs.Common.{◌≡◌, ◌+◌, ◌++◌, [], ap, rules, subst, ◌∙◌}
use Rattle.std.specs.List.{flat_map, sum_by}
use Rattle.play_rules.specs.Interrupts.{interrupts}
use Rattle.play_rules.specs.Operations.{operations}
use Rattle.play_rules.specs.Parts.{Progress, and_then, counted}
use Rattle.run_plain.specs.Apart.{ToldApart}
use Rattle.run_plain.specs.Plain.{by_cpus}
use Rattle.play_driver.specs.PartLeaves.{Tells}
use Rattle.run_plain.proofs.Gathered.{told_all}
use Rattle.run_plain.proofs.Spreading.{on_cpus, spread_then, where_both}
use Rattle.run_plain.proofs.Tellers.{both_none, interrupts_none, operations_none}
use Rattle.run_plain.proofs.moments.done_apart.Goals as goal

pub returns : goal.returns
returns g c =
    let r = g.M.PlayMachine.rules in
    let jobs = g.J.Jobs.replies c.args.jobs.now in
    let s = g.M.PlayMachine.world c.args.machine.now in
    let n = r.cpus s in
    let ops = c.args.ops.now in
    let due = c.args.due.now in
    let first = interrupts jobs r n 0 due s in
    let whole = and_then first (operations r ops) in
    let own = c.operations_apart.new.own.items in
    let old = c.args.telling.now in
    let new = c.gather.new.telling in
    let after = g.M.PlayMachine.world c.operations_apart.new.machine in
    let mid = g.M.PlayMachine.world c.interrupts_apart.new.machine in
    let interrupted = c.in_ok-interrupts_apart.ensures in
    let operated = c.in_ok-operations_apart.ensures in
    let nobody = subst (λ k. ToldApart k c.in_ok-own.own.items [] 0) c.cpus.ensures.count
    c.in_ok-own.ensures in
    let later = on_cpus (r.cpus mid) n (operations r ops mid) c.interrupts_apart.new.own.items own
    after interrupted.same.cpus operated.spreads in
    let spreads = spread_then n first (operations r ops) c.in_ok-own.own.items
    c.interrupts_apart.new.own.items own mid after interrupted.spreads later in
    let none = both_none first.lines (operations r ops first.state).lines
    (interrupts_none jobs r n 0 due s) (operations_none r ops first.state) in
    record {
      prints = where_both c.gather.result
          (new.text ≡ old.text ++ flat_map (λ (t : Progress). t.text) c.as_slice.result.now)
          (counted new.work
          ≡ counted (old.work + sum_by (λ (t : Progress). t.work) c.as_slice.result.now))
          (Tells (by_cpus n whole) old new after)
          (λ text work. told_all n whole c.in_ok-own.own.items own after old new nobody spreads none
          (text ∙ ap (λ xs. old.text ++ flat_map (λ (t : Progress). t.text) xs) c.as_slice.ensures.value)
          (work ∙ ap (λ xs. counted (old.work + sum_by (λ (t : Progress). t.work) xs))
          c.as_slice.ensures.value))
          c.gather.ensures.text c.gather.ensures.work;
      same = search rules;
      fit = search rules;
      gains = c.gather.ensures.gains;
    }

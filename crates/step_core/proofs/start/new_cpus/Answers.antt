use Rattle.std.proofs.Common.{ap, ◌∙◌, ◌++◌, length}
use Rattle.std.specs.Prelude.{replicate}
use Rattle.core_world.specs.Start.{start_cpu}
use Rattle.step_core.proofs.Starts.{made_more, rest_empty}
use Rattle.step_core.proofs.start.new_cpus.Goals as goal

pub loop-of_cpu-preserved : goal.loop-of_cpu-preserved
loop-of_cpu-preserved g c =
    let steps = c.in-Some.ensures.steps.0 in
    record {
      made = ap (λ xs. xs ++ replicate (length c.next.new.self.rest.items) start_cpu)
          c.in_ok-push.ensures.items
          ∙ made_more c.loop-of_cpu.cpus.items c.loop-of_cpu.of_cpu-iterator.rest.items
          c.in-Some.of_cpu
          c.next.new.self.rest.items c.new.result _ steps c.new.ensures
          c.loop-of_cpu.invariant.made;
      empty = rest_empty c.loop-of_cpu.of_cpu-iterator.rest.items c.in-Some.of_cpu
          c.next.new.self.rest.items steps
          c.loop-of_cpu.invariant.empty;
    }

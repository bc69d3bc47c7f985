use Rattle.std.proofs.Common.{arith, ap, ◌∙◌}
use Rattle.std.specs.Prelude.{not}
use Rattle.std.specs.Int.{from_bool}
use Rattle.tree_plan.proofs.Placed.{bool_low, few_placed, placed_next}
use Rattle.tree_plan.proofs.Lengths.{seats_more}
use Rattle.tree_plan.proofs.cutting.link_cpus.Goals as goal

pub overflow_add-next : goal.overflow_add-next
overflow_add-next c =
    omega (arith, few_placed c.args.isolated.now 0 c.loop-cpu.cpu, c.loop-cpu.invariant.next, c.from-next.ensures, bool_low (not c.has.result))

pub loop-cpu-preserved : goal.loop-cpu-preserved
loop-cpu-preserved c =
    let l = c.loop-cpu in
    record {
      next = placed_next c.args.isolated.now l.cpu l.next c.from-next.result l.invariant.next (c.from-next.ensures ∙ ap (λ b. from_bool (not b)) c.has.ensures.found);
      so_far = seats_more c.args.isolated.now c.args.links.now l.cpu l.next c.seat.result _ _ l.invariant.next l.invariant.so_far c.seat.ensures c.in_ok-push.ensures.items;
    }

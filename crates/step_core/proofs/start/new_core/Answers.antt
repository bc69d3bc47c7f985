use Rattle.std.proofs.Common.{◌∙◌, ap, arith, length}
use Rattle.std.proofs.lemmas.List.{length-replicate}
use Rattle.core_world.specs.Start.{start_cpu}
use Rattle.step_core.proofs.Starts.{start_fits, start_held}
use Rattle.step_core.proofs.start.new_core.Goals as goal

pub from_parts-requires : goal.from_parts-requires
from_parts-requires g c =
    let each = c.requires.each_cpu in
    let counted = c.cpu_count-2.ensures.count in
    let marks = ap length c.in_ok-tally.ensures.marks ∙ length-replicate c.cpu_count-2.result 0 in
    let cpus = ap length c.in_ok-cpus.ensures ∙ length-replicate (length c.args.bases.items) start_cpu in
    record {
      fits = start_fits c.args.tree c.args.timers _ c.in_ok-holders.holders.items c.in_ok-groups.groups.items
          c.in_ok-cpus.cpus.items c.requires.each_cpu c.in_ok-groups.ensures c.in_ok-cpus.ensures
          c.in_ok-holders.ensures c.cpu_count.ensures.planned c.law_start.ensures c.law_replay.ensures.starts
          c.law_height.ensures.starts (omega (arith, c.ranges.timers.fits));
      held = start_held c.args.tree c.args.timers _ c.in_ok-holders.holders.items c.in_ok-groups.groups.items
          c.in_ok-cpus.cpus.items c.requires.each_cpu c.in_ok-groups.ensures c.in_ok-cpus.ensures
          c.in_ok-holders.ensures;
      room = omega (arith, each, counted, marks, cpus);
    }

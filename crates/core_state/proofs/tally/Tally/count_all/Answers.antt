use Rattle.std.proofs.Common.{ap, arith, ◌∙◌}
use Rattle.std.specs.Prelude.{◌&&◌}
use Rattle.tree_plan.specs.Paths.{is_placed_in}
use Rattle.core_parts.specs.declared.status.CpuStatus.{CpuStatus}
use Rattle.core_state.proofs.Tallies.{one_counted, read_status, room_at}
use Rattle.core_state.proofs.tally.Tally.count_all.Goals as goal

pub count_in-requires : goal.count_in-requires
count_in-requires g c =
    room_at c.args.tree.now c.args.cpus.now.items c.loop-cpu.cpu c.loop-cpu.self
    c.loop-cpu.invariant c.status-status.result.mark c.is_placed_online.result
    (let low = c.loop-cpu-test.true in
    let narrow = c.cpu_count-cpu-end.type_inv in
    omega (arith, low, narrow))

pub loop-cpu-preserved : goal.loop-cpu-preserved
loop-cpu-preserved g c =
    let was = read_status c.args.cpus.now.items c.loop-cpu.cpu c.from.result c.index.result.now
    c.status-status.result c.from.ensures
    (let low = c.loop-cpu-test.true in
    let count = c.cpu_count-cpu-end.ensures in
    let each = c.requires.each_cpu in
    omega (arith, low, count, each)) c.index.ensures c.status-status.ensures.status in
    one_counted c.args.tree.now c.args.cpus.now.items c.loop-cpu.cpu c.loop-cpu.self
    c.loop-cpu.invariant c.status-status.result.mark c.is_placed_online.result
    c.count_in.new.self
    (ap (λ (s : CpuStatus). s.mark) was)
    (c.is_placed_online.ensures
    ∙ ap (λ (s : CpuStatus). is_placed_in c.args.tree.now c.loop-cpu.cpu && s.online) was)
    c.count_in.ensures

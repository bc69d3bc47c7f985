use Rattle.std.proofs.Common.{ap, arith, refl, sym, ◌∙◌}
use Rattle.std.specs.Prelude.{◌&&◌}
use Rattle.tree_plan.specs.Paths.{is_placed_in}
use Rattle.core_parts.specs.declared.status.CpuStatus.{CpuStatus}
use Rattle.core_state.proofs.Tallies.{again, may_count_out, may_count_in, one_alike, read_status}
use Rattle.core_state.proofs.tally.Tally.recount.Goals as goal

pub count_out-requires : goal.count_out-requires
count_out-requires g c =
    let was = read_status c.args.cpus.now.items c.args.cpu.0 c.from.result c.index.result.now
    c.status-before.result c.from.ensures c.requires.cpu c.index.ensures
    c.status-before.ensures.status in
    may_count_out c.args.tree.now c.args.cpus.now.items c.args.cpu.0 c.requires.cpu c.args.self.now
    c.requires.tallied c.status-before.result.mark c.is_placed_online.result
    (ap (λ (s : CpuStatus). s.mark) was)
    (c.is_placed_online.ensures
    ∙ ap (λ (s : CpuStatus). is_placed_in c.args.tree.now c.args.cpu.0 && s.online) was)

pub count_in-requires : goal.count_in-requires
count_in-requires g c =
    let was = read_status c.args.cpus.now.items c.args.cpu.0 c.from.result c.index.result.now
    c.status-before.result c.from.ensures c.requires.cpu c.index.ensures
    c.status-before.ensures.status in
    may_count_in c.args.tree.now c.args.cpus.now.items c.args.cpu.0 c.requires.cpu c.args.self.now
    c.requires.tallied c.status-before.result.mark c.is_placed_online.result
    (ap (λ (s : CpuStatus). s.mark) was)
    (c.is_placed_online.ensures
    ∙ ap (λ (s : CpuStatus). is_placed_in c.args.tree.now c.args.cpu.0 && s.online) was)
    c.count_out.new.self c.count_out.ensures c.args.status.mark c.is_placed_online-2.result
    (let each = c.requires.each_cpu in
    let count = c.cpu_count.ensures in
    let narrow = c.cpu_count.type_inv in
    omega (arith, each, count, narrow))

pub returns : goal.returns
returns g c =
    let was = read_status c.args.cpus.now.items c.args.cpu.0 c.from.result c.index.result.now
    c.status-before.result c.from.ensures c.requires.cpu c.index.ensures
    c.status-before.ensures.status in
    again c.args.tree.now c.args.cpus.now.items c.args.cpu.0 c.requires.cpu c.args.self.now
    c.requires.tallied c.status-before.result.mark c.is_placed_online.result
    (ap (λ (s : CpuStatus). s.mark) was)
    (c.is_placed_online.ensures
    ∙ ap (λ (s : CpuStatus). is_placed_in c.args.tree.now c.args.cpu.0 && s.online) was)
    c.count_out.new.self c.count_out.ensures _ c.count_in.new.self c.args.status.mark
    c.is_placed_online-2.result refl c.is_placed_online-2.ensures c.count_in.ensures

pub returns-then-counts_alike : goal.returns-then-counts_alike
returns-then-counts_alike g c =
    let was = read_status c.args.cpus.now.items c.args.cpu.0 c.from.result c.index.result.now
    c.status-before.result c.from.ensures c.requires.cpu c.index.ensures
    c.status-before.ensures.status in
    one_alike c.args.tree.now c.args.cpus.now.items c.args.cpu.0 _ c.args.self.now c.requires.cpu
    (sym (c.counts_alike.ensures.mark c.if-counts_alike.true) ∙ ap (λ (s : CpuStatus). s.mark) was)
    (sym (c.counts_alike.ensures.online c.if-counts_alike.true)
    ∙ ap (λ (s : CpuStatus). s.online) was)
    c.requires.tallied

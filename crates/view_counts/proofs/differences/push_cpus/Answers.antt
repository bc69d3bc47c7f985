use Rattle.std.proofs.Common.{◌++◌, ◌+◌, ◌-◌, sym, ap, append_assoc, append-nil, ◌∙◌}
use Rattle.view_counts.specs.Differences.{difference_lines}
use Rattle.view_counts.proofs.Joined.{lines_end, lines_more}
use Rattle.view_counts.proofs.differences.push_cpus.Goals as goal

pub loop-cpu-preserved : goal.loop-cpu-preserved
loop-cpu-preserved c =
    let n = c.max-count.result in
    let i = c.loop-cpu.cpu in
    let rest = difference_lines (n - (i + 1)) (i + 1) c.args.ones.now c.args.twos.now in
    ap (λ t. t ++ rest) c.in_ok-push_cpu.ensures
    ∙ append_assoc c.loop-cpu.text.items _ rest
    ∙ ap (λ t. c.loop-cpu.text.items ++ t)
    (sym (lines_more n i c.args.ones.now c.args.twos.now c.loop-cpu-test.true))
    ∙ c.loop-cpu.invariant

pub returns : goal.returns
returns c =
    let n = c.max-count.result in
    let i = c.loop-cpu.cpu in
    sym (append-nil c.loop-cpu.text.items)
    ∙ ap (λ t. c.loop-cpu.text.items ++ t)
    (sym (lines_end n i c.args.ones.now c.args.twos.now c.loop-cpu-test.false))
    ∙ c.loop-cpu.invariant
    ∙ ap (λ k. c.args.text.now.items ++ difference_lines k 0 c.args.ones.now c.args.twos.now)
    c.max-count.ensures

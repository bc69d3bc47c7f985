use Rattle.std.proofs.Common.{◌++◌, ap, ◌∙◌}
use Rattle.trace_explain.proofs.Prints.{as_plain, machine_sliced}
use Rattle.trace_explain.proofs.printing.push_machine.Goals as goal

pub returns : goal.returns
returns c =
    let t = c.args.trace.now in
    c.in_ok-push_bytes.ensures.ok
    ∙ ap (λ x. c.args.text.now.items ++ x)
    (machine_sliced t c.deref.result.now
    (as_plain t c.copy.result c.new.result c.deref.result.now c.copy.ensures c.new.ensures (c.deref.ensures.value ∙ c.in_ok-printed.ensures)))

use Rattle.trace_explain.proofs.Prints.{whole}
use Rattle.trace_explain.proofs.printing.print_trace.Goals as goal

pub returns : goal.returns
returns c =
    whole c.args.trace.now _ _ _ _ _ c.new-text.ensures.items c.in_ok-push_bytes.ensures.ok c.in_ok-push_machine.ensures
    (rw c.as_slice.ensures at c.in_ok-push_lines.ensures) c.in_ok-push_bytes-2.ensures.ok

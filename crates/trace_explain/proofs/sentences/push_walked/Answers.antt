use Rattle.std.specs.Prelude.{codes}
use Rattle.std.specs.Fmt.{decimal}
use Rattle.trace_explain.proofs.Joined.{behind_number}
use Rattle.trace_explain.proofs.sentences.push_walked.Goals as goal

pub returns : goal.returns
returns g c =
    behind_number c.args.text.now.items (codes "the walk of CPU ") (decimal c.args.cpu.0) _ _ _
    (rw c.from.ensures at c.in_ok-push_after.ensures) c.in_ok-push_walk.ensures

use Rattle.trace_explain.specs.Explained.{refused_text}
use Rattle.trace_explain.proofs.explaining.push_refused.Goals as goal

pub returns : goal.returns
unfolding refused_text
returns c =
    rw c.in_ok-sentence.ensures at
    (rw c.deref.ensures.value at (rw c.from.ensures at c.push_line.ensures))

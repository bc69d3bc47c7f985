use Rattle.std.proofs.Common.{rules}
use Rattle.trace_text.proofs.HeadLaws.{refused_front}
use Rattle.trace_text.proofs.reading.refuse_front.Goals as goal

pub returns : goal.returns
returns c = refused_front c.args.bytes.now c.deref.result.now c.in-Err.fault c.requires (search rules) c.in-Err.ensures.err

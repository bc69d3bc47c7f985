use Rattle.std.proofs.Common.{rules}
use Rattle.program_replies.proofs.words.run_script.Goals as goal

pub returns-in-Ok : goal.returns-in-Ok
returns-in-Ok g c = (c.in-Ok.core, search rules)

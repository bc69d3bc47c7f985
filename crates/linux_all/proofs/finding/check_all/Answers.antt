use Rattle.std.proofs.Common.{◌∙◌, ap₂}
use Rattle.text_words.specs.Words.{lines_of}
use Rattle.linux_rules.specs.Judge.{start}
use Rattle.linux_rules.specs.Marks.{kept_lines}
use Rattle.linux_all.specs.All.{first_said}
use Rattle.linux_all.proofs.First.{first_law}
use Rattle.linux_all.proofs.finding.check_all.Goals as goal

pub returns-clause-first : goal.returns-clause-first
returns-clause-first c =
    ap₂ first_said c.in_ok-found.ensures.misfits c.in_ok-found.ensures.end
    ∙ first_law (start (lines_of c.args.bytes.now)) (kept_lines (lines_of c.args.bytes.now))

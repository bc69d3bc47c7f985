use Rattle.text_words.specs.Words.{lines_of}
use Rattle.linux_rules.specs.Judge.{start}
use Rattle.linux_rules.specs.Marks.{kept_lines, lost_lines}
use Rattle.linux_rules.proofs.Answered.{answers_law}
use Rattle.linux_rules.proofs.Verdicts.{first_law, fits_law}
use Rattle.linux_rules.proofs.Standing.{orders_law}
use Rattle.linux_rules.proofs.judge.check_trace.Goals as goal

pub returns-clause-fits : goal.returns-clause-fits
returns-clause-fits c =
    fits_law (start (lines_of c.args.bytes.now)) (kept_lines (lines_of c.args.bytes.now))
    c.in_ok-verdict.verdict c.in_ok-verdict.ensures

pub returns-clause-first : goal.returns-clause-first
returns-clause-first c =
    first_law (start (lines_of c.args.bytes.now)) (kept_lines (lines_of c.args.bytes.now))
    c.in_ok-verdict.verdict c.in_ok-verdict.ensures

pub returns-clause-answered : goal.returns-clause-answered
returns-clause-answered c =
    answers_law c.law_rests.ensures (start (lines_of c.args.bytes.now))
    (kept_lines (lines_of c.args.bytes.now)) c.in_ok-verdict.verdict c.in_ok-verdict.ensures

pub returns-clause-ordered : goal.returns-clause-ordered
returns-clause-ordered c fits =
    orders_law (lost_lines (lines_of c.args.bytes.now)) (kept_lines (lines_of c.args.bytes.now))

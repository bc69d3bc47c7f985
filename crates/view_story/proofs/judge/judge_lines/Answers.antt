use Rattle.view_story.specs.Judge.{start}
use Rattle.view_story.proofs.Verdicts.{first_law, fits_law}
use Rattle.view_story.proofs.judge.judge_lines.Goals as goal

pub returns-clause-fits : goal.returns-clause-fits
returns-clause-fits c =
    fits_law c.args.script.now (start c.args.script.now c.args.play) c.args.lines.now
    c.in_ok-verdict.verdict c.in_ok-verdict.ensures

pub returns-clause-first : goal.returns-clause-first
returns-clause-first c =
    first_law c.args.script.now (start c.args.script.now c.args.play) c.args.lines.now
    c.in_ok-verdict.verdict c.in_ok-verdict.ensures

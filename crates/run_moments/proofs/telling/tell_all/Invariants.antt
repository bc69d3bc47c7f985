use Rattle.std.proofs.Common.{◌≡◌, ◌+◌, ◌++◌, take}
use Rattle.tm_report.specs.Lines.{report_text}
use Rattle.play_rules.specs.Parts.{Gains, counted}
use Rattle.run_plain.specs.run_story.Stories.{runs_told}
use Rattle.run_moments.proofs.telling.tell_all.Given as goal

abbrev pub invariant-loop-line : goal.invariant-loop-line
invariant-loop-line l = record {
  text : l.telling.text ≡ l.fn.telling.text ++ report_text (take l.line-index l.lines);
  work : counted l.telling.work ≡ counted (l.fn.telling.work + runs_told (take l.line-index l.lines));
  gains : Gains l.fn.telling.text l.telling.text;
}
